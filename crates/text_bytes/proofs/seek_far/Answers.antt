-- `text_bytes::seek_far` meets its contract: b stands at the first of the bytes looked at where it is met; else what seek finds from the place on is the first from
-- `from` on. Assumes nothing.
use native.Mathlib.Omega.{arith}
use Rattle.text_bytes.proofs.Laws.Pieces.{up_to_hit, up_to_miss}
use Rattle.text_bytes.proofs.seek_far.Goals as goal

pub returns-then-s-near : goal.returns-then-s-near
returns-then-s-near c =
    let z = up_to_hit c.args.b c.args.s.now c.loop-near.near (omega arith) c.if-s-near.true in
    record { starts = omega arith; within = omega arith; at = omega (arith, z) }

pub loop-near-preserved : goal.loop-near-preserved
loop-near-preserved c = omega (arith, up_to_miss c.args.b c.args.s.now c.loop-near.near (omega arith) c.if-s-near.false)
