-- `text_bytes::pass` meets its contract. The invariant: what the blocks left begin with is what follows i, and the first b from `from` on is the first from i on.
-- Assumes nothing.
use mathlib.Core.Path.{◌≡◌, sym, ◌∙◌}
use Prim.Native.Nat.{◌+◌, ◌≤◌}
use native.Mathlib.Omega.{arith}
use mathlib.Core.List.{◌++◌}
use lib.ListN.{length, drop}
use Rattle.std.specs.Slice.Iter.{chunks_exact_rest}
use Rattle.text_bytes.proofs.Laws.Blocks.{Clear, piece_rest, piece_within, piece_clear}
use Rattle.text_bytes.proofs.pass.Goals as goal

pub loop-block-preserved : goal.loop-block-preserved
loop-block-preserved c =
    let step = c.in-Some.ensures.steps in
    let i = c.loop-block.i in
    let l = c.args.s.now in
    let x = c.in-Some.block.now in
    let r = chunks_exact_rest c.next.new.self in
    let n : length x ≡ 16 = step.1.1 ∙ c.loop-block.invariant.0 in
    let e : drop i l ≡ x ++ r = sym c.loop-block.invariant.1 ∙ step.1.0 in
    let rest : r ≡ drop (i + length x) l = piece_rest i l x r e in
    let within : i + length x ≤ length l = piece_within i l x r e (omega arith) in
    let clear : Clear c.args.b l i (length x) = piece_clear i l x r e c.args.b (sym c.in_block.ensures ∙ c.if-in_block.false) in
    (step.0 ∙ c.loop-block.invariant.0, rw n at rest, omega arith, rw n at within, omega (arith, rw n at clear))
