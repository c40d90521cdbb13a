-- `text::lines::opens_in` meets its contract. The invariant: unless one was met, none of the k bytes passed is an LF before b. Assumes nothing.
use mathlib.Core.Path.{◌≡◌}
use native.Mathlib.Nat.{not-suc-le-zero}
use native.Mathlib.Omega.{arith}
use Rattle.text.proofs.Laws.Openings.{still_more}
use Rattle.text.proofs.lines.opens_in.Goals as goal

pub loop-k-init : goal.loop-k-init
loop-k-init c = λ h j l. absurd (not-suc-le-zero l)

pub loop-k-preserved : goal.loop-k-preserved
loop-k-preserved c = still_more c.args.b c.args.file.now c.args.at c.loop-k.k c.loop-k.hit c.loop-k.invariant

pub returns : goal.returns
returns c =
    let z : c.loop-k.k ≡ 64 = omega arith in
    λ h. rw z at (c.loop-k.invariant h)
