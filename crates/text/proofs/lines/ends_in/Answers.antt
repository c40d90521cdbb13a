-- `text::lines::ends_in` meets its contract. The invariant: the LF met are the lines passed with the k bytes passed. Assumes nothing.
use mathlib.Core.Path.{◌≡◌, subst⁻¹}
use Prim.Native.Nat.{ℕ, ◌+◌}
use native.Mathlib.Omega.{arith}
use Rattle.text.proofs.Laws.Openings.{Counted, counted_none, counted_end, counted_other}
use Rattle.text.proofs.lines.ends_in.Goals as goal
use Rattle.text.proofs.lines.ends_in.Goals.{then-file-at-eq-LF, else-file-at-eq-LF}

pub loop-k-init : goal.loop-k-init
loop-k-init c = counted_none c.args.file.now c.args.at

pub loop-k-preserved : goal.loop-k-preserved
loop-k-preserved c =
    elim c.if-file-at-eq-LF.branch [ then-file-at-eq-LF w ↦ subst⁻¹ (λ (m : ℕ). Counted c.args.file.now c.args.at m (c.loop-k.k + 1)) w.n-is (counted_end c.args.file.now c.args.at c.loop-k.n c.loop-k.k (omega arith) (omega arith) c.loop-k.invariant w.if-file-at-eq-LF.true) | else-file-at-eq-LF w ↦ subst⁻¹ (λ (m : ℕ). Counted c.args.file.now c.args.at m (c.loop-k.k + 1)) w.n-is (counted_other c.args.file.now c.args.at c.loop-k.n c.loop-k.k (omega arith) (omega arith) c.loop-k.invariant w.if-file-at-eq-LF.false) ]

pub returns : goal.returns
returns c =
    let z : c.loop-k.k ≡ 64 = omega arith in
    (omega arith, rw z at c.loop-k.invariant.1)
