-- `mender_places::lay` meets its contract. The invariant: what is laid, and the bytes that are left, are all of them. Assumes nothing.
use mathlib.Core.Path.{◌≡◌, refl, sym, ap, ◌∙◌}
use Prim.Native.Nat.{ℕ, ◌+◌, ◌<◌}
use native.Mathlib.Omega.{arith}
use lib.ListN.{length, get_or, length-set}
use Rattle.scan.specs.Places.{lent}
use Rattle.mender_places.specs.Places.{lay_all}
use Rattle.mender_places.proofs.Laws.Laying.{lay_step, lay_end}
use Rattle.mender_places.proofs.lay.Goals as goal

pub loop-i-init : goal.loop-i-init
loop-i-init c =
    let e : c.args.to + 0 ≡ c.args.to = omega arith in
    (refl, ap (λ (k : ℕ). lay_all (lent c.args.copy.now k) c.args.bytes.now) e)

pub loop-i-preserved : goal.loop-i-preserved
loop-i-preserved c =
    let lt : c.loop-i.i < length c.args.bytes.now = omega arith in
    (length-set c.loop-i.copy (c.args.to + c.loop-i.i) (get_or c.args.bytes.now c.loop-i.i 0) ∙ c.loop-i.invariant.0, sym (lay_step c.args.bytes.now c.loop-i.copy c.args.to c.loop-i.i lt) ∙ c.loop-i.invariant.1)

pub returns : goal.returns
returns c = sym (lay_end c.args.bytes.now c.loop-i.copy c.args.to c.loop-i.i (omega arith) (λ h. omega (arith, h))) ∙ c.loop-i.invariant.1
