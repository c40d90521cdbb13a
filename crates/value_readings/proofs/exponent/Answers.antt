-- `value_readings::exponent` meets its contract: after the letter and a mark there are 1 to 3 digits, and their number is below a thousand. Assumes nothing.
use mathlib.Core.Path.{◌≡◌, ◌∙◌}
use Prim.Native.Nat.{◌+◌, ◌≤◌, ◌<◌, ◌^◌}
use native.Mathlib.Omega.{arith}
use lib.ListN.{length}
use lib.IntN.{nat_abs}
use mir.Syntax.{w32, w64}
use mir.Val.{to_z, of_z}
use mir.ValLaws.{to_z-of_z}
use Rattle.value_readings.specs.Reading.{signed}
use Rattle.value_readings.proofs.Laws.Numbers.{three_le}
use Rattle.value_readings.proofs.Laws.Powers.{signed_small, small_fits}
use Rattle.value_readings.proofs.Laws.Readings.{exponent_zero, exponent_digits, exponent_some}
use Rattle.value_readings.proofs.exponent.Goals as goal

pub returns-then-x-eq0 : goal.returns-then-x-eq0
returns-then-x-eq0 c = (exponent_zero c.args.x.now c.if-x-eq0.true, omega arith)

pub number_on-n-requires : goal.number_on-n-requires
number_on-n-requires c =
    let w = exponent_digits c.args.x.now _ c.if-x-eq0.false c.without_mark.ensures c.requires in
    (omega arith, omega arith, w.1)

pub with_sign-z-requires : goal.with_sign-z-requires
with_sign-z-requires c =
    let below : c.number_on-n.result < 10 ^ 3 = let w = exponent_digits c.args.x.now _ c.if-x-eq0.false c.without_mark.ensures c.requires in
    omega (arith, three_le (0 + length c.without_mark.result.now) (omega arith)) in
    omega (arith, below)

pub overflow_cast-result : goal.overflow_cast-result
overflow_cast-result c =
    let below : c.number_on-n.result < 10 ^ 3 = let w = exponent_digits c.args.x.now _ c.if-x-eq0.false c.without_mark.ensures c.requires in
    omega (arith, three_le (0 + length c.without_mark.result.now) (omega arith)) in
    let signed_is : to_z w64 (of_z w64 c.with_sign-z.result) ≡ signed c.has_minus-minus.result c.number_on-n.result = to_z-of_z w64 c.with_sign-z.result (record { sfits = c.with_sign-z.type_inv }) ∙ c.with_sign-z.ensures in
    let small : nat_abs (to_z w64 (of_z w64 c.with_sign-z.result)) ≤ 999 = signed_small _ c.has_minus-minus.result c.number_on-n.result signed_is below in
    small_fits _ small

pub returns : goal.returns
returns c =
    let below : c.number_on-n.result < 10 ^ 3 = let w = exponent_digits c.args.x.now _ c.if-x-eq0.false c.without_mark.ensures c.requires in
    omega (arith, three_le (0 + length c.without_mark.result.now) (omega arith)) in
    let signed_is : to_z w64 (of_z w64 c.with_sign-z.result) ≡ signed c.has_minus-minus.result c.number_on-n.result = to_z-of_z w64 c.with_sign-z.result (record { sfits = c.with_sign-z.type_inv }) ∙ c.with_sign-z.ensures in
    let small : nat_abs (to_z w64 (of_z w64 c.with_sign-z.result)) ≤ 999 = signed_small _ c.has_minus-minus.result c.number_on-n.result signed_is below in
    let kept = to_z-of_z w32 (to_z w64 (of_z w64 c.with_sign-z.result)) (small_fits _ small) in
    (kept ∙ signed_is ∙ exponent_some c.args.x.now _ c.if-x-eq0.false c.without_mark.ensures _ _ c.has_minus-minus.ensures c.number_on-n.ensures.0, rw kept small)
