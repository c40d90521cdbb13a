-- `value_readings::decimal` meets its contract: 15 digits at most and a power near 0 make a decimal, all else a long one. Assumes nothing.
use mathlib.Core.Path.{◌≡◌, ap, sym, ◌∙◌}
use mathlib.Core.Bool.{true}
use Prim.Native.Nat.{◌+◌}
use native.Mathlib.Omega.{arith}
use borrow.Author.Tests.{not-true, not-false, leb-true}
use lib.Dec.{leb}
use lib.IntN.{ℤ, pos, nat_abs, ◌-ℤ◌}
use lib.ListN.{length}
use mir.Syntax.{w32, w64}
use mir.Val.{to_z, of_z}
use mir.ValLaws.{to_z-of_z}
use Rattle.value_readings.specs.Reading.{scale_of}
use Rattle.value_readings.proofs.Laws.Numbers.{ten_le}
use Rattle.value_readings.proofs.Laws.Readings.{long_digits, long_power, short_decimal}
use Rattle.value_readings.proofs.decimal.Goals as goal

pub returns-then-a-gt-DECIMAL_DIGITS : goal.returns-then-a-gt-DECIMAL_DIGITS
returns-then-a-gt-DECIMAL_DIGITS c = long_digits c.args.minus _ _ c.args.x (omega arith)

pub returns-then-c-a : goal.returns-then-c-a
returns-then-c-a c = long_digits c.args.minus _ _ c.args.x (omega arith)

pub returns-then-not-is_near : goal.returns-then-not-is_near
returns-then-not-is_near c =
    let power_is : to_z w32 (of_z w32 c.less-p.result) ≡ scale_of c.args.c.now c.args.x = to_z-of_z w32 c.less-p.result (record { sfits = c.less-p.type_inv })
    ∙ c.less-p.ensures
    ∙ ap (λ (y : ℤ). y -ℤ pos (length c.args.c.now)) (to_z-of_z w32 c.args.x c.ranges.x) in
    long_power c.args.minus c.args.a.now c.args.c.now c.args.x _ power_is (sym c.is_near.ensures ∙ not-true _ c.if-not-is_near.true-raw)

pub number_on-n-requires : goal.number_on-n-requires
number_on-n-requires c =
    let z : 0 + length c.args.a.now ≡ length c.args.a.now = omega arith in
    (omega arith, rw z at c.number_on-k.ensures.1, c.requires.1)

pub with_sign-numerals-requires : goal.with_sign-numerals-requires
with_sign-numerals-requires c = omega (arith, ten_le (length c.args.a.now + length c.args.c.now) (omega arith))

pub double_of-double-requires : goal.double_of-double-requires
double_of-double-requires c =
    let near : leb (nat_abs (to_z w32 (of_z w32 c.less-p.result))) 22 ≡ true = sym c.is_near.ensures ∙ not-false _ c.if-not-is_near.false-raw in
    (omega (arith, ten_le (length c.args.a.now + length c.args.c.now) (omega arith)), leb-true _ 22 near)

pub returns : goal.returns
returns c =
    let power_is : to_z w32 (of_z w32 c.less-p.result) ≡ scale_of c.args.c.now c.args.x = to_z-of_z w32 c.less-p.result (record { sfits = c.less-p.type_inv })
    ∙ c.less-p.ensures
    ∙ ap (λ (y : ℤ). y -ℤ pos (length c.args.c.now)) (to_z-of_z w32 c.args.x c.ranges.x) in
    let near : leb (nat_abs (to_z w32 (of_z w32 c.less-p.result))) 22 ≡ true = sym c.is_near.ensures ∙ not-false _ c.if-not-is_near.false-raw in
    short_decimal c.args.minus c.args.a.now c.args.c.now c.args.x _ power_is c.number_on-k.result c.number_on-n.result _ _
    (omega arith)
    near
    c.number_on-k.ensures.0
    c.number_on-n.ensures.0
    (to_z-of_z w64 c.with_sign-numerals.result (record { sfits = c.with_sign-numerals.type_inv }) ∙ c.with_sign-numerals.ensures)
    c.double_of-double.ensures
