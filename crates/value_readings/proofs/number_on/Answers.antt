-- `value_readings::number_on` meets its contract. The invariant: the number is that of the digits left after m, which k and the digits passed wrote. Assumes nothing.
use mathlib.Core.Path.{◌≡◌, refl, sym, ◌∙◌}
use Prim.Native.Nat.{◌+◌, ◌-◌}
use native.Mathlib.Omega.{arith}
use lib.ListN.{length, get_or}
use Rattle.value_readings.proofs.Laws.Numbers.{digit_here, digits_on, number_next, number_end, grow, ten_le}
use Rattle.value_readings.proofs.number_on.Goals as goal

pub loop-b-init : goal.loop-b-init
loop-b-init c =
    let z : c.args.k + 0 ≡ c.args.k = omega arith in
    (rw z c.requires.1, c.requires.2, refl)

pub overflow_mul-m : goal.overflow_mul-m
overflow_mul-m c = omega (arith, ten_le (c.args.k + c.loop-b.b-index) (omega arith))

pub overflow_sub-b : goal.overflow_sub-b
overflow_sub-b c = (digit_here c.args.s.now c.loop-b.b-index (omega arith) c.loop-b.invariant.1).0

pub overflow_add-m : goal.overflow_add-m
overflow_add-m c =
    let d = digit_here c.args.s.now c.loop-b.b-index (omega arith) c.loop-b.invariant.1 in
    let w : c.from.result ≡ get_or c.args.s.now c.loop-b.b-index 0 - 48 = c.from.ensures in
    omega (arith, ten_le (c.args.k + c.loop-b.b-index) (omega arith))

pub loop-b-preserved : goal.loop-b-preserved
loop-b-preserved c =
    let i = c.loop-b.b-index in
    let d = digit_here c.args.s.now i (omega arith) c.loop-b.invariant.1 in
    let w : c.from.result ≡ get_or c.args.s.now i 0 - 48 = c.from.ensures in
    let z : c.args.k + (i + 1) ≡ c.args.k + i + 1 = omega arith in
    (rw z (grow c.loop-b.m c.from.result (c.args.k + i) c.loop-b.invariant.0 (omega arith)), digits_on c.args.s.now i (omega arith) c.loop-b.invariant.1, c.loop-b.invariant.2 ∙ number_next c.args.s.now i (omega arith) c.loop-b.m ∙ rw w)

pub returns : goal.returns
returns c =
    let e : c.loop-b.b-index ≡ length c.args.s.now = omega arith in
    (sym (c.loop-b.invariant.2 ∙ number_end c.loop-b.m c.args.s.now c.loop-b.b-index (omega arith)), rw (← e) c.loop-b.invariant.0)
