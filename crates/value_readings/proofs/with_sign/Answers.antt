-- `value_readings::with_sign` meets its contract: the numerals are below ten to the fifteenth, so the negative fits too. Assumes nothing.
use mathlib.Core.Path.{sym, ap, ◌∙◌}
use mathlib.Core.Bool.{Bool}
use native.Mathlib.Omega.{arith}
use lib.IntN.{pos, ◌-ℤ◌}
use mir.Syntax.{w64}
use mir.Val.{to_z}
use mir.ValLaws.{to_z-of_z}
use Rattle.value_readings.specs.Reading.{signed}
use Rattle.value_readings.proofs.Laws.Numbers.{minus_fits, minus_is, as_i64}
use Rattle.value_readings.proofs.with_sign.Goals as goal

pub overflow_sub-result : goal.overflow_sub-result
overflow_sub-result c = minus_fits c.args.n (omega arith)

pub returns-then-minus : goal.returns-then-minus
returns-then-minus c = to_z-of_z w64 (pos 0 -ℤ to_z w64 c.args.n) (minus_fits c.args.n (omega arith)) ∙ minus_is c.args.n (omega arith) ∙ ap (λ (m : Bool). signed m c.args.n) (sym c.if-minus.true)

pub returns : goal.returns
returns c = as_i64 c.args.n (omega arith) ∙ ap (λ (m : Bool). signed m c.args.n) (sym c.if-minus.false)
