-- `value_readings::whole` meets its contract: the digits are summed, and the sign comes last. Assumes nothing.
use mir.Syntax.{w64}
use mir.ValLaws.{to_z-of_z}
use Prim.Native.Nat.{◌+◌}
use lib.ListN.{length}
use Rattle.value_readings.specs.Reading.{signed}
use Rattle.value_readings.specs.declared.Value.TheVariants.{Whole}
use mathlib.Core.Path.{ap, ◌∙◌}
use native.Mathlib.Omega.{arith}
use Rattle.value_readings.proofs.Laws.Numbers.{ten_le}
use Rattle.value_readings.proofs.whole.Goals as goal

pub with_sign-requires : goal.with_sign-requires
with_sign-requires c = omega (arith, ten_le (0 + length c.args.u.now) (omega arith))

pub returns : goal.returns
returns c = ap Whole (to_z-of_z w64 c.with_sign.result (record { sfits = c.with_sign.type_inv }) ∙ c.with_sign.ensures ∙ ap (signed c.args.minus) c.number_on-n.ensures.0)
