-- `tally_cells::stop_after` meets its contract: nine more where there are more, else the end. Assumes nothing.
use mathlib.Core.Logic.{inl, inr}
use mathlib.Core.Path.{refl}
use native.Mathlib.Omega.{arith}
use Rattle.tally_cells.proofs.stop_after.Goals as goal

pub returns-then-end-from-gt-WHOLE_DIGITS : goal.returns-then-end-from-gt-WHOLE_DIGITS
returns-then-end-from-gt-WHOLE_DIGITS c = (omega arith, omega arith, omega arith, inr refl)

pub returns-else-end-from-gt-WHOLE_DIGITS : goal.returns-else-end-from-gt-WHOLE_DIGITS
returns-else-end-from-gt-WHOLE_DIGITS c = (omega arith, omega arith, omega arith, inl refl)
