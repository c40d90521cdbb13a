-- `value_readings::exact` meets its contract. The number is below 2 ^ 53, so the cast loses nothing. Assumes nothing.
use mathlib.Core.Path.{ap}
use native.Mathlib.Omega.{arith}
use lib.Ieee.{binary64, of_int}
use Rattle.value_readings.proofs.Laws.Numbers.{as_i64, in_float_lem}
use Rattle.value_readings.proofs.exact.Goals as goal

pub int_to_float-result : goal.int_to_float-result
int_to_float-result c = in_float_lem c.args.n (omega arith)

pub returns : goal.returns
returns c = ap (of_int binary64) (as_i64 c.args.n (omega arith))
