-- `value_parameters::all_parts` meets its contract. The invariant: all parts are parameters just where those from `at` on are. Assumes nothing.
use mathlib.Core.Path.{◌≡◌}
use Prim.Native.Nat.{◌-◌, ◌≤◌}
use mathlib.Core.Bool.{cond}
use lib.ListN.{length, drop}
use Rattle.text_bytes.specs.Bytes.{all}
use Rattle.value_parameters.specs.Parameters.{is_parameter, is_parameters}
use Rattle.value_parameters.proofs.Laws.Parts.{parts}
use Rattle.value_parameters.proofs.all_parts.Given as goal

abbrev pub invariant-loop-bars : goal.invariant-loop-bars
invariant-loop-bars l = (l.at ≤ length l.s) × (cond l.bars (is_parameters l.s) (is_parameter l.s) ≡ all is_parameter (parts l.bars (drop l.at l.s)))

abbrev pub decreases-loop-bars : goal.decreases-loop-bars
decreases-loop-bars l = length l.s - l.at
