-- `value_parameters::scan_part` meets its contract. The invariant: the run over what follows `at` is the run over what is left, from the state so far, and the
-- byte read last is known outside marks. Assumes nothing.
use Rattle.value_parameters.proofs.Laws.Walks.{shut}
use mathlib.Core.Path.{◌≡◌}
use mathlib.Core.Bool.{false}
use Prim.Native.Nat.{◌-◌, ◌≤◌}
use lib.Dec.{eqb}
use lib.ListN.{length, drop}
use Rattle.value_parameters.specs.Scan.{start, run}
use Rattle.value_parameters.proofs.scan_part.Given as goal

abbrev pub invariant-loop-w : goal.invariant-loop-w
invariant-loop-w l = (l.at ≤ l.w.scan.at) × (l.w.scan.at ≤ length l.s) × (run l.bars (start l.at) (drop l.at l.s) ≡ run l.bars l.w.scan (drop l.w.scan.at l.s))
    × (l.w.scan.quoted ≡ false → eqb l.w.last 93 ≡ shut l.s l.at l.w.scan.at)

abbrev pub decreases-loop-w : goal.decreases-loop-w
decreases-loop-w l = length l.s - l.w.scan.at
