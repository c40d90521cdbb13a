-- `test_cells::file_start` is safe and ends: every place stays within its slice. Assumes nothing.
use Prim.Native.Nat.{◌-◌, ◌≤◌}
use lib.ListN.{length}
use Rattle.test_cells.proofs.file_start.Given as goal

abbrev pub invariant-loop-at : goal.invariant-loop-at
invariant-loop-at l = l.at ≤ length l.case

abbrev pub decreases-loop-at : goal.decreases-loop-at
decreases-loop-at l = length l.case - l.at
