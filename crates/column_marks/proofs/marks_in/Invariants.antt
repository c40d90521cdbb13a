-- `column_marks::marks_in` meets its contract. The invariant: the cells before k are marked, and the cells from `at` on are left. Assumes nothing.
use Prim.Native.Nat.{◌≤◌}
use lib.ListN.{length}
use Rattle.column_marks.proofs.Laws.Columning.{SoFar}
use Rattle.column_marks.proofs.marks_in.Given as goal

abbrev pub invariant-loop-k : goal.invariant-loop-k
invariant-loop-k l = (l.at ≤ length l.header) × SoFar l.asked l.header l.at l.k l.width l.of
