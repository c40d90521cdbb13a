-- `book_lookup::lookup`: the first flaw so far, the entry that the links have reached and those after it decide. Assumes nothing.
use Prim.Native.Nat.{◌-◌}
use Rattle.book_names.proofs.Laws.Linking.{Reached}
use Rattle.book_lookup.proofs.lookup.Given as goal

abbrev pub invariant-loop-entry : goal.invariant-loop-entry
invariant-loop-entry l = Reached l.table l.name l.flaw l.entry

abbrev pub decreases-loop-entry : goal.decreases-loop-entry
decreases-loop-entry l = l.rows - l.entry
