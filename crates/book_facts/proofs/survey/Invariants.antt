-- `book_facts::survey`: the flags and the facts so far, and the lines that are left, decide. Assumes nothing.
use Prim.Native.Nat.{◌-◌, ◌≤◌}
use lib.ListN.{length, drop}
use Rattle.text.specs.Lines.{lines}
use Rattle.book.specs.Text.{book_in}
use Rattle.book_ids.specs.Ids.{Flags}
use Rattle.book_ids.proofs.Laws.Marks.{Left as IdsLeft}
use Rattle.book_facts.proofs.Laws.Surveying.{Left}
use Rattle.book_facts.proofs.survey.Given as goal

abbrev pub invariant-loop-at : goal.invariant-loop-at
invariant-loop-at l = (l.at ≤ length l.file) × (l.n ≤ l.at) × Flags l.flags × IdsLeft (book_in l.book) l.flags l.file l.at × Left (lines l.file) l.facts l.n (lines (drop l.at l.file))

abbrev pub decreases-loop-at : goal.decreases-loop-at
decreases-loop-at l = length l.file - l.at
