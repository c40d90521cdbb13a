-- `book::directory::section_of`: none of the sections before j has the code, so that the first that has it is the first of those from j on. Assumes nothing.
use mathlib.Core.Path.{◌≡◌}
use Prim.Native.Nat.{◌+◌, ◌≤◌}
use lib.ListN.{drop}
use Rattle.book.specs.Book.{coded_from, section_by}
use Rattle.book.specs.Text.{book_in}
use Rattle.book.proofs.directory.section_of.Given as goal

abbrev pub invariant-loop-j : goal.invariant-loop-j
invariant-loop-j l = (l.j ≤ l.count) × (section_by (book_in l.text) l.row l.code ≡ coded_from l.row ((book_in l.text).first + l.j) (drop l.j (book_in l.text).sections) l.code)
