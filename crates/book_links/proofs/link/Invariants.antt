-- `book_links::link`. The invariant: the rows from `row` on are linked, and what stands before `at` is as it was. Assumes nothing.
use mathlib.Core.Path.{◌≡◌}
use Prim.Native.Nat.{◌/◌, ◌≤◌}
use lib.ListN.{length, take, drop}
use Rattle.book_names.specs.Table.{entries}
use Rattle.book_names.specs.Links.{Linked}
use Rattle.book_links.proofs.link.Given as goal

abbrev pub invariant-loop-row : goal.invariant-loop-row
invariant-loop-row l = (l.row ≤ length l.table / 54) × (length l.book ≡ length l.initial.book) × (take l.at l.book ≡ take l.at l.initial.book) × Linked l.row (entries l.table) (drop l.at l.book)
