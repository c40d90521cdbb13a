-- `line_end::judge_demands` meets its contract. The loop's invariant: what was put, and what the demands left will put, is what all demands put. Assumes nothing.
use mathlib.Core.Path.{◌≡◌}
use mathlib.Core.List.{List}
use Prim.Native.Nat.{◌+◌, ◌≤◌}
use lib.ListN.{length, drop}
use Rattle.book.specs.Book.{wants_in, wants}
use Rattle.book.specs.Text.{book_in}
use Rattle.rules.specs.Breaks.{Break}
use Rattle.scan.specs.Places.{lent, put_all}
use Rattle.scan.specs.Machine.{want_breaks, end_breaks}
use Rattle.line_end.specs.Ends.{seen}
use Rattle.line_end.proofs.judge_demands.Given as goal

abbrev pub invariant-loop-k : goal.invariant-loop-k
invariant-loop-k l = (l.c + length (wants_in (drop l.k (book_in l.book).demands)) ≤ l.count + length (wants (book_in l.book))) × (length l.places ≡ length l.initial.places)
    × ((rest : List Break) → put_all (lent l.places l.c) (want_breaks (book_in l.book) (seen l.slots l.flags l.end) l.end.line (wants_in (drop l.k (book_in l.book).demands)) rest)
    ≡ put_all (lent l.initial.places l.count) (end_breaks (book_in l.book) (seen l.slots l.flags l.end) l.end.line rest))
