-- `line_head_names::head_cells` meets its contract. The loop's invariant: the breaks put so far and those of the names that are left are those of all
-- names; the kinds of the names so far are kept, and they are noted. Assumes nothing.
use mathlib.Core.Path.{◌≡◌}
use mathlib.Core.List.{List}
use Prim.Native.Nat.{◌+◌, ◌-◌, ◌*◌, ◌≤◌}
use lib.ListN.{length, take, drop}
use Rattle.text_bytes.specs.Bytes.{Bytes, any, same, first_from}
use Rattle.text.specs.Lines.{cells}
use Rattle.book.specs.Book.{is_opt}
use Rattle.rules.specs.Breaks.{Break}
use Rattle.scan.specs.Places.{lent, put_all}
use Rattle.scan.specs.Machine.{ids_of, each_cell, head_cell}
use Rattle.line_head_stamps.specs.Ways.{first_named, Noted}
use Rattle.line_head_kinds.proofs.Laws.Kinds.{KindsTo}
use Rattle.book.specs.Text.{book_in}
use Rattle.line_head_names.proofs.head_cells.Given as goal

abbrev pub invariant-loop-c : goal.invariant-loop-c
invariant-loop-c l = (l.at ≤ length l.line) × (2 ≤ l.c) × (l.c + length (cells (drop l.at l.line)) ≤ 257) × (l.k + 10 ≤ l.count + 5 * l.c) × (length l.places ≡ length l.initial.places)
    × ((rest : List Break) → put_all (lent l.places l.k) (each_cell (head_cell (book_in l.book) l.names.section (cells (drop l.names.from l.line)) (ids_of l.flags) l.names.tag.control l.names.tag.line) l.c (cells (drop l.at l.line)) rest)
    ≡ put_all (lent l.initial.places l.count) (each_cell (head_cell (book_in l.book) l.names.section (cells (drop l.names.from l.line)) (ids_of l.flags) l.names.tag.control l.names.tag.line) 2 (cells (drop l.names.from l.line)) rest))
    × (drop (l.c - 2) (cells (drop l.names.from l.line)) ≡ cells (drop l.at l.line)) × KindsTo (book_in l.book) l.names.section l.c (cells (drop l.names.from l.line)) l.kinds × (length l.kinds ≡ 256)
    × (l.opt ≡ any is_opt (take (l.c - 2) (cells (drop l.names.from l.line)))) × Noted l.stamps l.names.tag.line l.line (l.c - 2) × ((z : Bytes) → first_named l.stamps l.line z (l.c - 2) ≡ first_from 2 (same z) (take (l.c - 2) (cells (drop l.names.from l.line))))
