-- `mztab::cells::locate` meets its contract: at each `return` the tests and the calls that led there say which answer it is. Assumes nothing.
use mathlib.Core.Path.{◌≡◌, sym, ◌∙◌}
use mathlib.Core.Bool.{true}
use Prim.Native.Nat.{ℕ, ◌+◌, ◌-◌, ◌≤◌}
use native.Mathlib.Omega.{arith}
use borrow.Author.Tests.{not-true, not-false}
use lib.ListN.{length, drop, length-take, length-drop}
use Rattle.text_bytes.specs.Bytes.{Bytes}
use Rattle.book.specs.Book.{is_section, book_of}
use Rattle.book.specs.Text.{book_in}
use Rattle.text_bytes.specs.Places.{part}
use Rattle.text.specs.Lines.{lines}
use Rattle.rows.specs.Rows.{line_of, row_of}
use Rattle.rows.proofs.Laws.Finding.{row_missing, column_missing, column_below}
use Rattle.mztab.proofs.Laws.Locating.{placed_refused, placed_cell, sought_long, sought_nowhere, sought_no_row, sought_no_cell}
use Rattle.mztab.proofs.cells.locate.Goals as goal

pub returns-then-file-gt-LIMIT : goal.returns-then-file-gt-LIMIT
returns-then-file-gt-LIMIT c = placed_refused c.args.file.now (sought_long c.args.file.now c.args.section c.args.row c.args.column c.if-file-gt-LIMIT.true)

pub returns-then-not-is_section : goal.returns-then-not-is_section
unfolding book_in book_of
returns-then-not-is_section c =
    placed_refused c.args.file.now
    (sought_nowhere c.args.file.now c.args.section c.args.row c.args.column c.if-file-gt-LIMIT.false (sym c.is_section.ensures ∙ not-true c.is_section.result c.if-not-is_section.true-raw))

pub row_of-requires : goal.row_of-requires
unfolding book_in book_of
row_of-requires c =
    let of_section : is_section (book_of (lines c.args.file.now)) c.args.section ≡ true = sym c.is_section.ensures ∙ not-false c.is_section.result c.if-not-is_section.false-raw in
    (c.if-file-gt-LIMIT.false, of_section)

pub returns-in_default : goal.returns-in_default
unfolding book_in book_of
returns-in_default c =
    let of_section : is_section (book_of (lines c.args.file.now)) c.args.section ≡ true = sym c.is_section.ensures ∙ not-false c.is_section.result c.if-not-is_section.false-raw in
    placed_refused c.args.file.now
    (sought_no_row c.args.file.now c.args.section c.args.row c.args.column c.if-file-gt-LIMIT.false of_section
    (row_missing c.args.file.now (row_of c.args.file.now c.args.section c.args.row) c.row_of.result c.in_default.is c.row_of.ensures))

pub returns-in_default-column_of : goal.returns-in_default-column_of
unfolding book_in book_of
returns-in_default-column_of c =
    let of_section : is_section (book_of (lines c.args.file.now)) c.args.section ≡ true = sym c.is_section.ensures ∙ not-false c.is_section.result c.if-not-is_section.false-raw in
    let text_of : Bytes = part c.in-Some.on.start c.in-Some.on.end c.args.file.now in
    placed_refused c.args.file.now
    (sought_no_cell c.args.file.now c.args.section c.args.row c.args.column c.if-file-gt-LIMIT.false of_section (line_of c.in-Some.on.line text_of) c.in-Some.ensures.3
    (column_missing text_of c.args.column c.column_of.result c.in_default-column_of.is c.column_of.ensures))

-- the line ends with the file at the latest
line_length : (file : Bytes) (start end : ℕ) → start ≤ end → end ≤ length file → start + length (part start end file) ≤ length file
line_length file start end h k = omega (arith, length-take (end - start) (drop start file), length-drop start file)

-- the cell's number is at most one more than the line's bytes
pub overflow_add-cell : goal.overflow_add-cell
overflow_add-cell c =
    let text_of : Bytes = part c.in-Some.on.start c.in-Some.on.end c.args.file.now in
    omega (arith, column_below text_of c.args.column _ c.in-Some-column_of.ensures.3, line_length c.args.file.now _ _ c.in-Some.ensures.0 c.in-Some.ensures.1, c.if-file-gt-LIMIT.false)

pub overflow_add-start : goal.overflow_add-start
overflow_add-start c = omega (arith, c.in-Some-column_of.ensures.0, c.in-Some-column_of.ensures.1, line_length c.args.file.now _ _ c.in-Some.ensures.0 c.in-Some.ensures.1)

pub overflow_add-end : goal.overflow_add-end
overflow_add-end c = omega (arith, c.in-Some-column_of.ensures.1, line_length c.args.file.now _ _ c.in-Some.ensures.0 c.in-Some.ensures.1)

pub returns : goal.returns
unfolding book_in book_of
returns c =
    let of_section : is_section (book_of (lines c.args.file.now)) c.args.section ≡ true = sym c.is_section.ensures ∙ not-false c.is_section.result c.if-not-is_section.false-raw in
    let on = c.in-Some.ensures in
    let at = c.in-Some-column_of.ensures in
    placed_cell c.args.file.now c.args.section c.args.row c.args.column c.if-file-gt-LIMIT.false of_section
    c.in-Some.on.line c.in-Some.on.start c.in-Some.on.end c.in-Some-column_of.part.start c.in-Some-column_of.part.end
    on.0 on.1 on.2 on.3 at.0 at.1 at.2 at.3
