-- What is counted: row r is there exactly for r up to the number of rows. Assumes nothing.
use mathlib.Core.Path.{◌≡◌, refl, sym, ap, ◌∙◌}
use mathlib.Core.Bool.{Bool, true, false, cond}
use mathlib.Core.Option.{Option, none, some}
use Prim.Native.Nat.{ℕ, ◌+◌, ◌≤◌, ◌<◌}
use native.Mathlib.Omega.{arith}
use lib.Dec.{ltb}
use lib.ListN.{length}
use borrow.Author.Tests.{ltb-true, ltb-false}
use Rattle.numbers.specs.Numbers.{TOO_LONG, NO_SECTION, NO_ROW}
use Rattle.text_bytes.specs.Bytes.{Bytes}
use Rattle.text.specs.Lines.{LIMIT, lines}
use Rattle.rows.specs.Rows.{Line, row_of, row_count, cell_at}
use Rattle.rows.specs.Counted.{Counted, counted, rows_in}
use Rattle.rows.proofs.Laws.Finding.{row_beyond, row_within}
use Rattle.mztab.specs.Shown.{Shown, refused, cell_start, sought_cell, sought_row, sought, given, shown}
use Rattle.book.specs.Book.{is_section, book_of}

-- a row that is there is refused with 4, if at all
cell_there : (n c start : ℕ) (o : Option Bytes) → (sought_cell n c start o).number ≡ NO_ROW → ⊥
cell_there n c start none e = omega arith
cell_there n c start (some b) e = omega arith

row_there : (file : Bytes) (o : Option Line) (column : ℕ) → (o ≡ none → ⊥) → (sought_row file o column).number ≡ NO_ROW → ⊥
row_there file none column ne e = ne refl
row_there file (some l) column ne e = cell_there l.line (column + 1) (cell_start file l column) (cell_at l.text column) e

-- where `rows` counts k rows, `cell` finds no row r, from 1 on, exactly where r is beyond k
pub rows_cell :
    (file : Bytes) (section row column : ℕ) {k n : ℕ} {v : Bytes} → counted 0 k ≡ rows_in file section → given n v ≡ shown (sought file section row column) → 1 ≤ row
    → (n ≡ NO_ROW → k < row) × (k < row → n ≡ NO_ROW)
unfolding rows_in sought
rows_cell file section row column {k} {n} a b low =
    go (ltb LIMIT (length file)) (is_section (book_of (lines file)) section) (ap (λ (x : Counted). x.number) a) (ap (λ (x : Counted). x.rows) a) (ap (λ (x : Shown). x.number) b)
  where
    go : (t u : Bool)
        → 0 ≡ (cond t (counted TOO_LONG 0) (cond u (counted 0 (row_count file section)) (counted NO_SECTION 0))).number
        → k ≡ (cond t (counted TOO_LONG 0) (cond u (counted 0 (row_count file section)) (counted NO_SECTION 0))).rows
        → n ≡ (cond t (refused TOO_LONG) (cond u (sought_row file (row_of file section row) column) (refused NO_SECTION))).number → (n ≡ NO_ROW → k < row) × (k < row → n ≡ NO_ROW)
    go true u z q r = absurd (omega arith)
    go false false z q r = absurd (omega arith)
    go false true z q r = (there (ltb k row) refl, beyond)
      where
        there : (t : Bool) → ltb k row ≡ t → n ≡ NO_ROW → k < row
        there true e d = ltb-true k row e
        there false e d = absurd (row_there file (row_of file section row) column (row_within file section row low (omega (arith, ltb-false k row e))) (sym r ∙ d))

        beyond : k < row → n ≡ NO_ROW
        beyond h = r ∙ ap (λ (o : Option Line). (sought_row file o column).number) (row_beyond file section row low (omega arith))
