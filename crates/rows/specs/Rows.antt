-- Rows and columns, as the cell calls count them; how many rows a section has; a column by its name. Assumes nothing.
use Rattle.std.specs.Prelude.{ℕ, suc, ◌-◌, ◌≤◌, ◌≡◌, cond, List, [], ◌∷◌, length, drop, eqb, Option as Answer, Some, None}
use Rattle.std.proofs.Math.Option.{Option, none, some}
use Rattle.std.proofs.Math.ListN.{get_elem?}
use Rattle.text_bytes.specs.Bytes.{Bytes, same, count}
use Rattle.text_bytes.specs.Places.{part, after}
use Rattle.text.specs.Lines.{TAB, LF, lines, cells, coded}
use Rattle.text.specs.declared.Part.{Part}
use Rattle.rows.specs.declared.Row.{Row}
use Rattle.book.specs.Book.{row_code, code_for, book_of}

-- a line with its number
pub record Line : Type 0 where
  pub line : ℕ
  pub text : Bytes

abbrev pub line_of : ℕ → Bytes → Line
line_of n l = record { line = n; text = l }

-- the lines with their numbers, of which the first is n
unfoldable pub numbered : ℕ → List Bytes → List Line
numbered n [] = []
numbered n (l ∷ ls) = line_of n l ∷ numbered (suc n) ls

-- those whose cell 1 is the code
unfoldable pub having : Bytes → List Line → List Line
having code [] = []
having code (l ∷ ls) = cond (coded code l.text) (l ∷ having code ls) (having code ls)

-- row 0 is the first header of the section, row r the r-th line with its row code
unfoldable pub row_of : Bytes → ℕ → ℕ → Option Line
row_of file section row = get_elem? (having (code_for (book_of (lines file)) section row) (numbered 1 (lines file))) (row - 1)

-- how many rows a section has: the lines with its row code
unfoldable pub row_count : Bytes → ℕ → ℕ
row_count file section = count (coded (row_code (book_of (lines file)) section)) (lines file)

-- the text of a section's first header; empty where it has none
abbrev pub text_of : Option Line → Bytes
text_of none = []
text_of (some l) = l.text

abbrev pub header_of : Bytes → ℕ → Bytes
header_of file section = text_of (row_of file section 0)

-- where a name stands first among these, of which the first has the number k; 0 where it is none of them
unfoldable pub place_of : ℕ → Bytes → List Bytes → ℕ
place_of k name [] = 0
place_of k name (c ∷ cs) = cond (same c name) k (place_of (suc k) name cs)

-- the first column of a header that has this name: cell 1 is no column name; 0 where there is none
abbrev pub column_named : Bytes → Bytes → ℕ
column_named header name = place_of 1 name (drop 1 (cells header))

-- column c is cell c + 1; column 0 is refused
unfoldable pub cell_at : Bytes → ℕ → Option Bytes
cell_at line column = cond (eqb column 0) none (get_elem? (cells line) column)

-- a line's number and part of the file are the row that is meant, or there is none
abbrev pub FindsRow : Bytes → Option Line → Answer Row → Type 0
FindsRow file o (Some r) = (r.start ≤ r.end) × (r.end ≤ length file) × (r.start ≡ after LF (r.line - 1) file) × (o ≡ some (line_of r.line (part r.start r.end file)))
FindsRow file o None = o ≡ none

-- a part of a line is the column that is meant, or there is none
abbrev pub FindsColumn : Bytes → ℕ → Answer Part → Type 0
FindsColumn line column (Some p) = (p.start ≤ p.end) × (p.end ≤ length line) × (p.start ≡ after TAB column line) × (cell_at line column ≡ some (part p.start p.end line))
FindsColumn line column None = cell_at line column ≡ none
