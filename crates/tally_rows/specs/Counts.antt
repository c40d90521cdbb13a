-- What the walk over a file's lines carries: nine numbers, and what a cell, a row and a line add to them. No public contract cites this file. Assumes nothing.
use Rattle.std.specs.Prelude.{ℕ, ◌+◌, ◌<◌, ◌^◌, ◌≡◌, cond, List, [], ◌∷◌, ◌++◌, eqb, get_or}
use Rattle.text_bytes.specs.Bytes.{Bytes}
use Rattle.text_bytes.specs.Places.{part, Ends}
use Rattle.text.specs.Lines.{TAB, lines, cells, coded}
use Rattle.values.specs.Values.{is_null}
use Rattle.book.specs.Book.{row_code, mz_tab}
use Rattle.fee_shares.specs.Sums.{bit}
use Rattle.column_marks.specs.Sums.{sum_cells, sum_lines}
use Rattle.tally.specs.Tally.{totals}
use Rattle.tally_cells.specs.Counts.{count_of, is_below}
use Rattle.tally_cells.specs.declared.Counted.{Counted}
use Rattle.tally_rows.specs.declared.Found.{Found}

-- n where two numbers are the same
unfoldable pub share : ℕ → ℕ → ℕ → ℕ
share a b n = cond (eqb a b) n 0

-- n where a column is marked
unfoldable pub marked : ℕ → ℕ → ℕ
marked mark n = cond (eqb mark 0) 0 n

-- the nine numbers: the eight totals of the tally, and how many counts are below zero
abbrev pub numbers : Found → List ℕ
numbers f = totals f.tally ++ (f.below ∷ [])

abbrev pub nine : Found → ℕ → ℕ
nine f i = get_or (numbers f) i 0

-- what a cell adds to each, by its column's counter
unfoldable pub cell_adds : ℕ → Bytes → ℕ → ℕ
cell_adds mark cell i =
    get_or (share mark 1 (count_of cell) ∷ share mark 2 (count_of cell) ∷ share mark 3 (count_of cell) ∷ 0 ∷ 0 ∷ 0 ∷ 0 ∷ marked mark (bit (is_null cell)) ∷ marked mark (bit (is_below cell)) ∷ []) i 0

-- what was read in a cell, where the column is marked; nothing where it is not; and where the cell ends
pub record Reads (line : Bytes) (at mark : ℕ) (c : Counted) : Type 0 where
  pub ends : Ends TAB line at c.end
  pub count : c.count ≡ marked mark (count_of (part at c.end line))
  pub missing : c.missing ≡ marked mark (bit (is_null (part at c.end line)))
  pub below : c.below ≡ marked mark (bit (is_below (part at c.end line)))

-- what that adds
abbrev pub count_list : ℕ → Counted → List ℕ
count_list mark c = share mark 1 c.count ∷ share mark 2 c.count ∷ share mark 3 c.count ∷ 0 ∷ 0 ∷ 0 ∷ 0 ∷ c.missing ∷ c.below ∷ []

abbrev pub count_adds : ℕ → Counted → ℕ → ℕ
count_adds mark c i = get_or (count_list mark c) i 0

-- what the cells of a row add
abbrev pub row_adds : List ℕ → Bytes → ℕ → ℕ
row_adds marks line i = sum_cells (λ (j : ℕ) (cell : Bytes). cell_adds (get_or marks j 0) cell i) 0 (cells line)

-- the section of a row; 0 for any other line
unfoldable pub row_section : Bytes → ℕ
row_section line =
    cond (coded (row_code mz_tab 1) line) 1 (cond (coded (row_code mz_tab 2) line) 2 (cond (coded (row_code mz_tab 3) line) 3 (cond (coded (row_code mz_tab 4) line) 4 0)))

-- what a row's section adds
abbrev pub section_list : ℕ → List ℕ
section_list section = 0 ∷ 0 ∷ 0 ∷ share section 1 1 ∷ share section 2 1 ∷ share section 3 1 ∷ share section 4 1 ∷ 0 ∷ 0 ∷ []

abbrev pub section_adds : ℕ → ℕ → ℕ
section_adds section i = get_or (section_list section) i 0

-- what a line adds: one row to its section, and the cells of a protein row
abbrev pub line_adds : List ℕ → Bytes → ℕ → ℕ
line_adds marks line i = section_adds (row_section line) i + share (row_section line) 1 (row_adds marks line i)

-- what all lines add
abbrev pub lines_add : List ℕ → Bytes → ℕ → ℕ
lines_add marks file i = sum_lines (λ (line : Bytes). line_adds marks line i) (lines file)

-- so much is added to each of the nine; and there is room for it
abbrev pub Room : (ℕ → ℕ) → Found → Type 0
Room v f = (i : ℕ) → nine f i + v i < 2 ^ 64

abbrev pub Adds : (ℕ → ℕ) → Found → Found → Type 0
Adds v f r = (i : ℕ) → nine r i ≡ nine f i + v i
