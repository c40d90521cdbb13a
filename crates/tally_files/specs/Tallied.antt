-- The tally of a file: paper 02, request 2026-09. Assumes nothing.
use Rattle.std.specs.Prelude.{ℕ, suc, ◌+◌, ◌≡◌, cond, List, [], ◌∷◌, eqb, ltb, length}
use Rattle.std.proofs.Math.Option.{Option}
use Rattle.numbers.specs.Numbers.{TOO_LONG, NOT_ACCEPTED, BELOW_ZERO}
use Rattle.text_bytes.specs.Bytes.{Bytes}
use Rattle.text.specs.Lines.{LIMIT, lines, coded}
use Rattle.values.specs.Values.{is_null}
use Rattle.book.specs.Book.{row_code, mz_tab}
use Rattle.rows.specs.Rows.{row_count, header_of, column_named, cell_at}
use Rattle.rules.specs.Rules.{is_accepted}
use Rattle.fee_shares.specs.Sums.{bit, sum_to}
use Rattle.column_marks.specs.Columns.{PROTEIN, INDICES, named, PSMS, DISTINCT, UNIQUE}
use Rattle.column_marks.specs.Sums.{sum_lines, given}
use Rattle.tally.specs.declared.Tally.{Tally}
use Rattle.tally.specs.Tally.{tally_of, Outcome, outcome, answered, outcome_once}
use Rattle.tally_cells.specs.Counts.{count_of, is_below}

-- the cell of a row under the column of run n that has this word; there is none where the protein header has no such column
abbrev pub cell_of : Bytes → Bytes → ℕ → Bytes → Option Bytes
cell_of file word n row = cell_at row (column_named (header_of file PROTEIN) (named word n))

-- over all runs, 1 to 64
unfoldable pub over_runs : (ℕ → ℕ) → ℕ
over_runs f = sum_to INDICES (λ (n : ℕ). f (suc n))

-- over all protein rows
unfoldable pub over_rows : Bytes → (Bytes → ℕ) → ℕ
over_rows file f = sum_lines (λ (l : Bytes). cond (coded (row_code mz_tab PROTEIN) l) (f l) 0) (lines file)

-- f of every cell under the columns with this word, added up over protein rows and runs
abbrev pub over_cells : Bytes → Bytes → (Bytes → ℕ) → ℕ
over_cells file word f = over_rows file (λ (row : Bytes). over_runs (λ (n : ℕ). given f (cell_of file word n row)))

-- THE THREE COUNTS
abbrev pub psms_of : Bytes → ℕ
psms_of file = over_cells file PSMS count_of

abbrev pub distinct_of : Bytes → ℕ
distinct_of file = over_cells file DISTINCT count_of

abbrev pub unique_of : Bytes → ℕ
unique_of file = over_cells file UNIQUE count_of

-- f of every cell under all three kinds of columns
abbrev pub over_all : Bytes → (Bytes → ℕ) → ℕ
over_all file f = over_cells file PSMS f + over_cells file DISTINCT f + over_cells file UNIQUE f

-- the missing cells in those columns, and the counts below zero
abbrev pub missing_of : Bytes → ℕ
missing_of file = over_all file (λ (cell : Bytes). bit (is_null cell))

abbrev pub below_of : Bytes → ℕ
below_of file = over_all file (λ (cell : Bytes). bit (is_below cell))

-- THE EIGHT TOTALS of a file
unfoldable pub totals_of : Bytes → List ℕ
totals_of file = psms_of file ∷ distinct_of file ∷ unique_of file ∷ row_count file 1 ∷ row_count file 2 ∷ row_count file 3 ∷ row_count file 4 ∷ missing_of file ∷ []

-- the file too long, not accepted, a count below zero: tried in this order; else 0
unfoldable pub refusal : Bytes → ℕ
refusal file = cond (ltb LIMIT (length file)) TOO_LONG (cond (is_accepted file) (cond (eqb (below_of file) 0) 0 BELOW_ZERO) NOT_ACCEPTED)

-- the tally of a file; a refused call answers the tally of nothing
unfoldable pub tallied : Bytes → Outcome
tallied file = answered (refusal file) (tally_of (totals_of file))

-- no second outcome fits
pub tally_once : (file : Bytes) {n m : ℕ} {s t : Tally} → outcome n s ≡ tallied file → outcome m t ≡ tallied file → (n ≡ m) × (s ≡ t)
tally_once file p q = outcome_once p q
