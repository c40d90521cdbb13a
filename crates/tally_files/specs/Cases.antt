-- Worked examples of the tally of a file, computed. Assumes nothing.
use Rattle.std.specs.Prelude.{◌≡◌, refl, [], ◌∷◌}
use Rattle.std.proofs.Math.Option.{none, some}
use Rattle.text_bytes.specs.Bytes.{Bytes, bytes, same, is_empty, all, on_first, split_on, count}
use Rattle.text.specs.Lines.{lines, starts_lf, coded}
use Rattle.book.specs.Book.{code_for, book_of, is_section, mz_tab, section_of}
use Rattle.value_references.specs.Index.{written, number}
use Rattle.values.specs.Values.{are_digits, unsigned, is_whole, is_null}
use Rattle.value_readings.specs.Reading.{has_minus}
use Rattle.rows.specs.Rows.{numbered, having, row_of, row_count, place_of, cell_at}
use Rattle.fee_shares.specs.Sums.{sum_to}
use Rattle.column_marks.specs.Columns.{PSMS}
use Rattle.column_marks.specs.Sums.{sum_lines}
use Rattle.tally_cells.specs.Counts.{count_of, is_below}
use Rattle.tally_files.specs.Tallied.{cell_of, over_runs, over_rows, psms_of, distinct_of, unique_of, missing_of, below_of, totals_of}

-- counts, a leading zero, `null` and `-0`, under columns in no order; rows of another section among the protein rows
file : Bytes
file =
    bytes
    "PRH\taccession\tnum_psms_ms_run[2]\tnum_peptides_unique_ms_run[1]\tnum_psms_ms_run[1]\nPRT\tA\t7\tnull\t-0\nPEP\tA\t100\t100\t100\nPRT\tB\t012\t5\tnull\nPEP\tB\t-1\tnull\t1\nPRT\tC\t1\t-0\t40"

-- over both runs and the three rows: 7 and -0, 12 and `null`, 1 and 40
the_psms : psms_of file ≡ 60
unfolding file bytes lines on_first starts_lf split_on same row_of code_for is_section section_of book_of mz_tab numbered having coded cell_at place_of written over_runs over_rows sum_to sum_lines count_of is_whole are_digits is_empty all unsigned number
the_psms = refl

-- no such column
no_distinct : distinct_of file ≡ 0
unfolding file bytes lines on_first starts_lf split_on same row_of code_for is_section section_of book_of mz_tab numbered having coded cell_at place_of written over_runs over_rows sum_to sum_lines count_of is_whole are_digits is_empty all unsigned number
no_distinct = refl

-- `null`, 5 and -0
the_unique : unique_of file ≡ 5
unfolding file bytes lines on_first starts_lf split_on same row_of code_for is_section section_of book_of mz_tab numbered having coded cell_at place_of written over_runs over_rows sum_to sum_lines count_of is_whole are_digits is_empty all unsigned number
the_unique = refl

-- one under a column of PSMs, one under a column of unique peptides; that of the peptide row is not counted
the_missing : missing_of file ≡ 2
unfolding file bytes lines on_first starts_lf split_on same row_of code_for is_section section_of book_of mz_tab numbered having coded cell_at place_of written over_runs over_rows sum_to sum_lines is_null
the_missing = refl

-- -0 is not below zero, and the -1 of a peptide row is none of the counts
none_below : below_of file ≡ 0
unfolding file bytes lines on_first starts_lf split_on same row_of code_for is_section section_of book_of mz_tab numbered having coded cell_at place_of written over_runs over_rows sum_to sum_lines is_below has_minus count_of is_whole are_digits is_empty all unsigned number
none_below = refl

-- rows of sections 1, 2 and 3
the_rows : (row_count file 1 ≡ 3) × (row_count file 2 ≡ 2) × (row_count file 3 ≡ 0)
unfolding file bytes lines on_first starts_lf split_on same row_count is_section section_of book_of mz_tab coded count
the_rows = (refl, refl, refl)

-- the eight totals, in their order
the_totals : totals_of file ≡ 60 ∷ 0 ∷ 5 ∷ 3 ∷ 2 ∷ 0 ∷ 0 ∷ 2 ∷ []
unfolding totals_of file bytes lines on_first starts_lf split_on same row_of code_for is_section section_of book_of mz_tab numbered having coded cell_at place_of written over_runs over_rows sum_to sum_lines row_count count is_null count_of is_whole are_digits is_empty all unsigned number
the_totals = refl

-- a count below zero
lower : Bytes
lower = bytes "PRH\taccession\tnum_psms_ms_run[2]\tnum_peptides_unique_ms_run[1]\tnum_psms_ms_run[1]\nPRT\tA\t7\t-1\t-0\nPRT\tB\t2\t5\t3"

one_below : below_of lower ≡ 1
unfolding lower bytes lines on_first starts_lf split_on same row_of code_for is_section section_of book_of mz_tab numbered having coded cell_at place_of written over_runs over_rows sum_to sum_lines is_below has_minus count_of is_whole are_digits is_empty all unsigned number
one_below = refl

-- the index is that of the name, not of the column
first_cell : cell_of lower PSMS 1 (bytes "PRT\tB\t2\t5\t3") ≡ some (bytes "3")
unfolding lower bytes lines on_first starts_lf split_on same row_of code_for is_section section_of book_of mz_tab numbered having coded cell_at place_of written
first_cell = refl

-- run 3 has no column
no_cell : cell_of lower PSMS 3 (bytes "PRT\tB\t2\t5\t3") ≡ none
unfolding lower bytes lines on_first starts_lf split_on same row_of code_for is_section section_of book_of mz_tab numbered having coded cell_at place_of written
no_cell = refl
