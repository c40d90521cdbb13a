-- Worked examples of weights, computed. Assumes nothing.
use Rattle.std.specs.Prelude.{◌≡◌, refl}
use Rattle.text_bytes.specs.Bytes.{Bytes, bytes, same, on_first, split_on, count}
use Rattle.text.specs.Lines.{lines, starts_lf, coded}
use Rattle.book.specs.Book.{code_for, book_of, is_section, mz_tab, section_of}
use Rattle.value_references.specs.Index.{written}
use Rattle.rows.specs.Rows.{numbered, having, row_of, place_of, cell_at}
use Rattle.weights.specs.Weights.{has_in, weight_of}

file : Bytes
file =
    bytes
    "PRH\taccession\tprotein_abundance_study_variable[2]\tprotein_abundance_study_variable[10]\nPRT\tA\t1.5\tnull\nPEP\tA\t1\t1\nPRT\tB\tnull\tnull\n\nPRT\tC\t0\tNaN"

-- a value counts, also zero, and `null` does not; rows of another section do not
second : weight_of file 2 ≡ 2
unfolding weight_of file bytes lines on_first starts_lf split_on same row_of code_for is_section section_of book_of mz_tab numbered having coded cell_at place_of written has_in count
second = refl

-- `NaN` is a value; the index is that of the name, not of the column
tenth : weight_of file 10 ≡ 1
unfolding weight_of file bytes lines on_first starts_lf split_on same row_of code_for is_section section_of book_of mz_tab numbered having coded cell_at place_of written has_in count
tenth = refl

-- no such column
first : weight_of file 1 ≡ 0
unfolding weight_of file bytes lines on_first starts_lf split_on same row_of code_for is_section section_of book_of mz_tab numbered having coded cell_at place_of written has_in count
first = refl
