-- Worked examples of what the cell calls show, computed. Assumes nothing.
use Rattle.std.specs.Prelude.{◌≡◌, refl, []}
use Rattle.numbers.specs.Numbers.{NO_ROW, NO_CELL}
use Rattle.text_bytes.specs.Bytes.{Bytes, bytes, same, on_first, split_on}
use Rattle.text_bytes.specs.Places.{after}
use Rattle.text.specs.Lines.{lines, starts_lf, coded}
use Rattle.book.specs.Book.{is_section, section_of, code_for, book_of, mz_tab}
use Rattle.rows.specs.Rows.{numbered, having, row_of, cell_at}
use Rattle.mztab.specs.Shown.{refused, sought}

file : Bytes
file = bytes "COM\tx\r\nPRH\taccession\r\nPRT\tP1\t\r\n\nPRT\tP2\tlast"

-- comments and empty lines are counted, and the last line needs no LF
second_row : sought file 1 2 2 ≡ record { number = 0; line = 5; cell = 3; start = 39; view = bytes "last" }
unfolding sought file bytes lines on_first starts_lf split_on same row_of is_section section_of code_for book_of mz_tab numbered having coded cell_at after
second_row = refl

-- the CR before an LF is no part of the last cell
empty_cell : sought file 1 1 2 ≡ record { number = 0; line = 3; cell = 3; start = 29; view = [] }
unfolding sought file bytes lines on_first starts_lf split_on same row_of is_section section_of code_for book_of mz_tab numbered having coded cell_at after
empty_cell = refl

no_third : sought file 1 3 2 ≡ refused NO_ROW
unfolding sought file bytes lines on_first starts_lf split_on same row_of is_section section_of code_for book_of mz_tab numbered having coded cell_at after
no_third = refl

column_0 : sought file 1 0 0 ≡ refused NO_CELL
unfolding sought file bytes lines on_first starts_lf split_on same row_of is_section section_of code_for book_of mz_tab numbered having coded cell_at after
column_0 = refl
