-- What a line is, by its code. Assumes nothing.
use Rattle.std.specs.Prelude.{ℕ, Bool, true, false, cond, ◌||◌, ltb}
use Rattle.text_bytes.specs.Bytes.{Bytes, is, is_empty}
use Rattle.text.specs.Lines.{cells, cell, first_control}
use Rattle.book.specs.Book.{Book, section_by}
use Rattle.rules.specs.declared.sorts.Sort.{Sort}
use Rattle.rules.specs.declared.sorts.Sort.TheVariants.{Silent, Unknown, Meta, Header, Row}

-- what a line code says in a book
unfoldable pub code_sort : Book → Bytes → Sort
code_sort b code =
    cond (is code "COM") Silent
    (cond (is code "MTD") Meta
    (cond (ltb 0 (section_by b true code)) (Row (section_by b true code))
    (cond (ltb 0 (section_by b false code)) (Header (section_by b false code)) Unknown)))

unfoldable pub sort_of : Book → Bytes → Sort
sort_of b l = cond (is_empty l) Silent (code_sort b (cell 1 l))

-- an empty line, and a line whose cell 1 is exactly COM, is judged by no rule
unfoldable pub is_silent : Bytes → Bool
is_silent l = is_empty l || is (cell 1 l) "COM"

abbrev pub header_in : Sort → ℕ
header_in (Header s) = s
header_in (Row s) = 0
header_in Silent = 0
header_in Unknown = 0
header_in Meta = 0

abbrev pub row_in : Sort → ℕ
row_in (Header s) = 0
row_in (Row s) = s
row_in Silent = 0
row_in Unknown = 0
row_in Meta = 0

abbrev pub unknown_in : Sort → Bool
unknown_in (Header s) = false
unknown_in (Row s) = false
unknown_in Silent = false
unknown_in Unknown = true
unknown_in Meta = false

-- the section whose header, whose row a line is; 0 where it is none
abbrev pub header : Book → Bytes → ℕ
header b l = header_in (sort_of b l)

abbrev pub row : Book → Bytes → ℕ
row b l = row_in (sort_of b l)

abbrev pub is_header : Book → Bytes → Bool
is_header b l = ltb 0 (header b l)

abbrev pub is_row : Book → Bytes → Bool
is_row b l = ltb 0 (row b l)

-- a header or row of any section
abbrev pub is_table : Book → Bytes → Bool
is_table b l = is_header b l || is_row b l

abbrev pub is_unknown : Book → Bytes → Bool
is_unknown b l = unknown_in (sort_of b l)

-- the cell of its first control byte; 0 where it has none
abbrev pub control_cell : Bytes → ℕ
control_cell l = first_control 1 (cells l)
