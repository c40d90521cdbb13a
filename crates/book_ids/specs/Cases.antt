-- Worked examples of the ids that a file declares, computed. Assumes nothing.
use Rattle.std.specs.Prelude.{◌≡◌, refl, true, false, Some, None}
use Rattle.text_bytes.specs.Bytes.{bytes, same, begins, any, on_first, split_on}
use Rattle.text.specs.Lines.{starts_lf, lines, coded, is_field}
use Rattle.value_references.specs.Index.{written, digits, number, bracketed, index_at}
use Rattle.book_names.specs.Names.{pieces_from, entry_of, fits, first_of}
use Rattle.book.specs.Book.{mz_tab, key_of}
use Rattle.book.specs.Keys.{keys}
use Rattle.book_ids.specs.Ids.{declares, declared, index_after, id, id_in, id_of}

-- P: `assay[64]` an id, `assay[65]`, `assay[01]`, `assay[0]` not, as a single statement
pub ids : (id_of (bytes "assay[64]") ≡ Some (id 1 64)) × (id_of (bytes "assay[65]") ≡ None) × (id_of (bytes "assay[01]") ≡ None) × (id_of (bytes "assay[0]") ≡ None)
unfolding id_of id_in index_after begins bytes index_at bracketed digits number
ids = (refl, refl, refl, refl)

-- a line of three cells with a known key declares; one of two cells, with an unknown key or another code does not
lines_declare : (declares mz_tab 3 1 (bytes "MTD\tms_run[1]-location\tx") ≡ true) × (declares mz_tab 3 1 (bytes "MTD\tms_run[1]-location") ≡ false)
    × (declares mz_tab 3 1 (bytes "MTD\tms_run[1]-place\tx") ≡ false) × (declares mz_tab 3 1 (bytes "COM\tms_run[1]-location\tx") ≡ false) × (declares mz_tab 3 2 (bytes "MTD\tms_run[1]-location\tx") ≡ false)
unfolding declares is_field coded same split_on on_first begins written key_of mz_tab keys bytes entry_of pieces_from first_of fits index_at bracketed digits number
lines_declare = (refl, refl, refl, refl, refl)

-- early or late: the sample is declared after the assay that refers to it
later_declared : declared mz_tab (bytes "MTD\tassay[1]-sample_ref\tsample[2]\nMTD\tsample[2]-description\tx") 0 2 ≡ true
unfolding declared any lines starts_lf declares is_field coded same split_on on_first begins written key_of mz_tab keys bytes entry_of pieces_from first_of fits index_at bracketed digits number
later_declared = refl
