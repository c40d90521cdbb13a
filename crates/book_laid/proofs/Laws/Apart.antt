-- No name fits two lines of a table of the book, computed. Assumes nothing.
use Prim.Native.Nat.{ℕ}
use mathlib.Core.Path.{◌≡◌, refl}
use mathlib.Core.Bool.{true}
use Rattle.text_bytes.specs.Bytes.{Bytes, bytes, all}
use Rattle.book_names.specs.Names.{pieces_from, entry_of}
use Rattle.book_names.proofs.Laws.Distinct.{apart, apart_from, all_apart}
use Rattle.book.specs.Keys.{keys}
use Rattle.book.specs.Columns.{protein_columns, peptide_columns, psm_columns, molecule_columns}
use Rattle.book.specs.Book.{key_entries, column_entries, mz_tab}
use Rattle.book.specs.Text.{book_in}
use Rattle.book.proofs.Laws.Columns.{every_section}

pub keys_apart : (t : Bytes) → all_apart (key_entries (book_in t)) ≡ true
unfolding all_apart apart_from apart entry_of pieces_from bytes book_in mz_tab keys
keys_apart t = refl

pub columns_apart : (t : Bytes) (s : ℕ) → all_apart (column_entries (book_in t) s) ≡ true
unfolding all all_apart apart_from apart entry_of pieces_from bytes book_in mz_tab protein_columns peptide_columns psm_columns molecule_columns
columns_apart t s = every_section all_apart (book_in t) s refl refl
