-- The directory at the front of the text, computed. Assumes nothing.
use Prim.Native.Nat.{ℕ, zero, suc, ◌+◌, ◌<◌}
use mathlib.Core.Path.{◌≡◌, refl}
use mathlib.Core.Bool.{Bool, true, false}
use native.Mathlib.Omega.{arith}
use lib.ListN.{get_or}
use Rattle.text_bytes.specs.Bytes.{Bytes, bytes, same}
use Rattle.text_bytes.specs.Places.{part}
use Rattle.book.specs.Keys.{keys}
use Rattle.book.specs.Columns.{protein_columns, peptide_columns, psm_columns, molecule_columns, protein_required, peptide_required, psm_required, molecule_required}
use Rattle.book.specs.Book.{no_section, code_in, mz_tab, demands, has_form}
use Rattle.book.specs.Text.{code_at, IsDirectory, book_in, HasDirectory, tabbed, entries_from, directory_of, directory_text, demand_rows, entry_for}

its_codes : (row : Bool) (j : ℕ) → j < 4 → part (code_at row j) (code_at row j + 3) directory_text ≡ bytes (code_in row (get_or mz_tab.sections j no_section))
unfolding directory_text directory_of mz_tab demands entries_from demand_rows entry_for has_form same bytes keys tabbed protein_columns protein_required peptide_columns peptide_required psm_columns psm_required molecule_columns molecule_required
its_codes true zero h = refl
its_codes true (suc zero) h = refl
its_codes true (suc (suc zero)) h = refl
its_codes true (suc (suc (suc zero))) h = refl
its_codes true (suc (suc (suc (suc j)))) h = absurd (omega arith)
its_codes false zero h = refl
its_codes false (suc zero) h = refl
its_codes false (suc (suc zero)) h = refl
its_codes false (suc (suc (suc zero))) h = refl
its_codes false (suc (suc (suc (suc j)))) h = absurd (omega arith)

its_directory : IsDirectory mz_tab directory_text
unfolding directory_text directory_of mz_tab demands entries_from demand_rows entry_for has_form same bytes keys tabbed protein_columns protein_required peptide_columns peptide_required psm_columns psm_required molecule_columns molecule_required
its_directory = record { first = refl; count = refl; size = omega arith; codes = its_codes }

pub has_directory : (t : Bytes) → t ≡ directory_text → HasDirectory t
unfolding book_in
has_directory t e = rw e its_directory
