-- `book_text::directory`: the bytes of the code are the directory of the book. Assumes nothing.
use mathlib.Core.Path.{refl}
use Rattle.text_bytes.specs.Bytes.{bytes, same}
use Rattle.book.specs.Keys.{keys}
use Rattle.book.specs.Columns.{protein_columns, peptide_columns, psm_columns, molecule_columns, protein_required, peptide_required, psm_required, molecule_required}
use Rattle.book.specs.Book.{mz_tab, demands, has_form}
use Rattle.book.specs.Text.{tabbed, entries_from, directory_of, directory_text, demand_rows, entry_for}
use Rattle.book_laid.proofs.Laws.Heading.{has_directory}
use Rattle.book_text.proofs.directory.Goals as goal

pub returns : goal.returns
unfolding directory_text directory_of mz_tab demands entries_from demand_rows entry_for has_form same bytes keys tabbed protein_columns protein_required peptide_columns peptide_required psm_columns psm_required molecule_columns molecule_required
returns c = record { value = refl; has_directory = has_directory _ refl }
