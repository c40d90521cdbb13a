-- `book_text::wanted`: the names of the code are the columns that the paper requires, computed. Assumes nothing.
use mathlib.Core.Path.{refl}
use Rattle.text_bytes.specs.Bytes.{bytes}
use Rattle.book.specs.Columns.{protein_required, peptide_required, psm_required, molecule_required}
use Rattle.book.specs.Book.{mz_tab}
use Rattle.book.specs.Text.{tabbed, all_wanted}
use Rattle.book_text.proofs.wanted.Goals as goal

pub returns : goal.returns
unfolding bytes protein_required peptide_required psm_required molecule_required mz_tab tabbed all_wanted
returns c = refl
