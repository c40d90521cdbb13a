-- `book_text::rows`: the rows of the code are the lines of the paper's tables, computed. Assumes nothing.
use mathlib.Core.Path.{refl}
use Rattle.text_bytes.specs.Bytes.{bytes}
use Rattle.book.specs.Keys.{keys}
use Rattle.book.specs.Columns.{protein_columns, peptide_columns, psm_columns, molecule_columns}
use Rattle.book.specs.Book.{mz_tab}
use Rattle.book.specs.Text.{padded, laid, all_rows}
use Rattle.book_text.proofs.rows.Goals as goal

pub returns : goal.returns
unfolding bytes keys protein_columns peptide_columns psm_columns molecule_columns mz_tab padded laid all_rows
returns c = refl
