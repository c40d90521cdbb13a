-- `book_text::starts`: the numbers of the code are where the names of the paper's keys begin, computed. Assumes nothing.
use mathlib.Core.Path.{refl}
use Rattle.text_bytes.specs.Bytes.{bytes}
use Rattle.book_names.specs.Names.{entry_of, pieces_from, spread}
use Rattle.book.specs.Keys.{keys}
use Rattle.book.specs.Book.{mz_tab}
use Rattle.book.specs.Text.{starts_from}
use Rattle.book_text.proofs.starts.Goals as goal

pub returns : goal.returns
unfolding bytes keys mz_tab entry_of pieces_from spread starts_from
returns c = refl
