-- `book_facts::note_field` meets its contract: each fact is its own. Assumes nothing.
use Rattle.text_bytes.specs.Bytes.{bytes}
use Rattle.book_facts.proofs.note_field.Goals as goal

pub returns : goal.returns
unfolding bytes
returns c = rw (c.earlier-3.ensures, c.earlier-2.ensures, c.earlier.ensures, c.line_with-version.ensures, c.letter_in-typed.ensures, c.letter_in-mode.ensures)
