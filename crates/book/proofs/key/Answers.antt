-- `book::key`: table 0 of the book has the keys. Assumes nothing.
use mathlib.Core.Path.{ap, ◌∙◌}
use mathlib.Core.List.{List}
use Rattle.book_names.specs.Names.{Entry, lookup_in}
use Rattle.book.specs.Book.{key_of}
use Rattle.book.proofs.key.Goals as goal

pub returns : goal.returns
unfolding key_of
returns c = c.search.ensures ∙ ap (λ (es : List Entry). lookup_in es c.args.name.now) c.requires.keys.rows
