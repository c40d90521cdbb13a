-- `book_lookup::cannot_fit`: the pattern does not end where the text of the name's form does. Assumes nothing.
use borrow.Author.Rules.{rules}
use mathlib.Core.Path.{sym, ◌∙◌}
use borrow.Author.Tests.{not-true}
use Rattle.book_names.proofs.Laws.Lasts.{no_end_differs}
use Rattle.book_lookup.proofs.cannot_fit.Goals as goal

pub returns : goal.returns
returns c = λ h. no_end_differs c.args.row.now c.args.name.now c.args.extent c.requires.extent_value (search rules) (search rules) (sym c.may_end.ensures ∙ not-true _ h)
