-- `book_lookup::fits_row` meets its contract: a row whose second byte is another, or that cannot fit, differs, and any other is read. Assumes nothing.
use borrow.Author.Rules.{rules}
use mathlib.Core.Path.{sym, ◌∙◌}
use borrow.Author.Tests.{not-true}
use Rattle.book_names.proofs.Laws.Turns.{may_other}
use Rattle.book_lookup.proofs.fits_row.Goals as goal

pub returns-then-not-may_fit : goal.returns-then-not-may_fit
returns-then-not-may_fit c =
    sym (may_other c.args.row.now 3 (search rules) c.args.name.now
    (rw (← c.requires.x_value, ← c.requires.y_value) (sym c.may_fit.ensures ∙ not-true _ c.if-not-may_fit.true-raw)))
