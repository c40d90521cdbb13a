-- `book_lookup::may_fit`: the tests that led to each answer decide. Assumes nothing.
use borrow.Author.Rules.{rules}
use Rattle.book_names.specs.Steps.{may_fit}
use Rattle.book_lookup.proofs.may_fit.Goals as goal

pub returns-then-x-eq91 : goal.returns-then-x-eq91
unfolding may_fit
returns-then-x-eq91 c = search rules

pub returns-else-x-eq91 : goal.returns-else-x-eq91
unfolding may_fit
returns-else-x-eq91 c = search rules
