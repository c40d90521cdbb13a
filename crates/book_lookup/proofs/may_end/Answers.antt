-- `book_lookup::may_end`: the tests that led to each answer decide. Assumes nothing.
use borrow.Author.Rules.{rules}
use Rattle.book_names.specs.Steps.{may_end}
use Rattle.book_lookup.proofs.may_end.Goals as goal

pub returns-then-row-end : goal.returns-then-row-end
unfolding may_end
returns-then-row-end c = search rules

pub returns-then-last-eq93 : goal.returns-then-last-eq93
unfolding may_end
returns-then-last-eq93 c = search rules

pub returns-else-last-eq93 : goal.returns-else-last-eq93
unfolding may_end
returns-else-last-eq93 c = search rules

pub returns-else-row-end-eq-SPACE : goal.returns-else-row-end-eq-SPACE
unfolding may_end
returns-else-row-end-eq-SPACE c = search rules
