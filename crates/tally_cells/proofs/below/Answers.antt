-- `tally_cells::below` meets its contract: the minus is asked for first, then whether it is zero. Assumes nothing.
use borrow.Author.Tests.{eq-eqb, ne_eqb}
use Rattle.tally_cells.proofs.below.Goals as goal

pub returns-then-first-ne-MINUS : goal.returns-then-first-ne-MINUS
returns-then-first-ne-MINUS c = rw (ne_eqb c.args.first 45 c.if-first-ne-MINUS.true)

pub returns-then-count-eq0 : goal.returns-then-count-eq0
returns-then-count-eq0 c = rw (eq-eqb c.args.first 45 c.if-first-ne-MINUS.false, eq-eqb c.args.count 0 c.if-count-eq0.true)

pub returns : goal.returns
returns c = rw (eq-eqb c.args.first 45 c.if-first-ne-MINUS.false, ne_eqb c.args.count 0 c.if-count-eq0.false)
