-- `scan::state::first_kept` meets its contract: the test of the code is that of the definition. Assumes nothing.
use borrow.Author.Tests.{eq-eqb, ne_eqb}
use Rattle.scan.proofs.state.first_kept.Goals as goal

pub returns-then-first-eq0 : goal.returns-then-first-eq0
returns-then-first-eq0 c = rw (eq-eqb c.args.first 0 c.if-first-eq0.true)

pub returns-else-first-eq0 : goal.returns-else-first-eq0
returns-else-first-eq0 c = rw (ne_eqb c.args.first 0 c.if-first-eq0.false)
