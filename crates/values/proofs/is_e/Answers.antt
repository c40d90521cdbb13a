-- `values::is_e`: the two tests are those of the definition. Assumes nothing.
use borrow.Author.Tests.{eq-eqb, ne_eqb}
use Rattle.values.specs.Values.{is_e}
use Rattle.values.proofs.is_e.Goals as goal

pub returns-then-b-eq69 : goal.returns-then-b-eq69
unfolding is_e
returns-then-b-eq69 c = rw (eq-eqb c.args.b 69 c.if-b-eq69.true)

pub returns : goal.returns
unfolding is_e
returns c = rw (ne_eqb c.args.b 69 c.if-b-eq69.false)
