-- `value_parameters::is_blank` meets its contract: a space right behind the others. Assumes nothing.
use borrow.Author.Tests.{ne_eqb}
use Rattle.value_parameters.proofs.is_blank.Goals as goal

pub returns-then-b-ne-SPACE : goal.returns-then-b-ne-SPACE
returns-then-b-ne-SPACE c = rw (ne_eqb c.args.b 32 c.if-b-ne-SPACE.true)

pub returns : goal.returns
returns c = rw c.if-b-ne-SPACE.false
