-- `value_parameters::ends_part` meets its contract: a bar ends a part where parts are asked for. Assumes nothing.
use borrow.Author.Tests.{ne_eqb}
use mathlib.Core.Path.{sym}
use mathlib.Core.Bool.{and-true, and-false}
use Rattle.value_parameters.proofs.ends_part.Goals as goal

pub returns-then-b-eq-BAR : goal.returns-then-b-eq-BAR
returns-then-b-eq-BAR c = rw c.if-b-eq-BAR.true (sym (and-true c.args.bars))

pub returns : goal.returns
returns c = rw (ne_eqb c.args.b 124 c.if-b-eq-BAR.false) (sym (and-false c.args.bars))
