-- `value_parameters::counted` meets its contract: four commas are as many as more, since three are asked for. Assumes nothing.
use borrow.Author.Tests.{ne_eqb, lt-ltb, le-ltb}
use Rattle.value_parameters.proofs.counted.Goals as goal

pub returns-then-b-ne-COMMA : goal.returns-then-b-ne-COMMA
returns-then-b-ne-COMMA c = rw (ne_eqb c.args.b 44 c.if-b-ne-COMMA.true)

pub returns-then-commas-lt4 : goal.returns-then-commas-lt4
returns-then-commas-lt4 c = rw (c.if-b-ne-COMMA.false, lt-ltb c.args.commas 4 c.if-commas-lt4.true)

pub returns : goal.returns
returns c = rw (c.if-b-ne-COMMA.false, le-ltb c.args.commas 4 c.if-commas-lt4.false)
