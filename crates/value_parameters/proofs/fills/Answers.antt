-- `value_parameters::fills` meets its contract: between the second and the third comma any byte but a space fills the field. Assumes nothing.
use borrow.Author.Tests.{ne_eqb}
use mathlib.Core.Path.{sym}
use mathlib.Core.Bool.{or-true, or-false}
use Rattle.value_parameters.proofs.fills.Goals as goal

pub returns-then-commas-ne2 : goal.returns-then-commas-ne2
returns-then-commas-ne2 c = rw (ne_eqb c.args.commas 2 c.if-commas-ne2.true) (sym (or-false c.args.filled))

pub returns-then-b-eq-SPACE : goal.returns-then-b-eq-SPACE
returns-then-b-eq-SPACE c = rw (c.if-commas-ne2.false, c.if-b-eq-SPACE.true) (sym (or-false c.args.filled))

pub returns : goal.returns
returns c = rw (c.if-commas-ne2.false, ne_eqb c.args.b 32 c.if-b-eq-SPACE.false) (sym (or-true c.args.filled))
