-- `value_parameters::fills_from` meets its contract: what stands behind the spaces fills the third field. Assumes nothing.
use borrow.Author.Tests.{ne_eqb, lt-ltb, le-ltb}
use mathlib.Core.Path.{sym}
use mathlib.Core.Bool.{or-true, or-false}
use Rattle.value_parameters.proofs.fills_from.Goals as goal

pub returns-then-commas-ne2 : goal.returns-then-commas-ne2
returns-then-commas-ne2 c = rw (ne_eqb c.args.commas 2 c.if-commas-ne2.true) (sym (or-false c.args.filled))

pub returns-then-gap-i : goal.returns-then-gap-i
returns-then-gap-i c = rw (c.if-commas-ne2.false, lt-ltb c.args.gap c.args.i c.if-gap-i.true) (sym (or-true c.args.filled))

pub returns : goal.returns
returns c = rw (c.if-commas-ne2.false, le-ltb c.args.gap c.args.i c.if-gap-i.false) (sym (or-false c.args.filled))
