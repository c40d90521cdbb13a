-- `value_parameters::is_whole_part` meets its contract: test by test. Assumes nothing.
use borrow.Author.Tests.{ne_eqb}
use mathlib.Core.Path.{sym, ◌∙◌}
use lib.Dec.{eqb}
use mathlib.Core.Bool.{and-false}
use Rattle.value_parameters.proofs.is_whole_part.Goals as goal

pub returns-then-w-from : goal.returns-then-w-from
returns-then-w-from c = rw (ne_eqb c.args.w.last 93 (λ z. c.if-w-from.true (z ∙ sym c.from.ensures)))

pub returns-then-w-ne3 : goal.returns-then-w-ne3
returns-then-w-ne3 c = rw (ne_eqb c.args.w.scan.commas 3 c.if-w-ne3.true, and-false (eqb c.args.w.last 93))

pub returns-then-w : goal.returns-then-w
returns-then-w c = rw (c.if-w.true, and-false (eqb c.args.w.scan.commas 3), and-false (eqb c.args.w.last 93))

pub returns : goal.returns
returns c = rw (c.if-w-from.false, c.from.ensures, c.if-w-ne3.false, c.if-w.false)
