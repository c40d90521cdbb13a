-- `value_readings::double_of` meets its contract: the product or the quotient, and its sign last. Assumes nothing.
use mathlib.Core.Path.{sym, ap, ◌∙◌}
use mathlib.Core.Bool.{Bool}
use lib.Ieee.{neg}
use Rattle.value_readings.specs.Reading.{times, double}
use Rattle.value_readings.proofs.Laws.Powers.{back_is}
use Rattle.value_readings.proofs.double_of.Goals as goal

pub returns-then-minus : goal.returns-then-minus
returns-then-minus c = ap neg (c.scaled-q.ensures ∙ ap (times c.args.n) (back_is c.args.p c.requires.1)) ∙ ap (λ (m : Bool). double m c.args.n c.args.p) (sym c.if-minus.true)

pub returns : goal.returns
returns c = c.scaled-q.ensures ∙ ap (times c.args.n) (back_is c.args.p c.requires.1) ∙ ap (λ (m : Bool). double m c.args.n c.args.p) (sym c.if-minus.false)
