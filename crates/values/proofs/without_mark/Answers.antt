-- `values::without_mark` meets its contract: where a plus or a minus stands first, the digits begin after it. Assumes nothing.
use native.Mathlib.Omega.{arith}
use Rattle.values.proofs.Laws.Digits.{unmarked_none, unmarked_plus, unmarked_minus, unmarked_plain}
use Rattle.values.proofs.without_mark.Goals as goal

pub returns-then-s-eq0 : goal.returns-then-s-eq0
returns-then-s-eq0 c = unmarked_none c.args.s.now c.if-s-eq0.true

pub returns-then-s-eq-PLUS : goal.returns-then-s-eq-PLUS
returns-then-s-eq-PLUS c = unmarked_plus c.args.s.now (omega arith) c.if-s-eq-PLUS.true

pub returns-then-s-eq-MINUS : goal.returns-then-s-eq-MINUS
returns-then-s-eq-MINUS c = unmarked_minus c.args.s.now (omega arith) c.if-s-eq-PLUS.false c.if-s-eq-MINUS.true

pub returns : goal.returns
returns c = unmarked_plain c.args.s.now c.if-s-eq-PLUS.false c.if-s-eq-MINUS.false
