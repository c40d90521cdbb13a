-- `values::without_minus` meets its contract: where a minus stands first, the digits begin after it. Assumes nothing.
use native.Mathlib.Omega.{arith}
use Rattle.values.proofs.Laws.Digits.{unsigned_none, unsigned_minus, unsigned_plain}
use Rattle.values.proofs.without_minus.Goals as goal

pub returns-then-s-eq0 : goal.returns-then-s-eq0
returns-then-s-eq0 c = unsigned_none c.args.s.now c.if-s-eq0.true

pub returns-then-s-eq-MINUS : goal.returns-then-s-eq-MINUS
returns-then-s-eq-MINUS c = unsigned_minus c.args.s.now (omega arith) c.if-s-eq-MINUS.true

pub returns : goal.returns
returns c = unsigned_plain c.args.s.now c.if-s-eq-MINUS.false
