-- `value_readings::has_minus` meets its contract: the first byte decides, and an empty text has none. Assumes nothing.
use mathlib.Core.Path.{refl, sym}
use Rattle.value_readings.proofs.Laws.Readings.{minus_none}
use Rattle.value_readings.specs.Reading.{has_minus}
use Rattle.value_readings.proofs.has_minus.Goals as goal

pub returns-then-s-eq0 : goal.returns-then-s-eq0
returns-then-s-eq0 c = sym (minus_none c.args.s.now c.if-s-eq0.true)

pub returns : goal.returns
unfolding has_minus
returns c = refl
