-- `value_readings::is_near` meets its contract: a number is near 0 where neither side is passed. Assumes nothing.
use Rattle.value_readings.proofs.Laws.Powers.{far_is, near_is}
use Rattle.value_readings.proofs.is_near.Goals as goal

pub returns-then-p-lt-LOWEST : goal.returns-then-p-lt-LOWEST
returns-then-p-lt-LOWEST c = far_is c.args.p c.ranges.p c.if-p-lt-LOWEST.true

pub returns : goal.returns
returns c = near_is c.args.p c.ranges.p c.if-p-lt-LOWEST.false
