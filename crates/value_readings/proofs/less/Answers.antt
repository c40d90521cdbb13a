-- `value_readings::less` meets its contract: both are small, so the difference fits. Assumes nothing.
use Rattle.value_readings.proofs.Laws.Powers.{less_fits, less_is}
use Rattle.value_readings.proofs.less.Goals as goal

pub overflow_sub-result : goal.overflow_sub-result
overflow_sub-result c = less_fits c.args.x c.args.places c.requires.0 c.requires.1

pub returns : goal.returns
returns c = less_is c.args.x c.args.places c.requires.0 c.requires.1
