-- `line_any::judge_unknown` meets its contract: three puts, one after the other. Assumes nothing.
use Rattle.scan.specs.Machine.{unknown_breaks}
use Rattle.scan.proofs.Laws.Putting.{puts3}
use Rattle.line_any.proofs.judge_unknown.Goals as goal

pub returns : goal.returns
unfolding unknown_breaks
returns c = puts3 c.put_if-k1.ensures c.put_if-k2.ensures c.put_if.ensures
