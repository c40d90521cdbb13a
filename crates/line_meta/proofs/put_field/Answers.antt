-- `line_meta::put_field` meets its contract: two puts, one after the other. Assumes nothing.
use Rattle.scan.proofs.Laws.Putting.{puts2}
use Rattle.line_meta.proofs.put_field.Goals as goal

pub returns : goal.returns
returns c = puts2 c.put_if-k.ensures c.put_rule.ensures
