-- `line_head_names::name_known` meets its contract: three puts, one after the other. Assumes nothing.
use Rattle.scan.proofs.Laws.Putting.{puts3}
use Rattle.line_head_names.proofs.name_known.Goals as goal

pub returns : goal.returns
returns c = rw c.is_strange-strange.ensures at (puts3 c.put_if-k1.ensures c.put_if-k2.ensures c.put_again.ensures)
