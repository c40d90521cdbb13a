-- `line_head::head_code` meets its contract: four puts, one after the other. Assumes nothing.
use Rattle.scan.proofs.Laws.Putting.{puts2, puts3}
use Rattle.line_head.proofs.head_code.Goals as goal

pub returns : goal.returns
returns c = puts2 (puts3 c.put_if-k1.ensures c.put_again-k2.ensures c.put_if-k3.ensures) c.put_if.ensures
