-- `line_row::row_code` meets its contract: three puts, one after the other. Assumes nothing.
use Rattle.scan.proofs.Laws.Putting.{puts3}
use Rattle.line_row.proofs.row_code.Goals as goal

pub returns : goal.returns
returns c = puts3 c.put_if-k1.ensures c.put_if-k2.ensures c.put_if.ensures
