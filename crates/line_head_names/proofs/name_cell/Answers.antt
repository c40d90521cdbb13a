-- `line_head_names::name_cell` meets its contract: the puts of name_known and two more. Assumes nothing.
use Rattle.scan.proofs.Laws.Putting.{puts3}
use Rattle.line_head_names.proofs.name_cell.Goals as goal

pub returns : goal.returns
returns c = rw (c.is_opt.ensures, c.name_rule-rule.ensures) at (puts3 c.name_known-k1.ensures c.put_if-k2.ensures c.put_rule.ensures)
