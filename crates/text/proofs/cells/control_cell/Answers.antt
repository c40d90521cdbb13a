-- `text::cells::control_cell` meets its contract: with no control byte no cell has one. Assumes nothing.
use mathlib.Core.Path.{sym, ◌∙◌}
use Rattle.text.proofs.Laws.Runs.{control_free}
use Rattle.text.proofs.cells.control_cell.Goals as goal

pub returns : goal.returns
returns c = sym (control_free 1 c.args.line.now (sym c.has_control.ensures ∙ c.if-has_control.false))
