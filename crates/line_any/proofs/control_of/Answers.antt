-- `line_any::control_of` meets its contract: a line has at most one cell more than bytes. Assumes nothing.
use native.Mathlib.Omega.{arith}
use Rattle.text.specs.Lines.{TAB, cells, control}
use Rattle.text_bytes.proofs.Laws.Pieces.{pieces_bound}
use Rattle.text_bytes.specs.Bytes.{any}
use Rattle.text_bytes.proofs.Laws.Firsts.{first_below}
use Rattle.line_any.proofs.control_of.Goals as goal

pub overflow_cast-result : goal.overflow_cast-result
overflow_cast-result c = omega (arith, c.control_cell.ensures, first_below (any control) 1 (cells c.args.line.now) (omega arith), pieces_bound TAB c.args.line.now, c.requires)
