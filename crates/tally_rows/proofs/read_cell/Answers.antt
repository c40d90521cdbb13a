-- `tally_rows::read_cell` meets its contract: nothing is asked of a cell under no counter but where it ends. Assumes nothing.
use mathlib.Core.Path.{◌∙◌}
use Rattle.tally_rows.proofs.Laws.Adding.{marked_none, marked_some}
use Rattle.tally_rows.proofs.read_cell.Goals as goal

pub returns-then-counter-eq0 : goal.returns-then-counter-eq0
returns-then-counter-eq0 c = record { ends = c.cell_end-end.ensures; count = marked_none _ c.if-counter-eq0.true; missing = marked_none _ c.if-counter-eq0.true; below = marked_none _ c.if-counter-eq0.true }

pub returns : goal.returns
returns c = record { ends = c.count_at.ensures.ends; count = c.count_at.ensures.count ∙ marked_some _ c.if-counter-eq0.false; missing = c.count_at.ensures.missing ∙ marked_some _ c.if-counter-eq0.false; below = c.count_at.ensures.below ∙ marked_some _ c.if-counter-eq0.false }
