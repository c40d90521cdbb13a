-- `weight_counts::count_cell` meets its contract: at each `return` the tests say whether the cell counts. Assumes nothing.
use mathlib.Core.Path.{sym, ◌∙◌}
use Rattle.text_bytes.specs.Bytes.{bytes}
use Rattle.weight_counts.proofs.Laws.Raising.{cell_unmarked, cell_null, cell_counts}
use Rattle.weight_counts.proofs.count_cell.Goals as goal

pub returns-then-mark-eq0 : goal.returns-then-mark-eq0
returns-then-mark-eq0 c = cell_unmarked c.args.mark c.args.cell.now c.args.weights.now c.if-mark-eq0.true

pub returns-then-same_bytes : goal.returns-then-same_bytes
unfolding bytes
returns-then-same_bytes c = cell_null c.args.mark c.args.cell.now c.args.weights.now c.if-mark-eq0.false (sym c.same_bytes.ensures ∙ c.if-same_bytes.true)

pub returns : goal.returns
unfolding bytes
returns c = rw c.from-i.ensures (cell_counts c.args.mark c.args.cell.now c.args.weights.now c.if-mark-eq0.false (sym c.same_bytes.ensures ∙ c.if-same_bytes.false))
