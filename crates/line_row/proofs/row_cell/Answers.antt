-- `line_row::row_cell` meets its contract: a cell that breaks nothing is left at once, and else its three puts make kind_cell. Assumes nothing.
use Rattle.scan.proofs.Laws.Putting.{puts3}
use Rattle.rules.proofs.Laws.Sorting.{empty_test}
use Rattle.line_row.proofs.Laws.{cell_good}
use Rattle.line_row.proofs.row_cell.Goals as goal

pub returns-then-not-bad : goal.returns-then-not-bad
returns-then-not-bad c =
    cell_good c.args.kind c.args.tag.control c.args.tag.line c.args.c c.args.cell.now _
    (rw (c.cell_of_kind-good.ensures, c.is_empty-empty.ensures, empty_test c.args.cell.now) at c.if-not-bad.true-raw)

pub returns : goal.returns
returns c = rw (c.cell_of_kind-good.ensures, c.is_empty-empty.ensures, empty_test c.args.cell.now) at (puts3 c.put_if-k1.ensures c.put_if-k2.ensures c.put_if.ensures)
