-- `rows::column_of` meets its contract: there is no column 0. Assumes nothing.
use borrow.Author.Tests.{eq-eqb}
use Rattle.rows.specs.Rows.{cell_at}
use Rattle.rows.proofs.Laws.Finding.{column_cell}
use Rattle.rows.proofs.column_of.Goals as goal

pub returns-then-column-eq0 : goal.returns-then-column-eq0
unfolding cell_at
returns-then-column-eq0 c = rw (eq-eqb c.args.column 0 c.if-column-eq0.true)

pub returns : goal.returns
returns c = column_cell c.args.line.now c.args.column c.if-column-eq0.false c.nth_cell.result c.nth_cell.ensures
