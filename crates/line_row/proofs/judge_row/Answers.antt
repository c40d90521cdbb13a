-- `line_row::judge_row` meets its contract: cell 1, then the cells of a row that is under its header, or rule 1 alone. Assumes nothing.
use mathlib.Core.Path.{ap}
use Prim.Native.Nat.{◌<◌}
use native.Mathlib.Omega.{arith}
use lib.ListN.{length, drop}
use lib.Dec.{eqb}
use Rattle.text.specs.Lines.{cells}
use Rattle.scan.specs.Machine.{row_cell}
use Rattle.scan.proofs.Laws.Celling.{each_none, cell_here, cells_next, cells_last}
use Rattle.line_row.proofs.Laws.{row_narrow, row_under, row_other}
use Rattle.line_row.proofs.judge_row.Goals as goal

pub returns-then-not-under-even : goal.returns-then-not-under-even
returns-then-not-under-even c =
    row_other c.args.header c.args.width c.args.kinds.now c.args.section c.args.tag.control c.args.tag.line (cells c.args.line.now)
    (rw (c.count_cells.ensures) at c.row_code-k.ensures)
    (rw (c.count_cells.ensures) at c.if-not-under-even.true-raw)
    c.put_if.ensures

pub returns-then-e-line : goal.returns-then-e-line
returns-then-e-line c =
    row_under c.args.header c.args.width c.args.kinds.now c.args.section c.args.tag.control c.args.tag.line (cells c.args.line.now)
    (rw (c.count_cells.ensures) at c.row_code-k.ensures)
    (rw (c.count_cells.ensures) at c.if-not-under-even.false-raw)
    (each_none (row_cell c.args.kinds.now c.args.tag.control c.args.tag.line) 2 (drop 1 (cells c.args.line.now)) _ (cells_last c.cell_end-e.ensures c.if-e-line.true)) (omega arith)

pub row_cells-requires : goal.row_cells-requires
row_cells-requires c =
    let lt : c.cell_end-e.result < length c.args.line.now = omega arith in
    let narrow = row_narrow (eqb c.args.header c.args.section) c.args.width (length (cells c.args.line.now))
    (rw (c.count_cells.ensures) at c.if-not-under-even.false-raw) in
    record {
      from_in_bounds = omega arith;
      line_len_bound = omega (arith, ap length (cell_here c.cell_end-e.ensures), ap length (cells_next c.cell_end-e.ensures lt));
      count_bound = omega (arith, c.requires, c.row_code-k.ensures.most);
    }

pub returns : goal.returns
returns c =
    let lt : c.cell_end-e.result < length c.args.line.now = omega (arith, c.if-e-line.false, c.cell_end-e.ensures.within) in
    row_under c.args.header c.args.width c.args.kinds.now c.args.section c.args.tag.control c.args.tag.line (cells c.args.line.now)
    (rw (c.count_cells.ensures) at c.row_code-k.ensures)
    (rw (c.count_cells.ensures) at c.if-not-under-even.false-raw)
    (rw (← cells_next c.cell_end-e.ensures lt) at c.row_cells.ensures) (omega arith)
