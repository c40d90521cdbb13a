-- `line_row::row_cells` meets its contract. The loop's invariant: the breaks put so far and those of the cells that are left are those of all cells.
-- Assumes nothing.
use mathlib.Core.Path.{refl, ap, ◌∙◌}
use Prim.Native.Nat.{◌+◌, ◌<◌}
use native.Mathlib.Omega.{arith}
use borrow.Author.Rules.{rules}
use lib.ListN.{length, drop}
use Rattle.scan.specs.Machine.{row_cell}
use Rattle.scan.proofs.Laws.Celling.{cell_here, cells_next, turn_next, turn_last}
use Rattle.line_row.proofs.Laws.{cell_left, row_turn}
use Rattle.line_row.proofs.row_cells.Goals as goal

pub loop-i-init : goal.loop-i-init
loop-i-init c = (search rules, search rules, search rules, search rules, λ rest. refl)

-- the cell is one of those left
pub row_cell-k-requires : goal.row_cell-k-requires
row_cell-k-requires c = omega (arith, ap length (cell_here c.cell_end-e.ensures))

pub returns-then-e-line : goal.returns-then-e-line
returns-then-e-line c =
    record {
      does = λ rest. turn_last c.cell_end-e.ensures (row_cell c.args.kinds.now c.args.tag.control c.args.tag.line) (c.loop-i.i + 1) (row_turn c.args.kinds.now c.args.tag.control c.args.tag.line c.loop-i.i _ c.row_cell-k.ensures) rest c.if-e-line.true ∙ c.loop-i.invariant.4 rest;
      most = omega (arith, ap length (cell_here c.cell_end-e.ensures));
    }

pub loop-i-preserved : goal.loop-i-preserved
loop-i-preserved c =
    let lt : c.cell_end-e.result < length c.args.line.now = omega arith in (
      omega arith,
      omega (arith, ap length (cell_here c.cell_end-e.ensures), ap length (cells_next c.cell_end-e.ensures lt)),
      omega arith,
      search rules,
      λ rest. turn_next c.cell_end-e.ensures (row_cell c.args.kinds.now c.args.tag.control c.args.tag.line) (c.loop-i.i + 1) (row_turn c.args.kinds.now c.args.tag.control c.args.tag.line c.loop-i.i _ c.row_cell-k.ensures) rest lt ∙ c.loop-i.invariant.4 rest,
    )

-- a cell is left at each turn, and so the last kind is not passed
pub returns : goal.returns
returns c = absurd (omega (arith, cell_left (drop c.loop-i.at c.args.line.now)))
