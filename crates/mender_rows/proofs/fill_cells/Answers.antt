-- `mender_rows::fill_cells` meets its contract. The loop's invariant: the bytes laid so far and those of the cells that are left are those of all cells, and so are
-- the changes. Assumes nothing.
use mathlib.Core.Path.{refl, ap, ◌∙◌}
use Prim.Native.Nat.{◌<◌}
use native.Mathlib.Omega.{arith}
use borrow.Author.Rules.{rules}
use lib.ListN.{length}
use Rattle.scan.proofs.Laws.Celling.{cell_here, cells_next}
use Rattle.mender_rows.proofs.Laws.Filling.{cell_length, lays_last, notes_last, lays_next, count_next, notes_next}
use Rattle.mender_rows.proofs.fill_cells.Goals as goal

pub loop-s-init : goal.loop-s-init
loop-s-init c = (search rules, search rules, search rules, search rules, search rules, search rules, search rules, refl, refl)

pub bounds-kinds-c : goal.bounds-kinds-c
bounds-kinds-c c = omega (arith, ap length (cell_here c.cell_end-e.ensures))

pub fill_cell-s-requires : goal.fill_cell-s-requires
fill_cell-s-requires c = (omega (arith, cell_length c.cell_end-e.ensures), omega arith)

pub returns-then-e-line : goal.returns-then-e-line
returns-then-e-line c =
    record {
      lays = lays_last c.cell_end-e.ensures c.args.kinds.now c.args.n c.loop-s.c c.fill_cell-s.ensures c.if-e-line.true ∙ c.loop-s.invariant.7;
      notes = notes_last c.cell_end-e.ensures c.args.kinds.now c.args.n c.loop-s.c c.fill_cell-s.ensures c.if-e-line.true ∙ c.loop-s.invariant.8;
      most_bytes = omega (arith, cell_length c.cell_end-e.ensures, c.fill_cell-s.ensures.most_bytes, c.loop-s.invariant.3);
      most_changes = omega (arith, c.fill_cell-s.ensures.most_changes, c.loop-s.invariant.4);
    }

pub lay-to-requires : goal.lay-to-requires
lay-to-requires c = omega (arith, cell_length c.cell_end-e.ensures, c.fill_cell-s.ensures.most_bytes, c.loop-s.invariant.3, c.requires.from_bound.0)

pub loop-s-preserved : goal.loop-s-preserved
loop-s-preserved c =
    let lt : c.cell_end-e.result < length c.args.line.now = omega arith in (
      omega arith,
      omega arith,
      omega (arith, ap length (cell_here c.cell_end-e.ensures), ap length (cells_next c.cell_end-e.ensures lt)),
      omega (arith, count_next c.cell_end-e.ensures c.args.kinds.now c.args.n c.loop-s.c c.fill_cell-s.ensures c.lay-to.ensures, cell_length c.cell_end-e.ensures, c.loop-s.invariant.3),
      omega (arith, c.fill_cell-s.ensures.most_changes, c.loop-s.invariant.4),
      search rules,
      search rules,
      lays_next c.cell_end-e.ensures c.args.kinds.now c.args.n c.loop-s.c c.fill_cell-s.ensures lt c.lay-to.ensures ∙ c.loop-s.invariant.7,
      notes_next c.cell_end-e.ensures c.args.kinds.now c.args.n c.loop-s.c c.fill_cell-s.ensures lt ∙ c.loop-s.invariant.8,
    )
