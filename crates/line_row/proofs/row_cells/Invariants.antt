-- `line_row::row_cells` meets its contract. The loop's invariant: the breaks put so far and those of the cells that are left are those of all cells.
-- Assumes nothing.
use mathlib.Core.Path.{◌≡◌}
use mathlib.Core.List.{List}
use Prim.Native.Nat.{◌+◌, ◌*◌, ◌≤◌}
use lib.ListN.{length, drop}
use Rattle.text.specs.Lines.{cells}
use Rattle.rules.specs.Breaks.{Break}
use Rattle.scan.specs.Places.{lent, put_all}
use Rattle.scan.specs.Machine.{each_cell, row_cell}
use Rattle.line_row.proofs.row_cells.Given as goal

abbrev pub invariant-loop-i : goal.invariant-loop-i
invariant-loop-i l = (l.at ≤ length l.line) × (l.i + length (cells (drop l.at l.line)) ≤ 256) × (l.k + 3 ≤ l.count + 3 * l.i) × (length l.places ≡ length l.initial.places)
    × ((rest : List Break) → put_all (lent l.places l.k) (each_cell (row_cell l.kinds l.tag.control l.tag.line) (l.i + 1) (cells (drop l.at l.line)) rest)
    ≡ put_all (lent l.initial.places l.count) (each_cell (row_cell l.kinds l.tag.control l.tag.line) 2 (cells (drop l.from l.line)) rest))
