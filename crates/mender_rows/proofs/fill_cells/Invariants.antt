-- `mender_rows::fill_cells` meets its contract. The loop's invariant: the bytes laid so far and those of the cells that are left are those of all cells, and so are
-- the changes. Assumes nothing.
use mathlib.Core.Path.{◌≡◌}
use Prim.Native.Nat.{◌+◌, ◌-◌, ◌*◌, ◌≤◌}
use lib.ListN.{length, drop}
use Rattle.text.specs.Lines.{cells}
use Rattle.text.specs.Joined.{tabbed}
use Rattle.scan.specs.Places.{lent}
use Rattle.mender_places.specs.Places.{lay_all, note_all}
use Rattle.mender_rows.specs.Rows.{filled, found}
use Rattle.mender_rows.proofs.fill_cells.Given as goal

abbrev pub invariant-loop-s : goal.invariant-loop-s
invariant-loop-s l = (l.at ≤ length l.line) × (2 ≤ l.c) × (l.c + length (cells (drop l.at l.line)) ≤ 257)
    × (l.to + 5 * (length l.line - l.at) ≤ l.initial.to + 5 * (length l.line - l.from)) × (l.count + (length l.line - l.at) ≤ l.initial.count + (length l.line - l.from))
    × (length l.copy ≡ length l.initial.copy) × (length l.changes ≡ length l.initial.changes)
    × (lay_all (lent l.copy l.to) (tabbed (filled l.kinds l.c (cells (drop l.at l.line)))) ≡ lay_all (lent l.initial.copy l.initial.to) (tabbed (filled l.kinds 2 (cells (drop l.from l.line)))))
    × (note_all (lent l.changes l.count) (found l.kinds l.n l.c (cells (drop l.at l.line))) ≡ note_all (lent l.initial.changes l.initial.count) (found l.kinds l.n 2 (cells (drop l.from l.line))))

abbrev pub decreases-loop-s : goal.decreases-loop-s
decreases-loop-s l = length l.line - l.at
