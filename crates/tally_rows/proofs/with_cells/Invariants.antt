-- `tally_rows::with_cells` meets its contract. The invariant: what was added and what the cells left will add is what all cells add. Assumes nothing.
use mathlib.Core.Path.{◌≡◌}
use Prim.Native.Nat.{ℕ, ◌+◌, ◌≤◌}
use lib.ListN.{length, drop, get_or}
use Rattle.text_bytes.specs.Bytes.{Bytes}
use Rattle.text.specs.Lines.{cells}
use Rattle.column_marks.specs.Sums.{sum_cells}
use Rattle.tally_rows.specs.Counts.{nine, cell_adds, row_adds}
use Rattle.tally_rows.proofs.with_cells.Given as goal

abbrev pub invariant-loop-k : goal.invariant-loop-k
invariant-loop-k l = (l.at ≤ length l.line)
    × ((i : ℕ) → nine l.found i + sum_cells (λ (j : ℕ) (cell : Bytes). cell_adds (get_or l.marks j 0) cell i) l.k (cells (drop l.at l.line)) ≡ nine l.initial.found i + row_adds l.marks l.line i)
