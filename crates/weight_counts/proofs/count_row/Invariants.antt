-- `weight_counts::count_row` meets its contract. The invariant: what was added and what the cells left will add is what all cells add. Assumes nothing.
use mathlib.Core.Path.{◌≡◌}
use Prim.Native.Nat.{ℕ, suc, ◌+◌, ◌≤◌, ◌<◌}
use lib.ListN.{length, drop, get_or}
use Rattle.text.specs.Lines.{cells}
use Rattle.weight_counts.specs.Counts.{adds, marks as marked}
use Rattle.weight_counts.proofs.count_row.Given as goal

abbrev pub invariant-loop-k : goal.invariant-loop-k
invariant-loop-k l = (l.at ≤ length l.line) × (length l.weights ≡ length l.initial.weights)
    × ((i : ℕ) → i < 64 → get_or l.weights i 0 + adds (marked l.marks (suc i)) l.k (cells (drop l.at l.line)) ≡ get_or l.initial.weights i 0 + adds (marked l.marks (suc i)) 0 (cells l.line))
