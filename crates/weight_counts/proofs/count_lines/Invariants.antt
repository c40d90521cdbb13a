-- `weight_counts::count_lines` meets its contract. The invariant: what was added and what the lines left will add is what all lines add. Assumes nothing.
use mathlib.Core.Path.{◌≡◌}
use Prim.Native.Nat.{ℕ, suc, ◌+◌, ◌-◌, ◌≤◌, ◌<◌}
use lib.ListN.{length, drop, get_or}
use Rattle.text.specs.Lines.{lines}
use Rattle.weight_counts.specs.Counts.{lines_add}
use Rattle.weight_counts.proofs.count_lines.Given as goal

abbrev pub invariant-loop-at : goal.invariant-loop-at
invariant-loop-at l = (l.at ≤ length l.file) × (length l.weights ≡ length l.initial.weights)
    × ((i : ℕ) → i < 64 → get_or l.weights i 0 + lines_add l.marks (suc i) (lines (drop l.at l.file)) ≡ get_or l.initial.weights i 0 + lines_add l.marks (suc i) (lines l.file))

abbrev pub decreases-loop-at : goal.decreases-loop-at
decreases-loop-at l = length l.file - l.at
