-- `text::cells::nth_cell` meets its contract. The invariant: cell n of the line is cell `left` of what stands from `at` on. Assumes nothing.
use mathlib.Core.Path.{◌≡◌}
use Prim.Native.Nat.{◌-◌, ◌≤◌}
use lib.ListN.{length, drop, get_elem?}
use Rattle.text_bytes.specs.Places.{after}
use Rattle.text.specs.Lines.{TAB, cells}
use Rattle.text.proofs.cells.nth_cell.Given as goal

abbrev pub invariant-loop-left : goal.invariant-loop-left
invariant-loop-left l = (l.at ≤ length l.line) × (l.left ≤ l.n) × (l.at ≡ after TAB (l.n - l.left) l.line) × (get_elem? (cells l.line) l.n ≡ get_elem? (cells (drop l.at l.line)) l.left)

abbrev pub decreases-loop-left : goal.decreases-loop-left
decreases-loop-left l = l.left
