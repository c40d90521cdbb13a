-- `rows::nth_coded` meets its contract. The invariant: line n of those with the code is line `left` of those from `at` on, the first of which is line `line_no`. Assumes nothing.
use mathlib.Core.Path.{◌≡◌}
use Prim.Native.Nat.{◌+◌, ◌-◌, ◌≤◌}
use lib.ListN.{length, drop, get_elem?}
use Rattle.text_bytes.specs.Places.{after}
use Rattle.text.specs.Lines.{LF, lines}
use Rattle.rows.specs.Rows.{numbered, having}
use Rattle.rows.proofs.nth_coded.Given as goal

abbrev pub invariant-loop-at : goal.invariant-loop-at
invariant-loop-at l = (l.at ≤ length l.file) × (l.line_no ≤ l.at + 1) × (1 ≤ l.line_no) × (l.at ≡ after LF (l.line_no - 1) l.file)
    × (get_elem? (having l.code (numbered 1 (lines l.file))) l.n ≡ get_elem? (having l.code (numbered l.line_no (lines (drop l.at l.file)))) l.left)

abbrev pub decreases-loop-at : goal.decreases-loop-at
decreases-loop-at l = length l.file - l.at
