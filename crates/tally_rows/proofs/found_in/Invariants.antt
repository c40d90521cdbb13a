-- `tally_rows::found_in` meets its contract. The invariant: what was added and what the lines left will add is what all lines add. Assumes nothing.
use mathlib.Core.Path.{◌≡◌}
use Prim.Native.Nat.{ℕ, ◌+◌, ◌-◌, ◌≤◌}
use lib.ListN.{length, drop}
use Rattle.text_bytes.specs.Bytes.{Bytes}
use Rattle.text.specs.Lines.{lines}
use Rattle.column_marks.specs.Sums.{sum_lines}
use Rattle.tally_rows.specs.Counts.{nine, line_adds, lines_add}
use Rattle.tally_rows.proofs.found_in.Given as goal

abbrev pub invariant-loop-at : goal.invariant-loop-at
invariant-loop-at l = (l.at ≤ length l.file) × ((i : ℕ) → nine l.found i + sum_lines (λ (x : Bytes). line_adds l.marks x i) (lines (drop l.at l.file)) ≡ lines_add l.marks l.file i)

abbrev pub decreases-loop-at : goal.decreases-loop-at
decreases-loop-at l = length l.file - l.at
