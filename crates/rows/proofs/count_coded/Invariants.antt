-- `rows::count_coded` meets its contract. The invariant: the lines with the code are those counted and those of what is left. Assumes nothing.
use mathlib.Core.Path.{◌≡◌}
use Prim.Native.Nat.{◌+◌, ◌-◌, ◌≤◌}
use lib.ListN.{length, drop}
use Rattle.text_bytes.specs.Bytes.{count}
use Rattle.text.specs.Lines.{lines, coded}
use Rattle.rows.proofs.count_coded.Given as goal

abbrev pub invariant-loop-at : goal.invariant-loop-at
invariant-loop-at l = (l.at ≤ length l.file) × (l.n ≤ l.at) × (count (coded l.code) (lines l.file) ≡ l.n + count (coded l.code) (lines (drop l.at l.file)))

abbrev pub decreases-loop-at : goal.decreases-loop-at
decreases-loop-at l = length l.file - l.at
