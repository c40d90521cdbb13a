-- `value_parameters::outside_scan` and `inside_scan`, which call each other: the bytes left fall with each call.
-- The invariant of each: the run over the whole part is the run over what is left of it, from the state so far; outside marks the byte read last is known,
-- and the third field is told from how far the field holds spaces alone. Assumes nothing.
use mathlib.Core.Path.{◌≡◌}
use mathlib.Core.Bool.{true, false}
use Prim.Native.Nat.{◌-◌, ◌≤◌}
use lib.Dec.{eqb}
use Rattle.text_bytes.specs.Places.{part}
use Rattle.value_parameters.specs.Scan.{state, run}
use Rattle.value_parameters.proofs.Laws.Walks.{shut, filled_at}
use Rattle.value_parameters.proofs.+inside_scan_outside_scan.Given as goal

abbrev pub decreases-inside_scan : goal.decreases-inside_scan
decreases-inside_scan l = l.end - l.at

abbrev pub decreases-outside_scan : goal.decreases-outside_scan
decreases-outside_scan l = l.end - l.at

abbrev pub invariant-inside_scan-loop-i : goal.invariant-inside_scan-loop-i
invariant-inside_scan-loop-i l =
    run l.bars (state l.at l.commas true l.filled) (part l.at l.end l.s) ≡ run l.bars (state l.i l.commas true l.f) (part l.i l.end l.s)

abbrev pub invariant-outside_scan-loop-i : goal.invariant-outside_scan-loop-i
invariant-outside_scan-loop-i l =
    (l.gap ≤ l.i)
    × (run l.bars (state l.at l.commas false l.filled) (part l.at l.end l.s) ≡ run l.bars (state l.i l.n false (filled_at l.n l.f l.gap l.i)) (part l.i l.end l.s))
    × (eqb l.last 93 ≡ shut l.s l.at l.i)
