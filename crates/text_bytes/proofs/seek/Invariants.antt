-- `text::bytes::seek` meets its contract. The invariant of both loops: the first b from `from` on is the first from i on. Assumes nothing.
use mathlib.Core.Path.{◌≡◌}
use Prim.Native.Nat.{◌+◌, ◌-◌, ◌≤◌}
use lib.ListN.{length, drop}
use Rattle.text_bytes.specs.Places.{up_to}
use Rattle.text_bytes.proofs.seek.Given as goal

abbrev pub invariant-loop-i : goal.invariant-loop-i
invariant-loop-i l = (l.from ≤ l.i) × (l.i ≤ length l.s) × (l.from + up_to l.b (drop l.from l.s) ≡ l.i + up_to l.b (drop l.i l.s))

abbrev pub decreases-loop-i : goal.decreases-loop-i
decreases-loop-i l = length l.s - l.i

abbrev pub invariant-loop-i-2 : goal.invariant-loop-i-2
invariant-loop-i-2 l = (l.from ≤ l.i) × (l.i ≤ length l.s) × (l.from + up_to l.b (drop l.from l.s) ≡ l.i + up_to l.b (drop l.i l.s))

abbrev pub decreases-loop-i-2 : goal.decreases-loop-i-2
decreases-loop-i-2 l = length l.s - l.i
