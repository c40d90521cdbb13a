-- `book_lookup::extent`: what the bytes passed count, and those left, make the whole. Assumes nothing.
use mathlib.Core.Path.{◌≡◌}
use mathlib.Core.Bool.{false}
use Prim.Native.Nat.{◌+◌, ◌*◌, ◌-◌, ◌≤◌}
use lib.ListN.{length, drop}
use Rattle.book_names.specs.Steps.{extent as extentFrom}
use Rattle.book_lookup.proofs.extent.Given as goal

abbrev pub invariant-loop-at : goal.invariant-loop-at
invariant-loop-at l = (l.at ≤ length l.name) × (l.n ≤ 2 * l.at) × (extentFrom false l.name ≡ l.n + extentFrom false (drop l.at l.name))

abbrev pub decreases-loop-at : goal.decreases-loop-at
decreases-loop-at l = length l.name - l.at
