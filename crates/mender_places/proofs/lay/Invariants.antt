-- `mender_places::lay` meets its contract. The invariant: what is laid, and the bytes that are left, are all of them. Assumes nothing.
use mathlib.Core.Path.{◌≡◌}
use Prim.Native.Nat.{◌+◌}
use lib.ListN.{length, drop}
use Rattle.scan.specs.Places.{lent}
use Rattle.mender_places.specs.Places.{lay_all}
use Rattle.mender_places.proofs.lay.Given as goal

abbrev pub invariant-loop-i : goal.invariant-loop-i
invariant-loop-i l = (length l.copy ≡ length l.initial.copy) × (lay_all (lent l.copy (l.to + l.i)) (drop l.i l.bytes) ≡ lay_all (lent l.initial.copy l.to) l.bytes)
