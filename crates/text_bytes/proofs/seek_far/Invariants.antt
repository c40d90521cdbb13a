-- `text_bytes::seek_far` meets its contract. The invariant: b stands in none of the bytes looked at. Assumes nothing.
use mathlib.Core.Path.{◌≡◌}
use Prim.Native.Nat.{◌+◌}
use lib.ListN.{drop}
use Rattle.text_bytes.specs.Places.{up_to}
use Rattle.text_bytes.proofs.seek_far.Given as goal

abbrev pub invariant-loop-near : goal.invariant-loop-near
invariant-loop-near l = l.from + up_to l.b (drop l.from l.s) ≡ l.near + up_to l.b (drop l.near l.s)
