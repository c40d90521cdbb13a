-- `text_bytes::same_bytes` meets its contract. The invariant: the two are the same just where they are from i on. Assumes nothing.
use mathlib.Core.Path.{◌≡◌}
use Prim.Native.Nat.{◌≤◌}
use lib.ListN.{length, drop}
use Rattle.text_bytes.specs.Bytes.{same}
use Rattle.text_bytes.proofs.same_bytes.Given as goal

abbrev pub invariant-loop-i : goal.invariant-loop-i
invariant-loop-i l = (l.i ≤ length l.a) × (same l.a l.b ≡ same (drop l.i l.a) (drop l.i l.b))
