-- `line_head_stamps::first_difference` meets its contract. The loop's invariant: the bytes that are left decide whether the two are the same. Assumes nothing.
use mathlib.Core.Path.{◌≡◌}
use Prim.Native.Nat.{◌≤◌}
use lib.ListN.{length, drop}
use Rattle.text_bytes.specs.Bytes.{same}
use Rattle.line_head_stamps.proofs.first_difference.Given as goal

abbrev pub invariant-loop-i : goal.invariant-loop-i
invariant-loop-i l = (l.i ≤ length l.b) × (same (drop l.i l.a) (drop l.i l.b) ≡ same l.a l.b)
