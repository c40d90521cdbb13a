-- `line_head_stamps::hash` meets its contract. The loop's invariant: the hash so far and the bytes that are left give the whole. Assumes nothing.
use mathlib.Core.Path.{◌≡◌}
use Prim.Native.Nat.{◌<◌}
use lib.ListN.{drop}
use Rattle.line_head_stamps.specs.Stamps.{hash_from}
use Rattle.line_head_stamps.proofs.hash.Given as goal

abbrev pub invariant-loop-x : goal.invariant-loop-x
invariant-loop-x l = (l.h < 65536) × (hash_from 0 l.name ≡ hash_from l.h (drop l.x-index l.name))
