-- `value_references::index::digits_end`: the digits passed and those left are all. Assumes nothing.
use mathlib.Core.Path.{◌≡◌}
use Prim.Native.Nat.{◌+◌}
use lib.ListN.{length, drop}
use Rattle.value_references.specs.Index.{digits}
use Rattle.value_references.proofs.index.digits_end.Given as goal

abbrev pub invariant-loop-end : goal.invariant-loop-end
invariant-loop-end l = l.from + length (digits (drop l.from l.s)) ≡ l.end + length (digits (drop l.end l.s))
