-- `value_references::references` meets its contract. The invariant: the list is told by what was marked and by what is left. Assumes nothing.
use Prim.Native.Nat.{◌-◌, ◌≤◌}
use lib.ListN.{length}
use Rattle.value_references.proofs.Laws.Names.{SoFar}
use Rattle.value_references.proofs.references.Given as goal

abbrev pub invariant-loop-flaw : goal.invariant-loop-flaw
invariant-loop-flaw l = (l.at ≤ length l.s) × SoFar l.word l.s l.at l.like l.flaw l.named

abbrev pub decreases-loop-flaw : goal.decreases-loop-flaw
decreases-loop-flaw l = length l.s - l.at
