-- `line_head_stamps::nearby` meets its contract. The loop's invariant: a way on from the door is a way from the first. Assumes nothing.
use Prim.Native.Nat.{◌≤◌}
use Rattle.line_head_stamps.proofs.Laws.Passing.{Near}
use Rattle.line_head_stamps.proofs.nearby.Given as goal

abbrev pub invariant-loop : goal.invariant-loop
invariant-loop l = Near l.stamps l.count l.name l.from l.door l.counter × (l.counter ≤ 4)
