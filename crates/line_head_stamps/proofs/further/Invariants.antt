-- `line_head_stamps::further` meets its contract. The loop's invariant: what is held leads to a fork, and a way on from the name's door there is one from the first. Forks rise, so it ends; a guess is all that is written. Assumes nothing.
use mathlib.Core.Path.{◌≡◌}
use Prim.Native.Nat.{◌-◌}
use lib.ListN.{length}
use Rattle.line_head_stamps.specs.Stamps.{ROOM}
use Rattle.line_head_stamps.specs.Ways.{Doors}
use Rattle.line_head_stamps.proofs.Laws.Passing.{Leads}
use Rattle.line_head_stamps.proofs.further.Given as goal

abbrev pub invariant-loop-stamps : goal.invariant-loop-stamps
invariant-loop-stamps l = (l.stamps ≡ l.initial.stamps) × (length l.stamps ≡ ROOM) × Doors l.stamps l.count × Leads l.stamps l.count l.name l.from l.held

abbrev pub decreases-loop-stamps : goal.decreases-loop-stamps
decreases-loop-stamps l = 512 - l.held
