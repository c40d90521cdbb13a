-- `line_head_stamps::last_door` meets its contract. The loop's invariant: a way on from the door is a way from the first, in the list with the guesses of now. Forks rise, so the way ends. Assumes nothing.
use mathlib.Core.Path.{◌≡◌}
use Prim.Native.Nat.{ℕ, ◌+◌, ◌≤◌, ◌<◌}
use lib.ListN.{length, get_or}
use Rattle.line_head_stamps.specs.Stamps.{ROOM, IsDoor}
use Rattle.line_head_stamps.specs.Ways.{Guessed, Way, Doors}
use Rattle.line_head_stamps.proofs.Laws.Passing.{rank}
use Rattle.line_head_stamps.proofs.last_door.Given as goal

abbrev pub invariant-loop-stamps : goal.invariant-loop-stamps
invariant-loop-stamps l = Guessed l.initial.stamps l.stamps × (length l.stamps ≡ ROOM) × Doors l.stamps l.count × (4096 ≤ l.door) × (l.door < 12288) × IsDoor l.count (get_or l.stamps l.door 0) × ((e : ℕ) → Way l.stamps l.count l.name e l.door → Way l.stamps l.count l.name e (4096 + l.h))

abbrev pub decreases-loop-stamps : goal.decreases-loop-stamps
decreases-loop-stamps l = rank (get_or l.stamps l.door 0)
