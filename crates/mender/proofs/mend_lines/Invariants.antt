-- `mender::mend_lines` meets its contract. The invariant: what is laid and noted, and what of the lines left is still to come, are the copy and the changes.
-- Assumes nothing.
use mathlib.Core.Path.{◌≡◌}
use Prim.Native.Nat.{◌-◌}
use lib.ListN.{length}
use Rattle.book.specs.Text.{book_in}
use Rattle.mender.proofs.Laws.Walking.{Midway}
use Rattle.mender.proofs.mend_lines.Given as goal

abbrev pub invariant-loop-at : goal.invariant-loop-at
invariant-loop-at l = Midway (book_in l.book) l.file l.initial.copy l.initial.changes l.copy l.changes l.kinds l.walk.line l.walk.to l.walk.count l.walk.section l.walk.width l.at × (length l.copy ≡ length l.initial.copy) × (length l.changes ≡ length l.initial.changes)

abbrev pub decreases-loop-at : goal.decreases-loop-at
decreases-loop-at l = length l.file - l.at
