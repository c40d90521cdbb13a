-- `mender_places::note` meets its contract: a change is counted in any case, and written where both of its places are there. Assumes nothing.
use Prim.Native.Nat.{◌+◌, ◌*◌}
use native.Mathlib.Omega.{arith}
use borrow.Author.Tests.{le-leb, lt-leb}
use lib.ListN.{length, length-set}
use Rattle.mender_places.specs.Places.{noted}
use Rattle.mender_places.proofs.note.Goals as goal

pub bounds-changes-at-then-at-changes : goal.bounds-changes-at-then-at-changes
bounds-changes-at-then-at-changes c = simp length-set (omega arith)

pub returns-then-at-changes : goal.returns-then-at-changes
unfolding noted
returns-then-at-changes c = rw (le-leb (2 * c.args.count + 2) (length c.args.changes.now) c.if-at-changes.true)

pub returns : goal.returns
unfolding noted
returns c = rw (lt-leb (2 * c.args.count + 2) (length c.args.changes.now) c.if-at-changes.false)
