-- `book_fits::fits`: the flaw so far, and what is left of the row and of the name, decide the whole. Assumes nothing.
use mathlib.Core.Path.{◌≡◌}
use Prim.Native.Nat.{◌-◌, ◌≤◌}
use lib.ListN.{length, drop}
use Rattle.book_names.specs.Names.{pieces, fits as fitsIn}
use Rattle.book_names.specs.Steps.{flawed}
use Rattle.book_names.proofs.Laws.Turns.{rest}
use Rattle.book_fits.proofs.fits.Given as goal

abbrev pub invariant-loop-a : goal.invariant-loop-a
invariant-loop-a l = (l.b ≤ length l.s) × (fitsIn (pieces (drop l.from l.p)) l.s 0 0 ≡ flawed l.flaw (rest l.p l.s l.a l.b l.i l.j))

abbrev pub decreases-loop-a : goal.decreases-loop-a
decreases-loop-a l = length l.p - l.a
