-- `mender_rows::has_hole` meets its contract. The invariant: the line has a hole where one was met or what is left has two tabs, one directly after the other.
-- Assumes nothing.
use mathlib.Core.Path.{◌≡◌}
use mathlib.Core.Bool.{◌||◌}
use lib.ListN.{drop}
use Rattle.text.specs.Lines.{cells}
use Rattle.mender_rows.specs.Rows.{has_hole}
use Rattle.mender_rows.proofs.Laws.Holes.{pairs}
use Rattle.mender_rows.proofs.has_hole.Given as goal

abbrev pub invariant-loop-i : goal.invariant-loop-i
invariant-loop-i l = has_hole (cells l.line) ≡ (l.hit || pairs (drop l.i l.line))
