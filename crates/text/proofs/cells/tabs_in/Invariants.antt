-- `text::cells::tabs_in` meets its contract. The invariant: the cells of the piece are the tabs met and the cells of what is left. Assumes nothing.
use mathlib.Core.Path.{◌≡◌}
use Prim.Native.Nat.{◌+◌, ◌≤◌}
use lib.ListN.{length, drop}
use Rattle.text.specs.Lines.{cells}
use Rattle.text.proofs.cells.tabs_in.Given as goal

abbrev pub invariant-loop-b : goal.invariant-loop-b
invariant-loop-b l = (l.n ≤ l.b-index) × (length (cells l.piece) ≡ l.n + length (cells (drop l.b-index l.piece)))
