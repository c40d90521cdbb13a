-- `text::cells::seek_control` meets its contract. The invariant: the cell of the whole line is that of what is left, counted from k. Assumes nothing.
use mathlib.Core.Path.{◌≡◌}
use Prim.Native.Nat.{◌+◌, ◌≤◌}
use lib.ListN.{drop}
use Rattle.text.specs.Lines.{cells, first_control}
use Rattle.text.proofs.cells.seek_control.Given as goal

abbrev pub invariant-loop-x : goal.invariant-loop-x
invariant-loop-x l = (l.k ≤ l.x-index + 1) × (first_control 1 (cells l.line) ≡ first_control l.k (cells (drop l.x-index l.line)))
