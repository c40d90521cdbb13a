-- `text::cells::count_cells` meets its contract. The invariant: the cells of the line are those counted and those of what is left. Assumes nothing.
use mathlib.Core.Path.{◌≡◌}
use Prim.Native.Nat.{◌+◌}
use lib.ListN.{length}
use Rattle.std.specs.Slice.Iter.{chunks_rest, chunks_size}
use Rattle.text.specs.Lines.{cells}
use Rattle.text.proofs.cells.count_cells.Given as goal

abbrev pub invariant-loop-piece : goal.invariant-loop-piece
invariant-loop-piece l = (chunks_size l.piece-iterator ≡ 64) × (length (cells l.line) + 1 ≡ l.n + length (cells (chunks_rest l.piece-iterator)))
