-- `text::cells::count_cells` meets its contract. The invariant: the cells of the line are those counted and those of what is left. Assumes nothing.
use mathlib.Core.Path.{ap, ◌∙◌}
use Prim.Native.Nat.{ℕ}
use native.Mathlib.Omega.{arith}
use mathlib.Core.List.{List}
use lib.ListN.{length}
use Rattle.std.specs.Slice.Iter.{chunks_rest}
use Rattle.text_bytes.proofs.Laws.Pieces.{pieces_bound}
use Rattle.text.specs.Lines.{cells}
use Rattle.text.proofs.Laws.Runs.{cells_piece, cells_none}
use Rattle.text.proofs.cells.count_cells.Goals as goal

pub overflow_add-n : goal.overflow_add-n
overflow_add-n c =
    let x = c.in-Some.piece.now in
    let r = chunks_rest c.next.new.self in
    let e = ap (λ (t : List ℕ). length (cells t)) c.in-Some.ensures.steps.1.0 in
    omega (arith, c.loop-piece.invariant.1, e, cells_piece x r, c.tabs_in.ensures, c.from-n.ensures, pieces_bound 9 c.args.line.now)

pub loop-piece-preserved : goal.loop-piece-preserved
loop-piece-preserved c =
    let x = c.in-Some.piece.now in
    let r = chunks_rest c.next.new.self in
    let e = ap (λ (t : List ℕ). length (cells t)) c.in-Some.ensures.steps.1.0 in
    (c.in-Some.ensures.steps.0 ∙ c.loop-piece.invariant.0, omega (arith, c.loop-piece.invariant.1, e, cells_piece x r, c.tabs_in.ensures, c.from-n.ensures))

pub returns : goal.returns
returns c = omega (arith, c.loop-piece.invariant.1, cells_none _ c.in-None.ensures.steps.1.0)
