-- `text::cells::tabs_in` meets its contract. The invariant: the cells of the piece are the tabs met and the cells of what is left. Assumes nothing.
use native.Mathlib.Omega.{arith}
use Rattle.text.proofs.Laws.Runs.{tab_byte, tab_most, tabs_end}
use Rattle.text.proofs.cells.tabs_in.Goals as goal

pub loop-b-preserved : goal.loop-b-preserved
loop-b-preserved c = (omega (arith, c.from-n.ensures, tab_most c.args.piece.now c.loop-b.b-index), omega (arith, c.from-n.ensures, tab_byte c.args.piece.now c.loop-b.b-index (omega arith)))

pub returns : goal.returns
returns c = omega (arith, tabs_end c.args.piece.now c.loop-b.b-index (omega arith))
