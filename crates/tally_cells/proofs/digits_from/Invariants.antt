-- `tally_cells::digits_from` meets its contract. The invariant: what stands from the place up to i is digits, and n is the number that they write. Assumes nothing.
use Rattle.tally_cells.proofs.Laws.Reading.{SoFar}
use Rattle.tally_cells.proofs.digits_from.Given as goal

abbrev pub invariant-loop-i : goal.invariant-loop-i
invariant-loop-i l = SoFar l.s l.from l.n l.i
