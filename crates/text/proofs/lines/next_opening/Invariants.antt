-- `text::lines::next_opening` meets its contract: blocks are passed over, then byte by byte up to the first LF before b. Assumes nothing.
use Rattle.text.specs.Openings.{Passes}
use Rattle.text.proofs.lines.next_opening.Given as goal

abbrev pub invariant-loop-at : goal.invariant-loop-at
invariant-loop-at l = Passes l.b l.file l.from l.at l.n
