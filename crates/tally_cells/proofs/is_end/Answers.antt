-- `tally_cells::is_end` meets its contract: the end of the line is asked for first. Assumes nothing.
use borrow.Author.Tests.{eq-eqb, ne_eqb}
use lib.ListN.{length}
use Rattle.tally_cells.proofs.is_end.Goals as goal

pub returns-then-i-line : goal.returns-then-i-line
returns-then-i-line c = rw (eq-eqb c.args.i (length c.args.line.now) c.if-i-line.true)

pub returns : goal.returns
returns c = rw (ne_eqb c.args.i (length c.args.line.now) c.if-i-line.false)
