-- `line_head_stamps::enter` meets its contract: two places are written, and sixteen filled. Assumes nothing.
use native.Mathlib.Omega.{arith}
use lib.ListN.{length-set}
use Rattle.line_head_stamps.specs.Stamps.{entered}
use Rattle.line_head_stamps.proofs.enter.Goals as goal

pub bounds-stamps-count-2 : goal.bounds-stamps-count-2
bounds-stamps-count-2 c = simp length-set (omega arith)

pub returns : goal.returns
unfolding entered
returns c = c.fill_doors.ensures
