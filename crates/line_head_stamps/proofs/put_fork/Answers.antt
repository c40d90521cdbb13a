-- `line_head_stamps::put_fork` meets its contract: three places are written. Assumes nothing.
use mathlib.Core.Path.{refl}
use native.Mathlib.Omega.{arith}
use lib.ListN.{length-set}
use Rattle.line_head_stamps.specs.Stamps.{forked}
use Rattle.line_head_stamps.proofs.put_fork.Goals as goal

pub bounds-stamps-count-2 : goal.bounds-stamps-count-2
bounds-stamps-count-2 c = simp length-set (omega arith)

pub returns : goal.returns
unfolding forked
returns c = refl
