-- `line_head_stamps::side` meets its contract: a shift to the right and a rest. Assumes nothing.
use Rattle.line_head_stamps.specs.Stamps.{side_of}
use Rattle.line_head_stamps.proofs.side.Goals as goal

pub returns : goal.returns
unfolding side_of
returns c = rw c.code_at-held.ensures.0
