-- `judging::parts::beginning` meets its contract: it is the record of the definition, field by field. Assumes nothing.
use Rattle.judging.proofs.parts.beginning.Goals as goal

pub returns : goal.returns
returns c = rw c.start.ensures
