-- `value_parameters::begins_part` meets its contract: past the end stands no bracket. Assumes nothing.
use Rattle.value_parameters.proofs.Laws.Walks.{past}
use Rattle.value_parameters.proofs.begins_part.Goals as goal

pub returns : goal.returns
returns c = rw (past c.args.s.now c.args.at c.if-at-s.false)
