-- `tally::add` meets its contract: that there is no sum is told as a refusal. Assumes nothing.
use Rattle.tally.proofs.Laws.Adding.{summed_told}
use Rattle.tally.proofs.add.Goals as goal

pub returns : goal.returns
returns c = summed_told c.args.a c.args.b c.sum.result c.sum.ensures c.ok_or.ensures.value
