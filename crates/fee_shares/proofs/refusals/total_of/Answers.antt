-- `fee_shares::refusals::total_of` meets its contract: the library's sum of a list is the definition's. Assumes nothing.
use Rattle.std.proofs.Common.{◌≡◌, ◌∙◌, rules, sum}
use Rattle.fee_shares.proofs.Laws.Rounds.{total_sum}
use Rattle.fee_shares.proofs.refusals.total_of.Goals as goal

pub returns : goal.returns
returns c = let e : c.sum.result ≡ sum c.args.weights.now = search rules in e ∙ total_sum c.args.weights.now
