-- `fee_shares::refusals::any_large` meets its contract: the library's test of a list is the definition's. Assumes nothing.
use Rattle.std.proofs.Common.{◌∙◌, rules, tests}
use Rattle.std.proofs.lemmas.Iterator.{YieldsList-from_slice}
use Rattle.std.proofs.lemmas.Iterator.Search.{any_from_yields_List}
use lib.Dec.{leb}
use Rattle.fee_shares.specs.Refusals.{WEIGHT_END}
use Rattle.fee_shares.proofs.Laws.Rounds.{large_any}
use Rattle.fee_shares.proofs.refusals.any_large.Goals as goal

pub returns : goal.returns
returns c =
    any_from_yields_List (leb WEIGHT_END) _ _ c.any.result c.any.ensures.ran (YieldsList-from_slice c.args.weights.now cc) (λ x b q k. search (rules, tests))
    ∙ large_any c.args.weights.now
