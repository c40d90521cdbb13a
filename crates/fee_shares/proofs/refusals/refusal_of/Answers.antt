-- `fee_shares::refusals::refusal_of` meets its contract: the refusals are tried in the order of the table, and each test is that of the definition. Assumes nothing.
use mathlib.Core.Path.{◌≡◌, sym, ◌∙◌}
use mathlib.Core.Bool.{true, false}
use borrow.Author.Tests.{not-true, not-false}
use lib.ListN.{length}
use Rattle.fee_shares.specs.Refusals.{as_many, any_large}
use Rattle.fee_shares.proofs.Laws.Refusals.{few_of, not_as_many, fee_large, weight_large, all_zero, not_refused}
use Rattle.fee_shares.proofs.refusals.refusal_of.Goals as goal

pub returns-then-not-counted : goal.returns-then-not-counted
returns-then-not-counted c = not_as_many c.args.fee c.args.weights.now c.args.places (sym c.as_many-counted.ensures ∙ not-true c.as_many-counted.result c.if-not-counted.true-raw)

pub returns-then-fee-gt-LIMIT : goal.returns-then-fee-gt-LIMIT
returns-then-fee-gt-LIMIT c =
    let counted : as_many (length c.args.weights.now) c.args.places ≡ true = sym c.as_many-counted.ensures ∙ not-false c.as_many-counted.result c.if-not-counted.false-raw in
    fee_large c.args.fee c.args.weights.now c.args.places counted c.if-fee-gt-LIMIT.true

pub returns-then-any_large : goal.returns-then-any_large
returns-then-any_large c =
    let counted : as_many (length c.args.weights.now) c.args.places ≡ true = sym c.as_many-counted.ensures ∙ not-false c.as_many-counted.result c.if-not-counted.false-raw in
    weight_large c.args.fee c.args.weights.now c.args.places counted c.if-fee-gt-LIMIT.false (sym c.any_large.ensures ∙ c.if-any_large.true)

pub total_of-requires : goal.total_of-requires
total_of-requires c =
    let counted : as_many (length c.args.weights.now) c.args.places ≡ true = sym c.as_many-counted.ensures ∙ not-false c.as_many-counted.result c.if-not-counted.false-raw in
    few_of (length c.args.weights.now) c.args.places counted

pub returns-then-total_of-eq0 : goal.returns-then-total_of-eq0
returns-then-total_of-eq0 c =
    let counted : as_many (length c.args.weights.now) c.args.places ≡ true = sym c.as_many-counted.ensures ∙ not-false c.as_many-counted.result c.if-not-counted.false-raw in
    let light : any_large c.args.weights.now ≡ false = sym c.any_large.ensures ∙ c.if-any_large.false in
    all_zero c.args.fee c.args.weights.now c.args.places counted c.if-fee-gt-LIMIT.false light (sym c.total_of.ensures ∙ c.if-total_of-eq0.true)

pub returns : goal.returns
returns c =
    let counted : as_many (length c.args.weights.now) c.args.places ≡ true = sym c.as_many-counted.ensures ∙ not-false c.as_many-counted.result c.if-not-counted.false-raw in
    let light : any_large c.args.weights.now ≡ false = sym c.any_large.ensures ∙ c.if-any_large.false in
    not_refused c.args.fee c.args.weights.now c.args.places counted c.if-fee-gt-LIMIT.false light (λ z. c.if-total_of-eq0.false (c.total_of.ensures ∙ z))
