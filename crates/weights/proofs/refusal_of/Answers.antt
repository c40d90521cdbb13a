-- `weights::refusal_of` meets its contract: the refusals are tried in the order of the table, and each test is that of the definition. Assumes nothing.
use mathlib.Core.List.{[], ◌∷◌}
use Rattle.std.proofs.lemmas.Result.{err_from_is_err_and}
use Rattle.fee_shares.proofs.Laws.Refusals.{refused_some}
use Rattle.weights.proofs.Laws.Refusing.{judged_fits, refuse_judged, refuse_broken, refuse_places, refuse_none}
use Rattle.weights.proofs.refusal_of.Goals as goal

pub returns-in_err-breaks : goal.returns-in_err-breaks
returns-in_err-breaks c =
    let p = err_from_is_err_and c.from_residual.result c.from_residual.ensures.1 in
    rw (p.1, p.2) (refuse_judged c.args.file.now c.args.places (0 ∷ []) c.in_err-breaks.ensures (refused_some c.in_err-breaks.field-0.0))

pub returns-then-breaks-ne0 : goal.returns-then-breaks-ne0
returns-then-breaks-ne0 c = refuse_broken c.args.file.now c.args.places (judged_fits c.args.file.now (0 ∷ []) c.in_ok-breaks.ensures) (0 ∷ []) c.in_ok-breaks.ensures c.if-breaks-ne0.true

pub returns-then-places-ne-VARIABLES : goal.returns-then-places-ne-VARIABLES
returns-then-places-ne-VARIABLES c = refuse_places c.args.file.now c.args.places (judged_fits c.args.file.now (0 ∷ []) c.in_ok-breaks.ensures) (0 ∷ []) c.in_ok-breaks.ensures c.if-breaks-ne0.false c.if-places-ne-VARIABLES.true

pub returns : goal.returns
returns c = refuse_none c.args.file.now c.args.places (judged_fits c.args.file.now (0 ∷ []) c.in_ok-breaks.ensures) (0 ∷ []) c.in_ok-breaks.ensures c.if-breaks-ne0.false c.if-places-ne-VARIABLES.false
