-- `fee::fill` meets its contract: over 64 places are refused before any is lent, else what `split_places` leaves is handed on. Assumes nothing.
use mathlib.Core.Path.{sym}
use native.Mathlib.Omega.{arith}
use lib.ListN.{replicate, take, drop}
use lib.Seq.{length-take-le}
use Rattle.std.proofs.lemmas.Result.{err_from_is_err_and}
use Rattle.fee_shares.proofs.Laws.Refusals.{refused_some}
use Rattle.fee.proofs.Laws.Filling.{too_many, fills_none, number_is, fills_all}
use Rattle.fee.proofs.fill.Goals as goal

pub returns-then-places-gt-MOST_WEIGHTS : goal.returns-then-places-gt-MOST_WEIGHTS
returns-then-places-gt-MOST_WEIGHTS c = fills_none c.args.fee c.args.weights.now c.args.places (too_many c.args.fee c.args.weights.now c.args.places c.if-places-gt-MOST_WEIGHTS.true) (λ z. omega arith)

pub slice_bounds-split_places-end : goal.slice_bounds-split_places-end
slice_bounds-split_places-end c = sym (length-take-le c.args.places (replicate 64 0) c.if-places-gt-MOST_WEIGHTS.false)

pub returns-in_err-split_places : goal.returns-in_err-split_places
returns-in_err-split_places c =
    let p = err_from_is_err_and c.from_residual.result c.from_residual.ensures.1 in
    rw (p.1, p.2)
    (fills_none c.args.fee c.args.weights.now c.args.places
    (number_is c.args.fee c.args.weights.now c.args.places (take c.args.places (replicate 64 0)) (length-take-le c.args.places (replicate 64 0) c.if-places-gt-MOST_WEIGHTS.false) c.in_err-split_places.ensures)
    (refused_some c.in_err-split_places.field-0.0))

pub returns : goal.returns
returns c =
    fills_all c.args.fee c.args.weights.now c.args.places (take c.args.places (replicate 64 0)) (length-take-le c.args.places (replicate 64 0) c.if-places-gt-MOST_WEIGHTS.false) c.in_ok-split_places.ensures
    (drop c.args.places (replicate 64 0))
