-- `tally_files::tally` meets its contract: the refusals are tried in the order of the table, and what the lines of an accepted file add is its tally. Assumes nothing.
use mathlib.Core.Path.{◌≡◌, sym, ◌∙◌}
use mathlib.Core.List.{[], ◌∷◌}
use Rattle.std.proofs.lemmas.Result.{err_from_is_err_and}
use Rattle.fee_shares.proofs.Laws.Refusals.{refused_some}
use Rattle.tally.specs.Tally.{tally_of}
use Rattle.tally_files.specs.Tallied.{below_of, totals_of}
use Rattle.tally_files.proofs.Laws.Tallying.{found_all}
use Rattle.tally_files.proofs.Laws.Refusing.{judged_fits, refuse_judged, refuse_broken, kept, refuse_below, given_tally}
use Rattle.tally_files.proofs.tally.Goals as goal

pub returns-in_err-breaks : goal.returns-in_err-breaks
returns-in_err-breaks c =
    let p = err_from_is_err_and c.from_residual.result c.from_residual.ensures.1 in
    rw (p.1, p.2) (refuse_judged c.args.file.now (0 ∷ []) c.in_err-breaks.ensures (refused_some c.in_err-breaks.field-0.0))

pub returns-then-breaks-ne0 : goal.returns-then-breaks-ne0
returns-then-breaks-ne0 c = refuse_broken c.args.file.now (judged_fits c.args.file.now (0 ∷ []) c.in_ok-breaks.ensures) (0 ∷ []) c.in_ok-breaks.ensures c.if-breaks-ne0.true

pub marks_of-columns-requires : goal.marks_of-columns-requires
marks_of-columns-requires c = judged_fits c.args.file.now (0 ∷ []) c.in_ok-breaks.ensures

pub found_in-found-requires : goal.found_in-found-requires
found_in-found-requires c = record { marks = c.marks_of-columns.ensures.good; file_len_bound = judged_fits c.args.file.now (0 ∷ []) c.in_ok-breaks.ensures }

pub returns-then-found-ne0 : goal.returns-then-found-ne0
returns-then-found-ne0 c =
    let fits = judged_fits c.args.file.now (0 ∷ []) c.in_ok-breaks.ensures in
    let found : (c.found_in-found.result.tally ≡ tally_of (totals_of c.args.file.now)) × (c.found_in-found.result.below ≡ below_of c.args.file.now) = found_all c.args.file.now (kept c.args.file.now fits (0 ∷ []) c.in_ok-breaks.ensures c.if-breaks-ne0.false) c.marks_of-columns.ensures c.found_in-found.result c.found_in-found.ensures in
    refuse_below c.args.file.now fits (0 ∷ []) c.in_ok-breaks.ensures c.if-breaks-ne0.false (λ z. c.if-found-ne0.true (found.1 ∙ z))

pub returns : goal.returns
returns c =
    let fits = judged_fits c.args.file.now (0 ∷ []) c.in_ok-breaks.ensures in
    let found : (c.found_in-found.result.tally ≡ tally_of (totals_of c.args.file.now)) × (c.found_in-found.result.below ≡ below_of c.args.file.now) = found_all c.args.file.now (kept c.args.file.now fits (0 ∷ []) c.in_ok-breaks.ensures c.if-breaks-ne0.false) c.marks_of-columns.ensures c.found_in-found.result c.found_in-found.ensures in
    given_tally c.args.file.now fits (0 ∷ []) c.in_ok-breaks.ensures c.if-breaks-ne0.false (sym found.1 ∙ c.if-found-ne0.false) found.0
