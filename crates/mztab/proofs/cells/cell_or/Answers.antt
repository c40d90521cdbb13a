-- `mztab::cells::cell_or` meets its contract: what `cell` shows decides. Assumes nothing.
use mathlib.Core.Path.{refl, sym, ◌∙◌}
use Rattle.std.proofs.lemmas.Result.{err_from_is_err_and}
use Rattle.text_bytes.specs.Bytes.{bytes, same}
use Rattle.mztab.proofs.Laws.Locating.{or_null, or_kept, points_other, points_kept}
use Rattle.mztab.proofs.cells.cell_or.Goals as goal

pub returns-in_err-view : goal.returns-in_err-view
unfolding bytes same
returns-in_err-view c =
    let p = err_from_is_err_and c.from_residual.result c.from_residual.ensures.1 in
    record { result_after = rw (p.1, p.2) (or_kept _ _ _ _ c.in_err-view.ensures.result_after refl); points_or = rw p.1 tt }

pub returns-then-same_bytes : goal.returns-then-same_bytes
unfolding bytes
returns-then-same_bytes c =
    let t = sym c.same_bytes.ensures ∙ c.if-same_bytes.true in
    record {
      result_after = or_null _ _ _ _ c.in_ok-view.ensures.result_after t;
      points_or = points_other _ _ _ _ c.in_ok-view.ensures.result_after t refl;
    }

pub returns : goal.returns
unfolding bytes
returns c =
    let t = sym c.same_bytes.ensures ∙ c.if-same_bytes.false in
    record {
      result_after = or_kept _ _ _ _ c.in_ok-view.ensures.result_after t;
      points_or = points_kept _ _ _ _ c.in_ok-view.ensures.result_after t c.in_ok-view.ensures.points;
    }
