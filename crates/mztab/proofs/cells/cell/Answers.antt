-- `mztab::cells::cell` meets its contract: `locate` gives the number and the part, which begins where the cell does. Assumes nothing.
use mathlib.Core.Path.{refl}
use native.Mathlib.Omega.{arith}
use Rattle.std.proofs.lemmas.Result.{err_from_is_err_and}
use Rattle.mztab.proofs.Laws.Locating.{placed_shown, part_stands}
use Rattle.mztab.proofs.cells.cell.Goals as goal

pub returns-in_err-place : goal.returns-in_err-place
returns-in_err-place c =
    let p = err_from_is_err_and c.from_residual.result c.from_residual.ensures.1 in
    record { result_after = rw (p.1, p.2) (placed_shown c.in_err-place.ensures); points = rw p.1 tt }

pub returns : goal.returns
returns c =
    record {
      result_after = placed_shown c.in_ok-place.ensures;
      points = record { block = refl; offset = omega (arith, c.in_ok-place.ensures.from); bytes = part_stands c.in_ok-place.ensures };
    }
