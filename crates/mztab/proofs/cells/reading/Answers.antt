-- `mztab::cells::reading` meets its contract: `locate` gives the place, and `read` what its bytes say. Assumes nothing.
use Rattle.std.proofs.lemmas.Result.{err_from_is_err_and}
use Rattle.mztab.proofs.Laws.Locating.{placed_unread, placed_read}
use Rattle.mztab.proofs.cells.reading.Goals as goal

pub returns-in_err-found : goal.returns-in_err-found
returns-in_err-found c =
    let p = err_from_is_err_and c.from_residual.result c.from_residual.ensures.1 in
    rw (p.1, p.2) (placed_unread _ c.in_err-found.ensures)

pub returns : goal.returns
returns c = placed_read c.in_ok-found.ensures c.read-value.result c.read-value.ensures
