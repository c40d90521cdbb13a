-- `capi::mztab_cell` meets its contract: `locate` gives the place, and a host is told it. Assumes nothing.
use Rattle.capi.proofs.Laws.{told_placed, placed_at}
use Rattle.capi.proofs.mztab_cell.Goals as goal

pub overflow_sub-length : goal.overflow_sub-length
overflow_sub-length c = (told_placed c.locate.result c.locate.ensures c.told-place.ensures.number_value c.told-place.ensures.answer_value).starts

pub returns : goal.returns
returns c = placed_at (told_placed c.locate.result c.locate.ensures c.told-place.ensures.number_value c.told-place.ensures.answer_value)
