-- `capi::mztab_tally` meets its contract: it is that of `tally_files::tally`, its totals one to a place. Assumes nothing.
use Rattle.tally.proofs.Laws.Placing.{placed_is}
use Rattle.capi.proofs.mztab_tally.Goals as goal

pub returns : goal.returns
returns c = placed_is c.to_places.ensures (rw (c.told-t.ensures.number_value, c.told-t.ensures.answer_value, c.nothing.ensures) c.tally.ensures)
