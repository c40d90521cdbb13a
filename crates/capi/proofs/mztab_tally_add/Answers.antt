-- `capi::mztab_tally_add` meets its contract: it is that of `tally::add` of the tallies in the places. Assumes nothing.
use Rattle.tally.proofs.Laws.Placing.{placed_is}
use Rattle.capi.proofs.mztab_tally_add.Goals as goal

pub returns : goal.returns
returns c = placed_is c.to_places.ensures (rw (c.told-t.ensures.number_value, c.told-t.ensures.answer_value, c.nothing.ensures, ← c.from_places-first.ensures, ← c.from_places-second.ensures) c.add.ensures)
