-- `capi::mztab_tally_write` meets its contract: it is that of `tally_records::write` of the tally in the places. Assumes nothing.
use Rattle.capi.proofs.mztab_tally_write.Goals as goal

pub returns : goal.returns
returns c = rw (c.told.ensures.number_value, c.told.ensures.answer_value, ← c.from_places-t.ensures) c.write.ensures
