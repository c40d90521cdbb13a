-- `capi::mztab_rows` meets its contract: it is that of `rows`, as a host is told it. Assumes nothing.
use Rattle.capi.proofs.mztab_rows.Goals as goal

pub returns : goal.returns
returns c = rw (c.told.ensures.number_value, c.told.ensures.answer_value) c.rows.ensures
