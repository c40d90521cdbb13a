-- `capi::mztab_mend` meets its contract: it is that of `mend`, as a host is told it. Assumes nothing.
use Rattle.capi.proofs.mztab_mend.Goals as goal

pub returns : goal.returns
returns c = rw (c.told-done.ensures.number_value, c.told-done.ensures.answer_value) c.mend.ensures
