-- `capi::mztab_faults` meets its contract: it is that of `faults::judge`, as a host is told it. Assumes nothing.
use Rattle.capi.proofs.mztab_faults.Goals as goal

pub returns : goal.returns
returns c = rw (c.told.ensures.number_value, c.told.ensures.answer_value) c.judge.ensures
