-- `capi::mztab_judge` meets its contract: it is that of `judge_places`, as a host is told it. Assumes nothing.
use Rattle.capi.proofs.mztab_judge.Goals as goal

pub returns : goal.returns
returns c = rw (c.told.ensures.number_value, c.told.ensures.answer_value) c.judge_places.ensures
