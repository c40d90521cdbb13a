-- `capi::mztab_add_cents` meets its contract: it is that of `Cents::add`, as a host is told it. Assumes nothing.
use Rattle.capi.proofs.mztab_add_cents.Goals as goal

pub returns : goal.returns
returns c = rw (c.told-sum.ensures.number_value, c.told-sum.ensures.answer_value) c.add.ensures
