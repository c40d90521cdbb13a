-- `capi::mztab_split_fee` meets its contract: it is that of `split_places`, as a host is told it. Assumes nothing.
use Rattle.capi.proofs.mztab_split_fee.Goals as goal

pub returns : goal.returns
returns c = rw c.told.ensures.number_value c.split_places.ensures
