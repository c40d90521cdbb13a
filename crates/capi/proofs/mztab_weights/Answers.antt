-- `capi::mztab_weights` meets its contract: it is that of `weights`, as a host is told it. Assumes nothing.
use Rattle.capi.proofs.mztab_weights.Goals as goal

pub returns : goal.returns
returns c = rw c.told.ensures.number_value c.weights.ensures
