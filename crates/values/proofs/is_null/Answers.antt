-- `values::is_null` meets its contract: the word of the code is the paper's. Assumes nothing.
use Rattle.values.specs.Values.{is_null}
use Rattle.text_bytes.specs.Bytes.{bytes}
use Rattle.values.proofs.is_null.Goals as goal

pub returns : goal.returns
unfolding is_null bytes
returns c = c.same_bytes.ensures
