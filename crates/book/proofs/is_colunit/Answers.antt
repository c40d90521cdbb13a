-- `book::is_colunit`: the word of the code is the paper's. Assumes nothing.
use Rattle.text_bytes.specs.Bytes.{bytes}
use Rattle.book.specs.Keys.{is_colunit}
use Rattle.book.proofs.is_colunit.Goals as goal

pub returns : goal.returns
unfolding is_colunit bytes
returns c = c.begins_with.ensures
