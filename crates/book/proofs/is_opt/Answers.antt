-- `book::is_opt`: the word of the code is the paper's. Assumes nothing.
use Rattle.text_bytes.specs.Bytes.{bytes}
use Rattle.book.specs.Book.{is_opt}
use Rattle.book.proofs.is_opt.Goals as goal

pub returns : goal.returns
unfolding is_opt bytes
returns c = c.begins_with.ensures
