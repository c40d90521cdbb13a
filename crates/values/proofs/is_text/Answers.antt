-- `values::is_text` meets its contract: a text has a byte exactly where its length is not 0. Assumes nothing.
use Rattle.values.proofs.Laws.Digits.{text_is}
use Rattle.values.proofs.is_text.Goals as goal

pub returns : goal.returns
returns c = text_is c.args.s.now
