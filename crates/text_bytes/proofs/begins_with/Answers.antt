-- `text_bytes::begins_with` meets its contract: the test of std is that of the definition. Assumes nothing.
use mathlib.Core.Path.{◌∙◌}
use Rattle.text_bytes.proofs.Laws.Begins.{begins_pointwise}
use Rattle.text_bytes.proofs.begins_with.Goals as goal

pub returns : goal.returns
returns c = c.starts_with.ensures.value ∙ begins_pointwise c.args.word.now c.args.s.now
