-- `value_references::words::words`: the text of the code is the words of the paper, computed. Assumes nothing.
use mathlib.Core.Path.{refl}
use Rattle.text_bytes.specs.Bytes.{bytes}
use Rattle.value_references.proofs.words.words.Goals as goal

pub returns : goal.returns
unfolding bytes
returns c = refl
