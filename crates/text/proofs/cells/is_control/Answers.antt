-- `text::cells::is_control` meets its contract: the same three tests, computed and not branched on. Assumes nothing.
use mathlib.Core.Path.{refl}
use Rattle.text.specs.Lines.{control}
use Rattle.text.proofs.cells.is_control.Goals as goal

pub returns : goal.returns
unfolding control
returns c = refl
