-- `text::cells::has_control` meets its contract. The invariant: the line has one where one was met or what is left has one. Assumes nothing.
use mathlib.Core.Path.{◌≡◌}
use mathlib.Core.Bool.{◌||◌}
use lib.ListN.{drop}
use Rattle.text_bytes.specs.Bytes.{any}
use Rattle.text.specs.Lines.{control}
use Rattle.text.proofs.cells.has_control.Given as goal

abbrev pub invariant-loop-x : goal.invariant-loop-x
invariant-loop-x l = any control l.line ≡ (l.hit || any control (drop l.x-index l.line))
