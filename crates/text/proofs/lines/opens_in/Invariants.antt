-- `text::lines::opens_in` meets its contract. The invariant: unless one was met, none of the k bytes passed is an LF before b. Assumes nothing.
use mathlib.Core.Path.{◌≡◌}
use mathlib.Core.Bool.{false}
use Rattle.text.proofs.Laws.Openings.{Still}
use Rattle.text.proofs.lines.opens_in.Given as goal

abbrev pub invariant-loop-k : goal.invariant-loop-k
invariant-loop-k l = l.hit ≡ false → Still l.b l.file l.at l.k
