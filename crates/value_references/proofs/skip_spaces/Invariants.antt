-- `value_references::skip_spaces` meets its contract. The invariant: what is left without its spaces is as from `from` on. Assumes nothing.
use mathlib.Core.Path.{◌≡◌}
use lib.ListN.{drop}
use Rattle.value_references.specs.References.{trimmed}
use Rattle.value_references.proofs.skip_spaces.Given as goal

abbrev pub invariant-loop-i : goal.invariant-loop-i
invariant-loop-i l = trimmed (drop l.from l.s) ≡ trimmed (drop l.i l.s)
