-- `text_bytes::in_block` meets its contract. The invariant: the block has one where one was met or what is left has one. Assumes nothing.
use mathlib.Core.Path.{◌≡◌}
use mathlib.Core.Bool.{◌||◌}
use lib.Dec.{eqb}
use lib.ListN.{drop}
use Rattle.text_bytes.specs.Bytes.{any}
use Rattle.text_bytes.proofs.in_block.Given as goal

abbrev pub invariant-loop-x : goal.invariant-loop-x
invariant-loop-x l = any (λ y. eqb y l.b) l.block ≡ (l.hit || any (λ y. eqb y l.b) (drop l.x-index l.block))
