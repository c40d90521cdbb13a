-- `text_bytes::in_block` meets its contract. The invariant: the block has one where one was met or what is left has one. Assumes nothing.
use mathlib.Core.Path.{refl, sym, ◌∙◌}
use native.Mathlib.Omega.{arith}
use lib.Dec.{eqb}
use Rattle.text_bytes.proofs.Laws.Blocks.{met_more, met_end}
use Rattle.text_bytes.proofs.in_block.Goals as goal

pub loop-x-preserved : goal.loop-x-preserved
loop-x-preserved c = c.loop-x.invariant ∙ met_more (λ y. eqb y c.args.b) c.args.block.now c.loop-x.x-index c.loop-x.hit _ (omega (arith, c.loop-x-test.true)) refl

pub returns : goal.returns
returns c = sym (c.loop-x.invariant ∙ met_end (λ y. eqb y c.args.b) c.args.block.now c.loop-x.x-index c.loop-x.hit (omega (arith, c.loop-x-test.false)))
