-- `text::lines::pass_lines` meets its contract: block by block, what was passed so far. Assumes nothing.
use native.Mathlib.Omega.{arith}
use Rattle.text.proofs.Laws.Openings.{passes_none, passes_block}
use Rattle.text.proofs.lines.pass_lines.Goals as goal

pub loop-at-init : goal.loop-at-init
loop-at-init c = passes_none (omega arith)

pub overflow_sub-file : goal.overflow_sub-file
overflow_sub-file c = omega (arith, c.loop-at.invariant.within)

pub opens_in-requires : goal.opens_in-requires
opens_in-requires c = omega (arith, c.loop-at.invariant.within, c.loop-at-test.true)

pub returns-then-opens_in : goal.returns-then-opens_in
returns-then-opens_in c = c.loop-at.invariant

pub ends_in-ends-requires : goal.ends_in-ends-requires
ends_in-ends-requires c = omega (arith, c.loop-at.invariant.within, c.loop-at-test.true)

pub overflow_add-n : goal.overflow_add-n
overflow_add-n c = omega (arith, c.loop-at.invariant.few, c.loop-at.invariant.within, c.requires, c.ends_in-ends.ensures.0)

pub overflow_add-at : goal.overflow_add-at
overflow_add-at c = omega (arith, c.loop-at.invariant.within, c.requires)

pub loop-at-smaller : goal.loop-at-smaller
loop-at-smaller c = omega (arith, c.loop-at.invariant.within, c.loop-at-test.true)

pub loop-at-preserved : goal.loop-at-preserved
loop-at-preserved c = rw c.from-n.ensures (passes_block c.loop-at.invariant c.ends_in-ends.result (omega (arith, c.loop-at.invariant.within, c.loop-at-test.true)) c.ends_in-ends.ensures.0 (c.ends_in-ends.ensures.1 _ (c.opens_in.ensures c.if-opens_in.false)))

pub returns : goal.returns
returns c = c.loop-at.invariant
