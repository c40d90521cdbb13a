-- `text_bytes::same_bytes` meets its contract: what is left to compare decides. Assumes nothing.
use mathlib.Core.Path.{sym, ◌∙◌}
use borrow.Author.Rules.{rules}
use Rattle.text_bytes.proofs.Laws.Same.{same_length, same_hit, same_miss, same_end}
use Rattle.text_bytes.proofs.same_bytes.Goals as goal

pub returns-then-a-b : goal.returns-then-a-b
returns-then-a-b c = sym (same_length c.args.a.now c.args.b.now c.if-a-b.true)

pub returns-then-x-b : goal.returns-then-x-b
returns-then-x-b c = sym (c.loop-i.invariant.1 ∙ same_miss c.args.a.now c.args.b.now c.loop-i.i c.loop-i-test.true (search rules) c.if-x-b.true)

pub loop-i-preserved : goal.loop-i-preserved
loop-i-preserved c = (search rules, c.loop-i.invariant.1 ∙ same_hit c.args.a.now c.args.b.now c.loop-i.i c.loop-i-test.true (search rules) c.if-x-b.false)

pub returns : goal.returns
returns c = sym (c.loop-i.invariant.1 ∙ same_end c.args.a.now c.args.b.now c.loop-i.i (search rules) (search rules))
