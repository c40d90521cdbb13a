-- `rows::nth_coded` meets its contract. The invariant: line n of those with the code is line `left` of those from `at` on, the first of which is line `line_no`. Assumes nothing.
use mathlib.Core.Path.{refl, sym, ◌∙◌}
use Prim.Native.Nat.{◌-◌}
use borrow.Author.Rules.{rules}
use Rattle.rows.proofs.Laws.Finding.{row_here, row_next, row_miss, row_none, start_first, start_next}
use Rattle.rows.proofs.nth_coded.Goals as goal

pub loop-at-init : goal.loop-at-init
loop-at-init c = (search rules, search rules, search rules, start_first c.args.file.now, refl)

pub returns-then-left-eq0 : goal.returns-then-left-eq0
returns-then-left-eq0 c = (search rules, search rules, c.loop-at.invariant.3, c.loop-at.invariant.4 ∙ row_here c.args.code.now c.loop-at.line_no c.line_at-line.ensures c.loop-at.left (sym c.has_code.ensures ∙ c.if-has_code.true) c.if-left-eq0.true)

pub loop-at-preserved-else-left-eq0 : goal.loop-at-preserved-else-left-eq0
loop-at-preserved-else-left-eq0 c = (search rules, search rules, search rules, start_next c.loop-at.line_no c.line_at-line.ensures c.loop-at.invariant.2 c.loop-at.invariant.3, c.loop-at.invariant.4 ∙ row_next c.args.code.now c.loop-at.line_no c.line_at-line.ensures c.loop-at.left (sym c.has_code.ensures ∙ c.if-has_code.true) c.if-left-eq0.false)

pub loop-at-preserved : goal.loop-at-preserved
loop-at-preserved c = (search rules, search rules, search rules, start_next c.loop-at.line_no c.line_at-line.ensures c.loop-at.invariant.2 c.loop-at.invariant.3, c.loop-at.invariant.4 ∙ row_miss c.args.code.now c.loop-at.line_no c.line_at-line.ensures c.loop-at.left (sym c.has_code.ensures ∙ c.if-has_code.false))

pub returns : goal.returns
returns c = c.loop-at.invariant.4 ∙ row_none c.args.code.now c.args.file.now c.loop-at.at c.loop-at.line_no c.loop-at.left c.loop-at-test.false
