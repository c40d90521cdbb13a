-- `mender_rows::has_hole` meets its contract. The invariant: the line has a hole where one was met or what is left has two tabs, one directly after the other.
-- Assumes nothing.
use mathlib.Core.Path.{sym, ◌∙◌}
use native.Mathlib.Omega.{arith}
use Rattle.mender_rows.proofs.Laws.Holes.{holes_none, holes_start, pairs_more, pairs_end}
use Rattle.mender_rows.proofs.has_hole.Goals as goal

pub returns-then-line-eq0 : goal.returns-then-line-eq0
returns-then-line-eq0 c = sym (holes_none c.args.line.now c.if-line-eq0.true)

pub loop-i-init : goal.loop-i-init
loop-i-init c = holes_start c.args.line.now c.if-line-eq0.false

pub loop-i-preserved : goal.loop-i-preserved
loop-i-preserved c = c.loop-i.invariant ∙ pairs_more c.args.line.now c.loop-i.i c.loop-i.hit (omega arith)

pub returns : goal.returns
returns c = sym (c.loop-i.invariant ∙ pairs_end c.args.line.now c.loop-i.i c.loop-i.hit (omega arith) (omega arith))
