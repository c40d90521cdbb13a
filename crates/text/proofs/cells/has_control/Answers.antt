-- `text::cells::has_control` meets its contract. The invariant: the line has one where one was met or what is left has one. Assumes nothing.
use mathlib.Core.Path.{sym, ◌∙◌}
use native.Mathlib.Omega.{arith}
use Rattle.text.specs.Lines.{control}
use Rattle.text_bytes.proofs.Laws.Blocks.{met_more, met_end}
use Rattle.text.proofs.cells.has_control.Goals as goal

pub loop-x-preserved : goal.loop-x-preserved
loop-x-preserved c = c.loop-x.invariant ∙ met_more control c.args.line.now c.loop-x.x-index c.loop-x.hit c.is_control-hit.result (omega (arith, c.loop-x-test.true)) c.is_control-hit.ensures

pub returns : goal.returns
returns c = sym (c.loop-x.invariant ∙ met_end control c.args.line.now c.loop-x.x-index c.loop-x.hit (omega (arith, c.loop-x-test.false)))
