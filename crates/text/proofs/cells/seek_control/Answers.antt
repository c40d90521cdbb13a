-- `text::cells::seek_control` meets its contract. The invariant: the cell of the whole line is that of what is left, counted from k. Assumes nothing.
use mathlib.Core.Path.{sym, ◌∙◌}
use native.Mathlib.Omega.{arith}
use borrow.Author.Rules.{rules}
use Rattle.text.proofs.Laws.Control.{control_here, control_tab, control_next, control_none}
use Rattle.text.proofs.cells.seek_control.Goals as goal
use Rattle.text.proofs.cells.seek_control.Goals.{then-x-eq-TAB, else-x-eq-TAB}

pub returns-then-is_control : goal.returns-then-is_control
returns-then-is_control c = sym (c.loop-x.invariant.1 ∙ control_here c.args.line.now c.loop-x.x-index c.loop-x.k (search rules) (sym c.is_control.ensures ∙ c.if-is_control.true))

pub loop-x-preserved : goal.loop-x-preserved
loop-x-preserved c =
    elim c.if-x-eq-TAB.branch [ then-x-eq-TAB w ↦ (omega arith, c.loop-x.invariant.1 ∙ rw w.k-is (control_tab c.args.line.now c.loop-x.x-index c.loop-x.k (search rules) w.if-x-eq-TAB.true)) | else-x-eq-TAB w ↦ (omega arith, c.loop-x.invariant.1 ∙ rw w.k-is (control_next c.args.line.now c.loop-x.x-index c.loop-x.k (search rules) (sym c.is_control.ensures ∙ c.if-is_control.false) w.if-x-eq-TAB.false)) ]

pub returns : goal.returns
returns c = sym (c.loop-x.invariant.1 ∙ control_none c.args.line.now c.loop-x.x-index c.loop-x.k (search rules))
