-- `text::lines::line_on` meets its contract, by the laws of where a line ends. Assumes nothing.
use Rattle.text.proofs.Laws.Lines.{line_cr, line_lf, line_empty, line_end}
use Rattle.text.proofs.lines.line_on.Goals as goal
use Rattle.text.proofs.lines.line_on.Goals.{then-at-e+else-file-e-eq-CR, else-at-e}

pub returns-then-file-e-eq-CR : goal.returns-then-file-e-eq-CR
returns-then-file-e-eq-CR c = line_cr c.requires c.seek_far-e.ensures c.if-at-e.true c.if-e-file.true c.if-file-e-eq-CR.true

pub returns-then-e-file : goal.returns-then-e-file
returns-then-e-file c =
    elim c.if-at-e.branch [ then-at-e+else-file-e-eq-CR w ↦ line_lf c.requires c.seek_far-e.ensures w.if-at-e.true c.if-e-file.true w.if-file-e-eq-CR.false | else-at-e w ↦ line_empty c.requires c.seek_far-e.ensures w.if-at-e.false c.if-e-file.true ]

pub returns : goal.returns
returns c = line_end c.requires c.seek_far-e.ensures c.if-e-file.false
