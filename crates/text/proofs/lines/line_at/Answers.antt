-- `text::lines::line_at` meets its contract: a line that begins with its LF is empty. Assumes nothing.
use native.Mathlib.Omega.{arith}
use Rattle.text_bytes.proofs.Laws.Pieces.{up_to_hit}
use Rattle.text.proofs.Laws.Lines.{line_empty}
use Rattle.text.proofs.lines.line_at.Goals as goal

pub returns-then-file-at-eq-LF : goal.returns-then-file-at-eq-LF
returns-then-file-at-eq-LF c =
    let hit = up_to_hit 10 c.args.file.now c.args.at c.requires c.if-file-at-eq-LF.true in
    line_empty c.requires (record { starts = omega arith; within = omega (arith, c.requires); at = omega (arith, hit) }) (omega arith) c.requires

pub returns : goal.returns
returns c = c.line_on.ensures
