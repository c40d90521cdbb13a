-- `tally_rows::found_in` meets its contract. The invariant: what was added and what the lines left will add is what all lines add. Assumes nothing.
use Prim.Native.Nat.{◌-◌}
use native.Mathlib.Omega.{arith}
use borrow.Author.Rules.{rules}
use Rattle.text_bytes.specs.Bytes.{Bytes}
use Rattle.column_marks.proofs.Laws.Summing.{lines_none}
use Rattle.tally_rows.specs.Counts.{nine, line_adds, lines_add}
use Rattle.tally_rows.proofs.Laws.Adding.{nothing_found, lines_room, line_room, line_next}
use Rattle.tally_rows.proofs.found_in.Goals as goal

pub loop-at-init : goal.loop-at-init
loop-at-init c = (search rules, λ i. omega (arith, nothing_found c.nothing-tally.ensures i))

pub with_line-found-requires : goal.with_line-found-requires
with_line-found-requires c =
    record {
      marks = c.requires.marks;
      room = line_room c.args.marks.now c.line_at-line.ensures (nine c.loop-at.found) (lines_add c.args.marks.now c.args.file.now) c.loop-at.invariant.1 (lines_room c.requires.marks c.args.file.now c.requires.file_len_bound);
    }

pub loop-at-preserved : goal.loop-at-preserved
loop-at-preserved c = (search rules, line_next c.args.marks.now c.line_at-line.ensures (nine c.loop-at.found) (lines_add c.args.marks.now c.args.file.now) c.loop-at.invariant.1 (nine c.with_line-found.result) c.with_line-found.ensures)

pub returns : goal.returns
returns c = λ i. omega (arith, c.loop-at.invariant.1 i, lines_none (λ (l : Bytes). line_adds c.args.marks.now l i) c.args.file.now c.loop-at.at c.loop-at-test.false)
