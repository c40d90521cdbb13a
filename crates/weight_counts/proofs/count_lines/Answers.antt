-- `weight_counts::count_lines` meets its contract. The invariant: what was added and what the lines left will add is what all lines add. Assumes nothing.
use mathlib.Core.Path.{refl, ◌∙◌}
use Prim.Native.Nat.{suc, ◌-◌}
use native.Mathlib.Omega.{arith}
use borrow.Author.Rules.{rules}
use Rattle.weight_counts.proofs.Laws.Raising.{line_room, line_counted, lines_none}
use Rattle.weight_counts.proofs.count_lines.Goals as goal

pub loop-at-init : goal.loop-at-init
loop-at-init c = (search rules, refl, λ i h. refl)

pub count_line-requires : goal.count_line-requires
count_line-requires c =
    record {
      marks = c.requires.marks;
      room = line_room c.args.marks.now c.line_at-line.ensures c.loop-at.weights (c.loop-at.invariant.1 ∙ c.requires.room.long) _ c.loop-at.invariant.2 c.requires.room.fits;
    }

pub loop-at-preserved : goal.loop-at-preserved
loop-at-preserved c = (search rules, search rules, line_counted c.args.marks.now c.line_at-line.ensures c.loop-at.weights (c.loop-at.invariant.1 ∙ c.requires.room.long) _ c.loop-at.invariant.2 c.count_line.ensures)

pub returns : goal.returns
returns c =
    record {
      long = c.loop-at.invariant.1;
      each = λ i h. omega (arith, c.loop-at.invariant.2 i h, lines_none c.args.marks.now (suc i) c.args.file.now c.loop-at.at c.loop-at-test.false);
    }
