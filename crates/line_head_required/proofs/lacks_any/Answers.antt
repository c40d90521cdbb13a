-- `line_head_required::lacks_any` meets its contract. The loop's invariant: the wanted columns that are left decide, and each has its letter. Assumes nothing.
use mathlib.Core.Path.{refl, sym, ap, ◌∙◌}
use mathlib.Core.Bool.{not}
use native.Mathlib.Omega.{arith}
use borrow.Author.Rules.{rules}
use borrow.Author.Tests.{leb-true}
use Rattle.line_head_required.specs.Wanted.{is_line}
use Rattle.line_head_required.proofs.Laws.Requiring.{all_miss, all_next, all_last, all_here, all_after}
use Rattle.line_head_required.proofs.lacks_any.Invariants.{has}
use Rattle.line_head_required.proofs.lacks_any.Goals as goal

pub loop-asking-init : goal.loop-asking-init
loop-asking-init c = (search rules, c.requires.wanted_value, refl)

pub lacks_one-requires : goal.lacks_one-requires
lacks_one-requires c =
    record {
      from_in_bounds = c.requires.from_in_bounds;
      in_bounds = leb-true 2 _ (all_here c.cell_end-e.ensures is_line c.loop-asking.invariant.1);
    }

pub returns-then-lacks_one : goal.returns-then-lacks_one
returns-then-lacks_one c = sym (ap not c.loop-asking.invariant.2 ∙ all_miss c.cell_end-e.ensures (has c.args.asking c.args.line.now c.args.from) (sym c.lacks_one.ensures ∙ c.if-lacks_one.true))

pub returns-then-e-wanted : goal.returns-then-e-wanted
returns-then-e-wanted c = sym (ap not (c.loop-asking.invariant.2 ∙ all_last c.cell_end-e.ensures (has c.args.asking c.args.line.now c.args.from) (sym c.lacks_one.ensures ∙ c.if-lacks_one.false) c.if-e-wanted.true))

pub loop-asking-preserved : goal.loop-asking-preserved
loop-asking-preserved c = (
  omega arith,
  all_after c.cell_end-e.ensures is_line c.loop-asking.invariant.1 (omega arith),
  c.loop-asking.invariant.2 ∙ all_next c.cell_end-e.ensures (has c.args.asking c.args.line.now c.args.from) (sym c.lacks_one.ensures ∙ c.if-lacks_one.false) (omega arith),
)
