-- `book_ids::mark_line` meets its contract: the id that a line declares is one of the four families', from 1 to 64. Assumes nothing.
use native.Mathlib.Omega.{arith}
use mathlib.Core.Path.{sym, ◌∙◌, ap}
use Rattle.book_ids.specs.Ids.{marked}
use Rattle.book_ids.proofs.Laws.Marks.{line_range}
use Rattle.book_ids.proofs.mark_line.Goals as goal

pub overflow_sub-flags : goal.overflow_sub-flags
overflow_sub-flags c = omega (arith, line_range _ c.args.line.now _ (sym c.line_id.ensures ∙ c.in-Some.is))

pub offset_bounds-flags-id : goal.offset_bounds-flags-id
offset_bounds-flags-id c = omega (arith, line_range _ c.args.line.now _ (sym c.line_id.ensures ∙ c.in-Some.is))

pub bounds-flags-id : goal.bounds-flags-id
bounds-flags-id c = omega (arith, line_range _ c.args.line.now _ (sym c.line_id.ensures ∙ c.in-Some.is))

pub bounds-flags-id-in-Some : goal.bounds-flags-id-in-Some
bounds-flags-id-in-Some c = omega (arith, line_range _ c.args.line.now _ (sym c.line_id.ensures ∙ c.in-Some.is))

pub returns-in-Some : goal.returns-in-Some
unfolding marked
returns-in-Some c = sym (ap (marked c.args.flags.now) (sym c.line_id.ensures ∙ c.in-Some.is))

pub returns-in_default : goal.returns-in_default
unfolding marked
returns-in_default c = sym (ap (marked c.args.flags.now) (sym c.line_id.ensures ∙ c.in_default.is))
