-- `tally_rows::with_row` meets its contract: one row goes to its section, and nothing to the others. Assumes nothing.
use mathlib.Core.Path.{refl}
use native.Mathlib.Omega.{arith}
use Rattle.tally.specs.Tally.{sums}
use Rattle.tally_rows.specs.Counts.{numbers, section_list}
use Rattle.tally_rows.proofs.Laws.Adding.{nine_same, sums_at}
use Rattle.tally_rows.proofs.with_row.Goals as goal

pub overflow_add-t : goal.overflow_add-t
overflow_add-t c = omega (arith, c.requires 3, c.share.ensures)

pub overflow_add-t-2 : goal.overflow_add-t-2
overflow_add-t-2 c = omega (arith, c.requires 4, c.share-2.ensures)

pub overflow_add-t-3 : goal.overflow_add-t-3
overflow_add-t-3 c = omega (arith, c.requires 5, c.share-3.ensures)

pub overflow_add-t-4 : goal.overflow_add-t-4
overflow_add-t-4 c = omega (arith, c.requires 6, c.share-4.ensures)

pub returns : goal.returns
unfolding sums
returns c =
    sums_at (numbers c.args.f) (section_list c.args.section)
    (nine_same (omega arith) (omega arith) (omega arith) (omega (arith, c.share.ensures)) (omega (arith, c.share-2.ensures)) (omega (arith, c.share-3.ensures)) (omega (arith, c.share-4.ensures)) (omega arith) (omega arith))
    refl
