-- `tally_rows::with_cell` meets its contract: the count goes to its counter, and nothing to the others. Assumes nothing.
use mathlib.Core.Path.{refl}
use native.Mathlib.Omega.{arith}
use Rattle.tally.specs.Tally.{sums}
use Rattle.tally_rows.specs.Counts.{numbers, count_list}
use Rattle.tally_rows.proofs.Laws.Adding.{nine_same, sums_at}
use Rattle.tally_rows.proofs.with_cell.Goals as goal

pub overflow_add-psms : goal.overflow_add-psms
overflow_add-psms c = omega (arith, c.requires 0, c.share.ensures)

pub overflow_add-distinct : goal.overflow_add-distinct
overflow_add-distinct c = omega (arith, c.requires 1, c.share-2.ensures)

pub overflow_add-unique : goal.overflow_add-unique
overflow_add-unique c = omega (arith, c.requires 2, c.share-3.ensures)

pub overflow_add-t : goal.overflow_add-t
overflow_add-t c = omega (arith, c.requires 7)

pub overflow_add-result : goal.overflow_add-result
overflow_add-result c = omega (arith, c.requires 8)

pub returns : goal.returns
unfolding sums
returns c =
    sums_at (numbers c.args.f) (count_list c.args.counter c.args.c)
    (nine_same (omega (arith, c.share.ensures)) (omega (arith, c.share-2.ensures)) (omega (arith, c.share-3.ensures)) (omega arith) (omega arith) (omega arith) (omega arith) (omega arith) (omega arith))
    refl
