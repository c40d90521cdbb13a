-- `test_book::show` ends and is safe: the book that it is lent is one. Assumes nothing.
use native.Mathlib.Omega.{arith}
use lib.ListN.{length-take}
use Rattle.test_book.proofs.show.Goals as goal

pub slice_bounds-write_all-end-2 : goal.slice_bounds-write_all-end-2
slice_bounds-write_all-end-2 c = omega (arith, length-take c.push_fields-n.result c.push_fields-n.new.out, c.push_fields-n.ensures)
