-- `test_weights::run_weights` is safe and ends: every place stays within its slice. Assumes nothing.
use mathlib.Core.Path.{sym}
use lib.Seq.{length-take-le}
use borrow.Author.Rules.{rules}
use Rattle.test_weights.proofs.run_weights.Goals as goal

pub slice_bounds-weigh_into-end : goal.slice_bounds-weigh_into-end
slice_bounds-weigh_into-end c = sym (length-take-le _ _ (search rules))
