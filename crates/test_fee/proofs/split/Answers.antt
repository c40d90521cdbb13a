-- `test_fee::split` is safe and ends: every place stays within its slice. Assumes nothing.
use mathlib.Core.Path.{sym}
use lib.Seq.{length-take-le}
use borrow.Author.Rules.{rules}
use Rattle.test_fee.proofs.split.Goals as goal

pub slice_bounds-split_into-end : goal.slice_bounds-split_into-end
slice_bounds-split_into-end c = sym (length-take-le _ _ (search rules))
