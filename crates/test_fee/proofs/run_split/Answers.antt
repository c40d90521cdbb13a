-- `test_fee::run_split` is safe and ends: every place stays within its slice. Assumes nothing.
use mathlib.Core.Path.{sym}
use lib.Seq.{length-take-le}
use borrow.Author.Rules.{rules}
use Rattle.test_fee.proofs.run_split.Goals as goal

pub slice_bounds-split-end : goal.slice_bounds-split-end
slice_bounds-split-end c = sym (length-take-le _ _ (search rules))
