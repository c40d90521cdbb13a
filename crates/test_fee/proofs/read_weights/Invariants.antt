-- `test_fee::read_weights` is safe: every place stays within its slice. Assumes nothing.
use Rattle.std.proofs.Common.{◌≡◌, ◌≤◌, length}
use Rattle.test_fee.proofs.read_weights.Given as goal

abbrev pub invariant-loop-n : goal.invariant-loop-n
invariant-loop-n l = (l.at ≤ length l.line) × (length l.weights ≡ length l.initial.weights)
