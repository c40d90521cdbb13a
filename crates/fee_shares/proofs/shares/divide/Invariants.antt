-- `fee_shares::shares::divide` meets its contract. The invariant: the remainders and the cents given out, of the weights passed. Assumes nothing.
use mathlib.Core.Path.{◌≡◌}
use Prim.Native.Nat.{ℕ, ◌<◌}
use lib.ListN.{length}
use Rattle.fee_shares.specs.Shares.{floor, rest}
use Rattle.fee_shares.specs.Sums.{sum_to, at}
use Rattle.fee_shares.proofs.shares.divide.Given as goal

abbrev pub invariant-loop-i : goal.invariant-loop-i
invariant-loop-i l = (length l.rests ≡ 64) × ((k : ℕ) → k < l.i → at l.rests k ≡ rest (l.fee) l.weights k) × (l.given ≡ sum_to l.i (floor (l.fee) l.weights))
