-- `fee::Cents::split` meets its contract. The invariant: the amounts passed are the shares. Assumes nothing.
use Rattle.std.proofs.Common.{◌≡◌, ◌<◌, ℕ, length, get_or}
use Rattle.fee_shares.specs.Sums.{at}
use Rattle.fee.specs.Places.{cents}
use Rattle.fee.proofs.Cents.split.Given as goal

abbrev pub invariant-loop-k : goal.invariant-loop-k
invariant-loop-k l = (length l.shares ≡ length l.initial.shares) × ((i : ℕ) → i < l.k → get_or l.shares i (cents.held 0) ≡ cents.held (at l.places i))
