-- `fee_shares::shares::ahead_of` meets its contract. The invariant: how many of those passed come before i. Assumes nothing.
use mathlib.Core.Path.{◌≡◌}
use Prim.Native.Nat.{◌≤◌}
use Rattle.fee_shares.specs.Shares.{ahead}
use Rattle.fee_shares.specs.Sums.{at}
use Rattle.fee_shares.proofs.shares.ahead_of.Given as goal

abbrev pub invariant-loop-j : goal.invariant-loop-j
invariant-loop-j l = (l.count ≡ ahead l.j (at l.rests) l.i) × (l.count ≤ l.j)
