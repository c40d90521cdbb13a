-- `fee_shares::shares::write_shares` meets its contract. The invariant: the places passed hold their shares. Assumes nothing.
use mathlib.Core.Path.{◌≡◌}
use Prim.Native.Nat.{}
use lib.ListN.{length, take}
use Rattle.fee_shares.specs.Shares.{share}
use Rattle.fee_shares.specs.Sums.{list_to}
use Rattle.fee_shares.proofs.shares.write_shares.Given as goal

abbrev pub invariant-loop-i : goal.invariant-loop-i
invariant-loop-i l = (length l.shares ≡ length l.weights) × (take l.i l.shares ≡ list_to l.i (share (l.fee) l.weights))
