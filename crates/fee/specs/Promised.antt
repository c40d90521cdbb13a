-- What is promised of a split, of `Cents::split` and `split_places` alike: the number, and the places afterwards. Assumes nothing.
use Rattle.std.specs.Prelude.{ℕ, ◌+◌, ◌*◌, ◌<◌, ◌≡◌, List, length}
use Rattle.fee_shares.specs.Sums.{sum_to, at}
use Rattle.fee.specs.Places.{Holding, amount_at}
use Rattle.fee_shares.specs.Shares.{total}
use Rattle.fee_shares.specs.Refusals.{refusal}

-- number n and the places zs, which held ys before
pub record Promised {A : Type 0} (p : Holding A) (fee : ℕ) (ws : List ℕ) (ys : List A) (n : ℕ) (zs : List A) : Type 0 where
  pub number : n ≡ refusal fee ws (length ys)
  pub untouched : (n ≡ 0 → ⊥) → zs ≡ ys
  pub as_many : n ≡ 0 → length zs ≡ length ws
  pub adds_up : n ≡ 0 → sum_to (length ws) (amount_at p zs) ≡ fee
  pub near : n ≡ 0 → (i : ℕ) → i < length ws → (amount_at p zs i * total ws < fee * at ws i + total ws) × (fee * at ws i < amount_at p zs i * total ws + total ws)
  pub nothing : n ≡ 0 → (i : ℕ) → i < length ws → at ws i ≡ 0 → amount_at p zs i ≡ 0
