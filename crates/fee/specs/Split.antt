-- What a split answers: its number, and the lent places afterwards. Paper 02, request 2026-10. Assumes nothing.
use Rattle.std.specs.Prelude.{ℕ, ◌≡◌, cond, List, eqb, length}
use Rattle.fee_shares.specs.Sums.{list_to}
use Rattle.fee_shares.specs.Shares.{share, Fair}
use Rattle.fee_shares.specs.Refusals.{refusal}
use Rattle.fee.specs.Places.{Holding, amount_at}

-- the number, and the lent places afterwards
pub record Outcome (A : Type 0) : Type 0 where
  pub number : ℕ
  pub shares : List A

abbrev pub outcome : {A : Type 0} → ℕ → List A → Outcome A
outcome n ys = record { number = n; shares = ys }

-- THE OUTCOME of a call with the places ys: a granted one leaves in each place the share of its number, a refused one leaves the places as they are
unfoldable pub split_of : {A : Type 0} → Holding A → ℕ → List ℕ → List A → Outcome A
split_of p fee ws ys =
    outcome (refusal fee ws (length ys)) (cond (eqb (refusal fee ws (length ys)) 0) (list_to (length ws) (λ (i : ℕ). p.held (share fee ws i))) ys)

-- The same by what the words ask: o is an outcome of the call where its number is the first refusal, a refused call leaves the places,
-- and any other leaves as many fair shares as there are weights
pub record Fits {A : Type 0} (p : Holding A) (fee : ℕ) (ws : List ℕ) (ys : List A) (o : Outcome A) : Type 0 where
  pub first : o.number ≡ refusal fee ws (length ys)
  pub kept : (o.number ≡ 0 → ⊥) → o.shares ≡ ys
  pub long : o.number ≡ 0 → length o.shares ≡ length ws
  pub fair : o.number ≡ 0 → Fair fee ws (amount_at p o.shares)
