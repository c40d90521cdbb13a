-- That no second outcome fits: what each call ensures leaves one number and one amount, or one number and every place of the lent list. Assumes nothing.
use Rattle.std.specs.Prelude.{ℕ, ◌≡◌, List}
use Rattle.std.proofs.Common.{sym, ap, ◌∙◌}
use Rattle.fee.specs.Amounts.{Added, added, sum_of}
use Rattle.fee.specs.Places.{Holding}
use Rattle.fee.specs.Split.{Outcome, outcome, split_of}

-- `Cents::add`
pub add_once : (a b : ℕ) {n m c d : ℕ} → added n c ≡ sum_of a b → added m d ≡ sum_of a b → (n ≡ m) × (c ≡ d)
add_once a b p q = (ap (λ (x : Added). x.number) (p ∙ sym q), ap (λ (x : Added). x.sum) (p ∙ sym q))

-- `Cents::split` and `split_places`: every place of the list
pub split_once : {A : Type 0} (h : Holding A) (fee : ℕ) (ws : List ℕ) (ys : List A) {n m : ℕ} {zs xs : List A}
    → outcome n zs ≡ split_of h fee ws ys → outcome m xs ≡ split_of h fee ws ys → (n ≡ m) × (zs ≡ xs)
split_once {A} h fee ws ys p q = (ap (λ (x : Outcome A). x.number) (p ∙ sym q), ap (λ (x : Outcome A). x.shares) (p ∙ sym q))
