-- How the places of a lent list hold amounts: as plain numbers, or as `Cents`. Assumes nothing.
use Rattle.std.specs.Prelude.{ℕ, ◌≡◌, refl, List, get_or}
use Rattle.fee.specs.declared.Cents.{Cents}

-- a place of type A holds an amount, and nothing but that amount
pub record Holding (A : Type 0) : Type 0 where
  pub held : ℕ → A
  pub amount : A → ℕ
  pub there : (n : ℕ) → amount (held n) ≡ n
  pub back : (x : A) → held (amount x) ≡ x

-- a plain number
abbrev pub plain : Holding ℕ
plain = record { held = λ n. n; amount = λ n. n; there = λ n. refl; back = λ n. refl }

-- a `Cents`
abbrev pub cents : Holding Cents
cents = record { held = λ n. record { 0 = n }; amount = λ x. x.0; there = λ n. refl; back = λ x. refl }

-- the amount that stands at i in the places, and 0 past their end
abbrev pub amount_at : {A : Type 0} → Holding A → List A → ℕ → ℕ
amount_at p ys i = p.amount (get_or ys i (p.held 0))
