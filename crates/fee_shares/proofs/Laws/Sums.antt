-- Sums over the numbers below n. Assumes nothing.
use Prim.Native.Nat.{ℕ, zero, suc, ◌+◌, ◌*◌, ◌≤◌, ◌<◌}
use mathlib.Core.Path.{◌≡◌, refl, sym, subst}
use mathlib.Core.Bool.{Bool, true, false}
use native.Mathlib.Omega.{arith}
use lib.Dec.{eqb, ltb}
use borrow.Author.Tests.{eqb-true, eqb-false, ltb-true, ltb-false, lt-ltb, le-ltb}
use Rattle.fee_shares.specs.Sums.{sum_to, bit}

pub sum_same : (n : ℕ) (f g : ℕ → ℕ) → ((i : ℕ) → i < n → f i ≡ g i) → sum_to n f ≡ sum_to n g
unfolding sum_to
sum_same zero f g h = refl
sum_same (suc n) f g h = omega (arith, sum_same n f g (λ i k. h i (omega arith)), h n (omega arith))

pub sum_le : (n : ℕ) (f g : ℕ → ℕ) → ((i : ℕ) → i < n → f i ≤ g i) → sum_to n f ≤ sum_to n g
unfolding sum_to
sum_le zero f g h = omega arith
sum_le (suc n) f g h = omega (arith, sum_le n f g (λ i k. h i (omega arith)), h n (omega arith))

pub sum_add : (n : ℕ) (f g : ℕ → ℕ) → sum_to n (λ (i : ℕ). f i + g i) ≡ sum_to n f + sum_to n g
unfolding sum_to
sum_add zero f g = refl
sum_add (suc n) f g = omega (arith, sum_add n f g)

pub sum_times : (n k : ℕ) (f : ℕ → ℕ) → sum_to n (λ (i : ℕ). k * f i) ≡ k * sum_to n f
unfolding sum_to
sum_times zero k f = omega arith
sum_times (suc n) k f = omega (arith, sum_times n k f)

pub sum_most : (n k : ℕ) (f : ℕ → ℕ) → ((i : ℕ) → i < n → f i ≤ k) → sum_to n f ≤ n * k
unfolding sum_to
sum_most zero k f h = omega arith
sum_most (suc n) k f h = omega (arith, sum_most n k f (λ i l. h i (omega arith)), h n (omega arith))

-- strictly, where one place is
lt_more :
    (n m : ℕ) (f g : ℕ → ℕ) (b : Bool) → eqb m n ≡ b → m < suc n → f m < g m → f n ≤ g n → sum_to n f ≤ sum_to n g
    → (m < n → sum_to n f < sum_to n g) → sum_to n f + f n < sum_to n g + g n
lt_more n m f g true e k l h s r = let t : f n < g n = subst (λ (x : ℕ). f x < g x) (eqb-true m n e) l in omega arith
lt_more n m f g false e k l h s r = let ne = eqb-false m n e in omega (arith, r (omega arith))

pub sum_lt : (n m : ℕ) (f g : ℕ → ℕ) → ((i : ℕ) → i < n → f i ≤ g i) → m < n → f m < g m → sum_to n f < sum_to n g
unfolding sum_to
sum_lt zero m f g h k l = omega arith
sum_lt (suc n) m f g h k l =
    lt_more n m f g (eqb m n) refl k l (h n (omega arith)) (sum_le n f g (λ i j. h i (omega arith)))
    (λ j. sum_lt n m f g (λ i q. h i (omega arith)) j l)

-- a part of the sum is at most the sum
pub sum_part : (n m : ℕ) (f : ℕ → ℕ) → m ≤ n → sum_to m f ≤ sum_to n f
unfolding sum_to
sum_part zero m f h = let e : m ≡ 0 = omega arith in rw e (omega arith)
sum_part (suc n) m f h = go (eqb m (suc n)) refl (λ k. sum_part n m f k)
  where
    go : (b : Bool) → eqb m (suc n) ≡ b → (m ≤ n → sum_to m f ≤ sum_to n f) → sum_to m f ≤ sum_to n f + f n
    go true e r = let q = eqb-true m (suc n) e in rw q (omega arith)
    go false e r = let ne = eqb-false m (suc n) e in omega (arith, r (omega arith))

-- BITS
pub bit_le : (a b : Bool) → (a ≡ true → b ≡ true) → bit a ≤ bit b
bit_le false b h = omega arith
bit_le true b h = rw (h refl) (omega arith)

pub bit_most : (a : Bool) → bit a ≤ 1
bit_most true = omega arith
bit_most false = omega arith

pub ltb_same : (a b c d : ℕ) → (a < b → c < d) → (c < d → a < b) → ltb a b ≡ ltb c d
ltb_same a b c d f g = go (ltb a b) refl
  where
    go : (t : Bool) → ltb a b ≡ t → t ≡ ltb c d
    go true e = sym (lt-ltb c d (f (ltb-true a b e)))
    go false e = sym (le-ltb c d (by (ltb c d) refl))
      where
        by : (u : Bool) → ltb c d ≡ u → d ≤ c
        by true q = let z = g (ltb-true c d q) in omega (arith, ltb-false a b e)
        by false q = ltb-false c d q
