-- Powers of ten as doubles. Assumes nothing.
use Prim.Native.Nat.{ℕ, zero, suc, ◌+◌, ◌-◌, ◌^◌, ◌≤◌, ◌<◌}
use mathlib.Core.Path.{◌≡◌, refl, ap, ◌∙◌}
use mathlib.Core.List.{List, [], ◌∷◌}
use native.Mathlib.Nat.{not-suc-le-zero, le_of_suc-le-suc}
use native.Mathlib.Omega.{arith}
use lib.Ieee.{Float, binary64, mul, of_int, round, units, odd, size, span, climb}
use lib.Count.{count_trailing_zeros}
use lib.IntN.{pos}
use Rattle.value_readings.specs.Reading.{ten}

-- f at 0, 1 and so on, n in all
firsts : ℕ → (ℕ → Float) → List Float
firsts zero f = []
firsts (suc n) f = f zero ∷ firsts n (λ k. f (suc k))

-- what is so at the first n numbers is so at each
each : (n : ℕ) (f g : ℕ → Float) → firsts n f ≡ firsts n g → (k : ℕ) → k < n → f k ≡ g k
unfolding firsts
each zero f g e k h = absurd (not-suc-le-zero h)
each (suc n) f g e zero h = cc
each (suc n) f g e (suc k) h = each n (λ j. f (suc j)) (λ j. g (suc j)) (cc) k (le_of_suc-le-suc h)

-- ten to the k rounded to a double is ten to the k
pub ten_cast : (k : ℕ) → k < 23 → of_int binary64 (pos (10 ^ k)) ≡ ten k
unfolding firsts of_int round units odd size span climb count_trailing_zeros
ten_cast = each 23 (λ k. of_int binary64 (pos (10 ^ k))) ten refl

-- one cast, and the product of two
pub cast_ten : (x : Float) (n k : ℕ) → x ≡ of_int binary64 (pos n) → n ≡ 10 ^ k → k ≤ 22 → x ≡ ten k
cast_ten x n k c e h = c ∙ rw e (ten_cast k (omega arith))

past_15 : (j : ℕ) → j < 8 → mul binary64 (ten 15) (ten j) ≡ ten (15 + j)
unfolding firsts mul round units odd size span climb count_trailing_zeros
past_15 = each 8 (λ j. mul binary64 (ten 15) (ten j)) (λ j. ten (15 + j)) refl

pub tens_product : (x y : Float) (k : ℕ) → x ≡ ten 15 → y ≡ ten (k - 15) → 15 < k → k ≤ 22 → mul binary64 x y ≡ ten k
tens_product x y k e f h g =
    let z : 15 + (k - 15) ≡ k = omega arith in
    rw (e, f) (past_15 (k - 15) (omega arith) ∙ ap ten z)
