-- A power of ten as an i32: its sign and its distance from 0, and the double that it makes of the numerals. Assumes nothing.
use Prim.Native.Nat.{ℕ, zero, suc, ◌+◌, ◌-◌, ◌^◌, ◌≤◌, ◌<◌}
use mathlib.Core.Path.{◌≡◌, refl, ap, sym, ◌∙◌}
use mathlib.Core.Bool.{Bool, true, false, cond}
use native.Mathlib.Omega.{arith}
use native.Mathlib.Nat.{not-suc-le-zero}
use borrow.Author.Tests.{ltb-true, ltb-false, lt-leb, le-leb}
use lib.Dec.{T, ltb, leb}
use lib.Ieee.{Float, binary64, div, mul, of_int}
use lib.IntN.{ℤ, pos, negsuc, neg_ℤ, nat_abs, sub_ℕ, ◌-ℤ◌, +ℤ_idl}
use lib.Signed.{lt_z, le_z, non_neg}
use mir.Syntax.{w32}
use mir.Val.{Fits, SFits, to_z, of_z}
use mir.ValLaws.{to_z-of_z, to_z_pos}
use Rattle.value_readings.specs.Reading.{signed, ten, times}

-- a number as it comes back from its 32 bits
abbrev back : ℤ → ℤ
back z = to_z w32 (of_z w32 z)

-- an i32 that is d, up from 0
pub record Up (y : ℤ) (d : ℕ) : Type 0 where
  pub is : y ≡ pos d
  pub small : d ≤ 22

pub up_cast : {y : ℤ} {d : ℕ} → Up y d → T (non_neg y) × Fits w32 (nat_abs y)
up_cast u = rw u.is (tt, record { fits = omega (arith, u.small) })

pub up_le : {y : ℤ} {d : ℕ} → Up y d → nat_abs y ≤ 22
up_le u = rw u.is u.small

-- a number below 0 turned round, and one that is not
turn : (z : ℤ) → lt_z z (pos 0) ≡ true → pos 0 -ℤ z ≡ pos (nat_abs z)
turn (pos n) e = absurd (not-suc-le-zero (ltb-true n 0 e))
turn (negsuc n) e = +ℤ_idl (pos (suc n))

keep : (z : ℤ) → lt_z z (pos 0) ≡ false → z ≡ pos (nat_abs z)
keep (pos n) e = refl
keep (negsuc n) e = absurd (let q : ◌≡◌ {A = ℕ} 0 1 = cc in omega arith)

fits : (z : ℤ) → nat_abs z ≤ 2000 → SFits w32 z
fits (pos n) h = record { sfits = omega arith }
fits (negsuc n) h = record { sfits = omega arith }

divides : (n : ℕ) (z : ℤ) → lt_z z (pos 0) ≡ true → div binary64 (of_int binary64 (pos n)) (ten (nat_abs z)) ≡ times n z
divides n (pos k) e = absurd (not-suc-le-zero (ltb-true k 0 e))
divides n (negsuc k) e = refl

multiplies : (n : ℕ) (z : ℤ) → lt_z z (pos 0) ≡ false → mul binary64 (of_int binary64 (pos n)) (ten (nat_abs z)) ≡ times n z
multiplies n (pos k) e = refl
multiplies n (negsuc k) e = absurd (let q : ◌≡◌ {A = ℕ} 0 1 = cc in omega arith)

module _ (z : ℤ) (s : nat_abs z ≤ 22) where
  pub back_is : back z ≡ z
  back_is = to_z-of_z w32 z (fits z (omega arith))

  module _ (e : lt_z (back z) (pos 0) ≡ true) where
    below : lt_z z (pos 0) ≡ true
    below = ap (λ (y : ℤ). lt_z y (pos 0)) (sym back_is) ∙ e

    turned_is : pos 0 -ℤ back z ≡ pos (nat_abs z)
    turned_is = ap (λ (y : ℤ). pos 0 -ℤ y) back_is ∙ turn z below

    pub turned_fits : SFits w32 (pos 0 -ℤ back z)
    turned_fits = rw turned_is (record { sfits = omega arith })

    pub turned : Up (back (pos 0 -ℤ back z)) (nat_abs z)
    turned = record { is = ap back turned_is ∙ to_z_pos w32 (nat_abs z) (omega arith); small = s }

    pub times_below :
        (n : ℕ) (x t : Float) → x ≡ of_int binary64 (pos n) → t ≡ ten (nat_abs (back (pos 0 -ℤ back z))) → div binary64 x t ≡ times n z
    times_below n x t p q = rw (p, q, turned.is) (divides n z below)

  module _ (e : lt_z (back z) (pos 0) ≡ false) where
    not_below : lt_z z (pos 0) ≡ false
    not_below = ap (λ (y : ℤ). lt_z y (pos 0)) (sym back_is) ∙ e

    pub kept : Up (back z) (nat_abs z)
    kept = record { is = back_is ∙ keep z not_below; small = s }

    pub times_up : (n : ℕ) (x t : Float) → x ≡ of_int binary64 (pos n) → t ≡ ten (nat_abs (back z)) → mul binary64 x t ≡ times n z
    times_up n x t p q = rw (p, q, kept.is) (multiplies n z not_below)

-- NUMBERS OF THREE DIGITS

abs_neg : (n : ℕ) → nat_abs (neg_ℤ (pos n)) ≡ n
abs_neg zero = refl
abs_neg (suc n) = refl

abs_signed : (m : Bool) (n : ℕ) → nat_abs (signed m n) ≡ n
abs_signed true n = abs_neg n
abs_signed false n = refl

pub signed_small : (z : ℤ) (m : Bool) (n : ℕ) → z ≡ signed m n → n < 10 ^ 3 → nat_abs z ≤ 999
signed_small z m n e h = rw e (omega (arith, abs_signed m n))

pub small_fits : (z : ℤ) → nat_abs z ≤ 999 → SFits w32 z
small_fits z h = fits z (omega arith)

-- A DIFFERENCE

down_abs : (n k : ℕ) → nat_abs (sub_ℕ n k) ≤ n + k
down_abs n k = go (ltb n k) refl
  where
    go : (t : Bool) → ltb n k ≡ t → nat_abs (cond t (negsuc (k - suc n)) (pos (n - k))) ≤ n + k
    go true e = omega (arith, ltb-true n k e)
    go false e = omega arith

less_abs : (x : ℤ) (p : ℕ) → nat_abs (x -ℤ pos p) ≤ nat_abs x + p
less_abs (pos n) zero = omega arith
less_abs (pos n) (suc p) = down_abs n (suc p)
less_abs (negsuc n) zero = omega (arith, down_abs 0 (suc n))
less_abs (negsuc n) (suc p) = omega arith

module _ (x : ℤ) (p : ℕ) (h : nat_abs x ≤ 999) (k : p ≤ 15) where
  less_plain : back x -ℤ to_z w32 p ≡ x -ℤ pos p
  less_plain = rw (to_z-of_z w32 x (fits x (omega arith)), to_z_pos w32 p (omega arith))

  pub less_fits : SFits w32 (back x -ℤ to_z w32 p)
  less_fits = rw less_plain (fits (x -ℤ pos p) (omega (arith, less_abs x p)))

  pub less_is : back (back x -ℤ to_z w32 p) ≡ x -ℤ pos p
  less_is = to_z-of_z w32 (back x -ℤ to_z w32 p) less_fits ∙ less_plain

-- NEAR 0

far : (z : ℤ) → lt_z z (negsuc 21) ≡ true → false ≡ leb (nat_abs z) 22
far (pos n) e = absurd (let q : ◌≡◌ {A = ℕ} 0 1 = cc in omega arith)
far (negsuc n) e = sym (lt-leb (suc n) 22 (omega (arith, ltb-true 21 n e)))

near : (z : ℤ) → lt_z z (negsuc 21) ≡ false → le_z z (pos 22) ≡ leb (nat_abs z) 22
near (pos n) e = refl
near (negsuc n) e = sym (le-leb (suc n) 22 (omega (arith, ltb-false 21 n e)))

module _ (z : ℤ) (f : SFits w32 z) where
  pub far_is : lt_z (back z) (negsuc 21) ≡ true → false ≡ leb (nat_abs z) 22
  far_is e = far z (ap (λ (y : ℤ). lt_z y (negsuc 21)) (sym (to_z-of_z w32 z f)) ∙ e)

  pub near_is : lt_z (back z) (negsuc 21) ≡ false → le_z (back z) (pos 22) ≡ leb (nat_abs z) 22
  near_is e = rw (to_z-of_z w32 z f) (near z (ap (λ (y : ℤ). lt_z y (negsuc 21)) (sym (to_z-of_z w32 z f)) ∙ e))
