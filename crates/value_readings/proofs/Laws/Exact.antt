-- Both operands are held exactly, and so the double is the value of the decimal rounded once. Assumes nothing.
use Prim.Native.Nat.{ℕ, zero, suc, ◌*◌, ◌^◌, ◌≤◌, ◌<◌}
use mathlib.Core.Path.{◌≡◌, refl, ap, sym, ◌∙◌}
use mathlib.Core.Bool.{false}
use native.Mathlib.Omega.{arith}
use native.Mathlib.Nat.{pow-suc, mul-one, mul_comm, mul_assoc, mul_right_comm, mul-mul-mul_comm, mul-pos}
use lib.Dec.{T}
use borrow.Author.Tests.{ne_eqb}
use lib.IntN.{ℤ, pos, negsuc}
use lib.Ieee.{Float, nan, inf, fin, binary64, mul, div, up, down, of_int, fits, round}
use lib.Ieee.Exact.{HasValue}
use lib.Ieee.Back.{round_whole}
use lib.Ieee.Fits.{of_int-fits, down_pos}
use lib.Ieee.Scale.{round_same}
use Rattle.value_readings.specs.Reading.{ten, times}
use Rattle.value_readings.proofs.Laws.Tens.{ten_cast}

five_two : (k : ℕ) → 5 ^ k * 2 ^ k ≡ 10 ^ k
five_two zero = refl
five_two (suc k) = rw (pow-suc, pow-suc, pow-suc) (mul-mul-mul_comm (5 ^ k) 5 (2 ^ k) 2 ∙ ap (λ (n : ℕ). n * 10) (five_two k))

-- ten to the k, with nothing rounded, for any k
pub ten_value : (k : ℕ) → HasValue (ten k) false (10 ^ k) 1
ten_value k = (refl, ap (λ (n : ℕ). n * 1) (five_two k))

-- up to the 22nd it is a binary64, the 23rd is none
pub ten_fits : (k : ℕ) → k ≤ 22 → T (fits binary64 (ten k))
ten_fits k h = rw (ten_cast k (omega arith)) at (of_int-fits binary64 (pos (10 ^ k)))

pub none_past : fits binary64 (ten 23) ≡ false
unfolding fits
none_past = refl

-- the numerals too lose nothing
pub numerals_value : (n : ℕ) → n < 10 ^ 15 → HasValue (of_int binary64 (pos n)) false n 1
unfolding of_int
numerals_value n h = round_whole binary64 false n (omega arith)

-- THE VALUE OF THE DECIMAL, ROUNDED ONCE: the numerals times ten to the power, which is one fraction of whole numbers

abbrev pub rounded : ℕ → ℤ → Float
rounded n (pos k) = round binary64 false (n * 10 ^ k) 1
rounded n (negsuc k) = round binary64 false n (10 ^ suc k)

five_pos : (k : ℕ) → 0 < 5 ^ k
five_pos zero = omega arith
five_pos (suc k) = rw pow-suc (omega (arith, five_pos k))

ten_pos : (k : ℕ) → 0 < 10 ^ k
ten_pos zero = omega arith
ten_pos (suc k) = rw pow-suc (omega (arith, ten_pos k))

product : (x : Float) (a k : ℕ) → HasValue x false a 1 → mul binary64 x (ten k) ≡ round binary64 false (a * 10 ^ k) 1
unfolding mul
product nan a k h = absurd h
product (inf s) a k h = absurd h
product (fin s m e) a k h =
    let w : m * up e ≡ a * down e = sym (mul-one (m * up e)) ∙ h.1 in
    rw h.0
    (round_same binary64 false (m * up e * (5 ^ k * 2 ^ k)) (down e * 1) (a * 10 ^ k) 1 (mul-pos (down_pos e) (omega arith)) (omega arith)
    (mul-one (m * up e * (5 ^ k * 2 ^ k)) ∙ ap (λ (z : ℕ). m * up e * z) (five_two k) ∙ ap (λ (z : ℕ). z * 10 ^ k) w ∙ mul_right_comm a (down e) (10 ^ k) ∙ ap (λ (z : ℕ). a * 10 ^ k * z) (sym (mul-one (down e)))))

quotient : (x : Float) (a k : ℕ) → HasValue x false a 1 → div binary64 x (ten k) ≡ round binary64 false a (10 ^ k)
unfolding div
quotient nan a k h = absurd h
quotient (inf s) a k h = absurd h
quotient (fin s m e) a k h =
    let w : m * up e ≡ a * down e = sym (mul-one (m * up e)) ∙ h.1 in
    rw (h.0, ne_eqb (5 ^ k) 0 (λ z. omega (arith, five_pos k)))
    (round_same binary64 false (m * up e * 1) (5 ^ k * 2 ^ k * down e) a (10 ^ k) (rw (five_two k) (mul-pos (ten_pos k) (down_pos e))) (ten_pos k)
    (ap (λ (z : ℕ). z * 10 ^ k) (mul-one (m * up e) ∙ w) ∙ mul_assoc a (down e) (10 ^ k) ∙ ap (λ (z : ℕ). a * z) (mul_comm (down e) (10 ^ k) ∙ ap (λ (z : ℕ). z * down e) (sym (five_two k)))))

pub times_rounded : (n : ℕ) (z : ℤ) → n < 10 ^ 15 → times n z ≡ rounded n z
times_rounded n (pos k) h = product (of_int binary64 (pos n)) n k (numerals_value n h)
times_rounded n (negsuc k) h = quotient (of_int binary64 (pos n)) n (suc k) (numerals_value n h)
