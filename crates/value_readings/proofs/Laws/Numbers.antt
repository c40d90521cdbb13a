-- Numbers that digits write, powers of ten, and numbers that 53 binary digits hold. Assumes nothing.
use Prim.Native.Nat.{ℕ, zero, suc, ◌+◌, ◌*◌, ◌^◌, ◌≤◌, ◌<◌}
use mathlib.Core.Path.{◌≡◌, refl, ap, sym, subst, ◌∙◌}
use mathlib.Core.Bool.{true, ◌&&◌}
use mathlib.Core.List.{List, [], ◌∷◌, ◌++◌}
use native.Mathlib.Omega.{arith}
use native.Mathlib.Nat.{pow-suc, pow-le-pow_right}
use native.Mathlib.Numerals.{add-one}
use borrow.Author.Tests.{leb-true}
use lib.Dec.{T, leb, lit<, le→leb}
use lib.Ieee.{binary64, in_float}
use lib.IntN.{ℤ, pos, neg_ℤ, ◌-ℤ◌, +ℤ_idl}
use lib.ListN.{length, get_or, drop, drop_of_length-le}
use mir.Syntax.{w64}
use mir.Val.{SFits, to_z}
use mir.ValLaws.{to_z_pos}
use Rattle.text_bytes.specs.Bytes.{all}
use Rattle.text_bytes.proofs.Laws.Pieces.{drop_step}
use Rattle.value_references.specs.Index.{is_digit, more, number}
use Rattle.text_bytes.proofs.Laws.Tests.{and_left, and_right}
use Rattle.text_bytes.proofs.Laws.Each.{all_next}

-- DIGITS, one by one

module _ (l : List ℕ) (i : ℕ) (h : i < length l) where
  pub number_next : (n : ℕ) → number n (drop i l) ≡ number (more n (get_or l i 0)) (drop (i + 1) l)
  unfolding number
  number_next n = ap (number n) (drop_step l i h)

  pub digit_here : all is_digit (drop i l) ≡ true → (48 ≤ get_or l i 0) × (get_or l i 0 ≤ 57)
  digit_here e =
      let b = get_or l i 0 in
      let d : (leb 48 b && leb b 57) ≡ true = and_left (is_digit b) (all is_digit (drop (i + 1) l)) (sym (all_next is_digit l i h) ∙ e) in
      (leb-true 48 b (and_left (leb 48 b) (leb b 57) d), leb-true b 57 (and_right (leb 48 b) (leb b 57) d))

  pub digits_on : all is_digit (drop i l) ≡ true → all is_digit (drop (i + 1) l) ≡ true
  digits_on e = and_right (is_digit (get_or l i 0)) _ (sym (all_next is_digit l i h) ∙ e)

pub number_end : (n : ℕ) (l : List ℕ) (i : ℕ) → length l ≤ i → number n (drop i l) ≡ n
unfolding number
number_end n l i h = rw (drop_of_length-le l h)

-- the digits of two texts, one after the other
pub number_append : (n : ℕ) (a c : List ℕ) → number n (a ++ c) ≡ number (number n a) c
unfolding number
number_append n [] c = refl
number_append n (d ∷ a) c = number_append (more n d) a c

-- POWERS OF TEN

-- one digit more
pub grow : (n d i : ℕ) → n < 10 ^ i → d ≤ 9 → n * 10 + d < 10 ^ (i + 1)
grow n d i h k = rw (add-one, pow-suc) (omega arith)

pub ten_more : (i : ℕ) → 10 ^ i * 10 ≡ 10 ^ (i + 1)
ten_more i = rw (add-one, pow-suc)

pub ten_le : (i : ℕ) → i ≤ 15 → 10 ^ i ≤ 10 ^ 15
ten_le i h = pow-le-pow_right (lit< tt) h

pub three_le : (i : ℕ) → i ≤ 3 → 10 ^ i ≤ 10 ^ 3
three_le i h = pow-le-pow_right (lit< tt) h

-- WHAT AN i64 AND A DOUBLE HOLD

pub as_i64 : (n : ℕ) → n ≤ 10 ^ 15 → to_z w64 n ≡ pos n
as_i64 n h = to_z_pos w64 n (omega arith)

pub minus_is : (n : ℕ) → n ≤ 10 ^ 15 → pos 0 -ℤ to_z w64 n ≡ neg_ℤ (pos n)
minus_is n h = ap (λ (z : ℤ). pos 0 -ℤ z) (as_i64 n h) ∙ +ℤ_idl (neg_ℤ (pos n))

neg_fits : (n : ℕ) → n ≤ 10 ^ 15 → SFits w64 (neg_ℤ (pos n))
neg_fits zero h = record { sfits = omega arith }
neg_fits (suc k) h = record { sfits = omega arith }

pub minus_fits : (n : ℕ) → n ≤ 10 ^ 15 → SFits w64 (pos 0 -ℤ to_z w64 n)
minus_fits n h = subst (SFits w64) (sym (minus_is n h)) (neg_fits n h)

-- a number that 53 binary digits hold loses nothing
pub in_float_lem : (n : ℕ) → n ≤ 10 ^ 15 → T (in_float binary64 (to_z w64 n))
unfolding in_float
in_float_lem n h = subst (λ (z : ℤ). T (in_float binary64 z)) (sym (as_i64 n h)) (le→leb n (2 ^ 53) (omega arith))
