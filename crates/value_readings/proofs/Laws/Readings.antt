-- The reading of a cell, case by case. Assumes nothing.
use Prim.Native.Nat.{ℕ, ◌+◌, ◌-◌, ◌≤◌, ◌<◌}
use mathlib.Core.Path.{◌≡◌, refl, ap, sym, ◌∙◌}
use mathlib.Core.Bool.{Bool, true, false, cond, ◌&&◌, not, and-false}
use mathlib.Core.List.{List, [], ◌∷◌, ◌++◌}
use native.Mathlib.Omega.{arith}
use borrow.Author.Tests.{le-leb, lt-leb, leb-true}
use lib.Dec.{leb}
use lib.Ieee.{Float}
use lib.IntN.{ℤ, pos, nat_abs}
use lib.ListN.{length, take, drop, get_or, length-append}
use Rattle.text_bytes.specs.Bytes.{bytes, same, is, is_empty, all, on_first, split_on}
use Rattle.text_bytes.specs.Places.{part}
use Rattle.text_bytes.proofs.Laws.Same.{same_equal}
use Rattle.text_bytes.proofs.Laws.Tests.{absurd_bool, and_left, and_right}
use Rattle.text_bytes.proofs.Laws.Each.{to_end}
use Rattle.value_references.specs.Index.{is_digit, number}
use Rattle.values.specs.Values.{are_digits, unsigned, unmarked, dotted, is_e, mantissa, exponent, is_exponent, is_null, is_whole, is_unsigned, is_numeral, CutAt}
use Rattle.values.specs.declared.Cuts.{Cuts}
use Rattle.value_readings.specs.Reading.{has_minus, signed, double, exponent_of, scale_of, decimal_of, is_short, numeral_of, value_of}
use Rattle.value_readings.specs.declared.Value.TheVariants.{Missing, Whole, Decimal, Infinite, NotANumber, LongDecimal, Text}
use Rattle.value_readings.proofs.Laws.Numbers.{number_append}

pub minus_none : (l : List ℕ) → length l ≡ 0 → has_minus l ≡ false
unfolding has_minus
minus_none [] h = refl
minus_none (x ∷ xs) h = absurd (omega arith)

-- a numeral is neither of the words
no_word : (b w : List ℕ) → is_numeral b ≡ true → is_numeral w ≡ false → same b w ≡ false
no_word b w e f = go (same b w) refl
  where
    go : (t : Bool) → same b w ≡ t → t ≡ false
    go true s = absurd (let q : b ≡ w = same_equal b w s in let z : ◌≡◌ {A = ℕ} 0 1 = cc in omega arith)
    go false s = refl

no_inf : (b : List ℕ) → is_numeral b ≡ true → is b "INF" ≡ false
unfolding is_numeral is_unsigned mantissa is_e dotted split_on on_first unsigned are_digits all is_empty bytes
no_inf b e = no_word b (bytes "INF") e refl

no_nan : (b : List ℕ) → is_numeral b ≡ true → is b "NaN" ≡ false
unfolding is_numeral is_unsigned mantissa is_e dotted split_on on_first unsigned are_digits all is_empty bytes
no_nan b e = no_word b (bytes "NaN") e refl

-- THE CASES, in order

pub value_missing : (b : List ℕ) → is_null b ≡ true → Missing ≡ value_of b
unfolding value_of
value_missing b n = rw n

module _ (b u : List ℕ) (m : Bool) (n : is_null b ≡ false) (ms : m ≡ has_minus b) (e : u ≡ unsigned b) where
  pub value_whole : is_whole b ≡ true → Whole (signed m (number 0 u)) ≡ value_of b
  unfolding value_of
  value_whole w = rw (n, w, ms, e)

  module _ (w : is_whole b ≡ false) where
    pub value_numeral : is_numeral b ≡ true → numeral_of m u ≡ value_of b
    unfolding value_of
    value_numeral g = rw (n, w, no_inf b g, no_nan b g, ms, e, g)

    pub value_word : is_numeral b ≡ false → cond (is b "INF") Infinite (cond (is b "NaN") NotANumber Text) ≡ value_of b
    unfolding value_of
    value_word g = rw (n, w, g)

-- WHAT A WHOLE AND A NUMERAL ARE MADE OF

digits_all : (l : List ℕ) → are_digits l ≡ true → all is_digit l ≡ true
unfolding are_digits
digits_all l e = and_right (not (is_empty l)) (all is_digit l) e

pub whole_digits : (b u : List ℕ) → u ≡ unsigned b → is_whole b ≡ true → (length u ≤ 15) × (all is_digit u ≡ true)
unfolding is_whole
whole_digits b u e w =
    let v : (are_digits u && leb (length u) 9) ≡ true = ap (λ (x : List ℕ). are_digits x && leb (length x) 9) e ∙ w in
    (omega (arith, leb-true (length u) 9 (and_right (are_digits u) (leb (length u) 9) v)), digits_all u (and_left (are_digits u) (leb (length u) 9) v))

-- the pieces of a mantissa are digits: that before the dot, and that after it, of which there may be none
piece_digits : (ps : List (List ℕ)) → dotted ps ≡ true → (all is_digit (get_or ps 0 []) ≡ true) × (all is_digit (get_or ps 1 []) ≡ true)
unfolding dotted all
piece_digits [] e = absurd_bool e
piece_digits (a ∷ []) e = (digits_all a e, refl)
piece_digits (a ∷ (c ∷ [])) e = (digits_all a (and_left (are_digits a) (are_digits c) e), digits_all c (and_right (are_digits a) (are_digits c) e))
piece_digits (a ∷ (c ∷ (d ∷ ps))) e = absurd_bool e

-- EXPONENTS

pub exponent_zero : (l : List ℕ) → length l ≡ 0 → pos 0 ≡ exponent_of l
unfolding exponent_of
exponent_zero [] h = refl
exponent_zero (x ∷ xs) h = absurd (omega arith)

written : (l : List ℕ) → (length l ≡ 0 → ⊥) → is_exponent l ≡ true → (are_digits (unmarked (drop 1 l)) && leb (length (unmarked (drop 1 l))) 3) ≡ true
unfolding is_exponent
written [] h g = absurd (h refl)
written (b ∷ bs) h g = and_right (is_e b) (are_digits (unmarked bs) && leb (length (unmarked bs)) 3) g

writes : (l : List ℕ) → (length l ≡ 0 → ⊥) → signed (has_minus (drop 1 l)) (number 0 (unmarked (drop 1 l))) ≡ exponent_of l
unfolding exponent_of
writes [] h = absurd (h refl)
writes (b ∷ bs) h = refl

module _ (l d : List ℕ) (h : length l ≡ 0 → ⊥) (q : d ≡ unmarked (take (length l - 1) (drop 1 l))) where
  rest_is : d ≡ unmarked (drop 1 l)
  rest_is = q ∙ ap unmarked (to_end l 1)

  pub exponent_digits : is_exponent l ≡ true → (length d ≤ 3) × (all is_digit d ≡ true)
  exponent_digits g =
      let w : (are_digits d && leb (length d) 3) ≡ true = rw rest_is (written l h g) in
      (leb-true (length d) 3 (and_right (are_digits d) (leb (length d) 3) w), digits_all d (and_left (are_digits d) (leb (length d) 3) w))

  pub exponent_some : (m : Bool) (n : ℕ) → m ≡ has_minus (take (length l - 1) (drop 1 l)) → n ≡ number 0 d → signed m n ≡ exponent_of l
  exponent_some m n e f =
      let g : m ≡ has_minus (drop 1 l) = e ∙ ap has_minus (to_end l 1) in
      rw (g, f, rest_is) (writes l h)

-- A DECIMAL

module _ (m : Bool) (a c : List ℕ) (x : ℤ) where
  pub long_digits : 15 < length a + length c → LongDecimal ≡ cond (is_short a c x) (decimal_of m a c x) LongDecimal
  unfolding is_short
  long_digits h = rw (lt-leb (length (a ++ c)) 15 (omega (arith, length-append a c)))

  module _ (q : ℤ) (e : q ≡ scale_of c x) where
    pub long_power : leb (nat_abs q) 22 ≡ false → LongDecimal ≡ cond (is_short a c x) (decimal_of m a c x) LongDecimal
    unfolding is_short
    long_power f = rw (← e, f, and-false (leb (length (a ++ c)) 15))

    pub short_decimal :
        (k n : ℕ) (z : ℤ) (d : Float) → length a + length c ≤ 15 → leb (nat_abs q) 22 ≡ true → k ≡ number 0 a → n ≡ number k c → z ≡ signed m n → d ≡ double m n q
        → Decimal z q d ≡ cond (is_short a c x) (decimal_of m a c x) LongDecimal
    unfolding is_short decimal_of
    short_decimal k n z d h f ek en ez ed =
        let w : n ≡ number 0 (a ++ c) = en ∙ ap (λ (j : ℕ). number j c) ek ∙ sym (number_append 0 a c) in
        rw (le-leb (length (a ++ c)) 15 (omega (arith, length-append a c)), ez, ed, ← e, f, w)

-- A NUMERAL, by where it is cut

module _ {u : List ℕ} {m : Cuts} (h : CutAt u m) (g : is_unsigned u ≡ true) where
  pub cut_exponent : is_exponent (take (length u - m.to) (drop m.to u)) ≡ true
  unfolding is_unsigned
  cut_exponent = rw (to_end u m.to, h.past g) (and_right (dotted (split_on 46 (mantissa u))) (is_exponent (exponent u)) g)

  pieces : dotted (split_on 46 (mantissa u)) ≡ true
  unfolding is_unsigned
  pieces = and_left (dotted (split_on 46 (mantissa u))) (is_exponent (exponent u)) g

  pub cut_before : all is_digit (take m.whole u) ≡ true
  cut_before = rw (h.before g) (piece_digits (split_on 46 (mantissa u)) pieces).0

  pub cut_after : all is_digit (part m.from m.to u) ≡ true
  cut_after = rw (h.after g) (piece_digits (split_on 46 (mantissa u)) pieces).1

  pub cut_read : (s : Bool) (x : ℤ) → x ≡ exponent_of (take (length u - m.to) (drop m.to u))
      → cond (is_short (take m.whole u) (part m.from m.to u) x) (decimal_of s (take m.whole u) (part m.from m.to u) x) LongDecimal ≡ numeral_of s u
  cut_read s x e = let f : x ≡ exponent_of (exponent u) = e ∙ ap exponent_of (to_end u m.to ∙ h.past g) in rw (h.before g, h.after g, f)
