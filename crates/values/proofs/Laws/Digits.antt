-- Digits, the marks in front of them, and the dot among them. Assumes nothing.
use mathlib.Core.Path.{◌≡◌, refl}
use mathlib.Core.Bool.{Bool, true, false, cond, ◌&&◌, not, and-true, and-false}
use mathlib.Core.List.{List, [], ◌∷◌}
use mathlib.Core.Logic.{⊎_elim}
use Prim.Native.Nat.{ℕ, suc, ◌+◌, ◌-◌, ◌≤◌, ◌<◌}
use native.Mathlib.Nat.{not-suc-le-zero, eq-or-lt_of_le}
use native.Mathlib.Omega.{arith}
use borrow.Author.Tests.{eq-eqb, ne_eqb, eqb-true, lt-ltb, lt-leb, le-leb}
use lib.Dec.{eqb, ltb}
use lib.ListN.{length, take, drop, get_or}
use lib.Seq.{take_all}
use Rattle.text_bytes.specs.Bytes.{is_empty, all, split_on}
use Rattle.text_bytes.specs.Places.{up_to}
use Rattle.text_bytes.proofs.Laws.Pieces.{up_to_le, split_cut, split_last}
use Rattle.text_bytes.proofs.Laws.Each.{split_some}
use Rattle.value_references.specs.Index.{is_digit}
use Rattle.value_references.proofs.Laws.Indices.{digit_low}
use Rattle.values.specs.Values.{are_digits, unsigned, unmarked, dotted, is_text, is_whole}

-- what is empty
pub text_is : (l : List ℕ) → ltb 0 (length l) ≡ is_text l
unfolding is_text is_empty
text_is [] = refl
text_is (x ∷ xs) = lt-ltb 0 (suc (length xs)) (omega arith)

pub digits_none : (l : List ℕ) → length l ≡ 0 → are_digits l ≡ false
unfolding are_digits is_empty
digits_none [] h = refl
digits_none (x ∷ xs) h = absurd (omega arith)

pub digits_some : (l : List ℕ) → (length l ≡ 0 → ⊥) → are_digits l ≡ all is_digit l
unfolding are_digits is_empty
digits_some [] h = absurd (h refl)
digits_some (x ∷ xs) h = refl

-- a minus in front
pub unsigned_none : (l : List ℕ) → length l ≡ 0 → l ≡ unsigned l
unfolding unsigned
unsigned_none [] h = refl
unsigned_none (x ∷ xs) h = absurd (omega arith)

pub unsigned_minus : (l : List ℕ) → (length l ≡ 0 → ⊥) → get_or l 0 0 ≡ 45 → take (length l - 1) (drop 1 l) ≡ unsigned l
unfolding unsigned
unsigned_minus [] h e = absurd (h refl)
unsigned_minus (x ∷ xs) h e = rw (eq-eqb x 45 e) (take_all (suc (length xs) - 1) xs (omega arith))

pub unsigned_plain : (l : List ℕ) → (get_or l 0 0 ≡ 45 → ⊥) → l ≡ unsigned l
unfolding unsigned
unsigned_plain [] h = refl
unsigned_plain (x ∷ xs) h = rw (ne_eqb x 45 h)

-- a plus or a minus in front
pub unmarked_none : (l : List ℕ) → length l ≡ 0 → l ≡ unmarked l
unfolding unmarked
unmarked_none [] h = refl
unmarked_none (x ∷ xs) h = absurd (omega arith)

pub unmarked_plus : (l : List ℕ) → (length l ≡ 0 → ⊥) → get_or l 0 0 ≡ 43 → take (length l - 1) (drop 1 l) ≡ unmarked l
unfolding unmarked
unmarked_plus [] h e = absurd (h refl)
unmarked_plus (x ∷ xs) h e = rw (eq-eqb x 43 e) (take_all (suc (length xs) - 1) xs (omega arith))

pub unmarked_minus : (l : List ℕ) → (length l ≡ 0 → ⊥) → (get_or l 0 0 ≡ 43 → ⊥) → get_or l 0 0 ≡ 45 → take (length l - 1) (drop 1 l) ≡ unmarked l
unfolding unmarked
unmarked_minus [] h p e = absurd (h refl)
unmarked_minus (x ∷ xs) h p e = rw (ne_eqb x 43 p, eq-eqb x 45 e) (take_all (suc (length xs) - 1) xs (omega arith))

pub unmarked_plain : (l : List ℕ) → (get_or l 0 0 ≡ 43 → ⊥) → (get_or l 0 0 ≡ 45 → ⊥) → l ≡ unmarked l
unfolding unmarked
unmarked_plain [] p e = refl
unmarked_plain (x ∷ xs) p e = rw (ne_eqb x 43 p, ne_eqb x 45 e)

-- a whole has nine digits at most
module _ (l u : List ℕ) (e : u ≡ unsigned l) where
  pub whole_long : 9 < length u → is_whole l ≡ false
  unfolding is_whole
  whole_long h = rw (← e, lt-leb (length u) 9 h) (and-false (are_digits u))

  pub whole_short : length u ≤ 9 → is_whole l ≡ are_digits u
  unfolding is_whole
  whole_short h = rw (← e, le-leb (length u) 9 h) (and-true (are_digits u))

-- a dot is no digit
dot_breaks : (l : List ℕ) → up_to 46 l < length l → all is_digit l ≡ false
unfolding up_to all
dot_breaks [] h = absurd (not-suc-le-zero h)
dot_breaks (x ∷ xs) h = go (eqb x 46) refl h (dot_breaks xs)
  where
    go : (t : Bool) → eqb x 46 ≡ t → cond t 0 (suc (up_to 46 xs)) < suc (length xs) → (up_to 46 xs < length xs → all is_digit xs ≡ false) → (is_digit x && all is_digit xs) ≡ false
    go true e k ih = rw (digit_low x (omega (arith, eqb-true x 46 e)))
    go false e k ih = rw (ih (omega arith)) (and-false (is_digit x))

digits_dot : (l : List ℕ) → up_to 46 l < length l → are_digits l ≡ false
unfolding are_digits
digits_dot l h = rw (dot_breaks l h) (and-false (not (is_empty l)))

-- three pieces are too many
too_many : (a c : List ℕ) (ps : List (List ℕ)) → (length ps ≡ 0 → ⊥) → dotted (a ∷ (c ∷ ps)) ≡ false
unfolding dotted
too_many a c [] h = absurd (h refl)
too_many a c (p ∷ ps) h = refl

-- after a dot there are digits and no second dot
pub after_dot_lem : (a l : List ℕ) → dotted (a ∷ split_on 46 l) ≡ (are_digits a && are_digits l)
unfolding dotted
after_dot_lem a l = ⊎_elim one more (eq-or-lt_of_le (up_to_le 46 l))
  where
    one : up_to 46 l ≡ length l → dotted (a ∷ split_on 46 l) ≡ (are_digits a && are_digits l)
    one q = rw (split_last 46 l q)

    more : up_to 46 l < length l → dotted (a ∷ split_on 46 l) ≡ (are_digits a && are_digits l)
    more lt =
        let rest = drop (up_to 46 l + 1) l in
        rw (split_cut 46 l lt, digits_dot l lt, and-false (are_digits a)) (too_many a (take (up_to 46 l) l) (split_on 46 rest) (split_some 46 rest))
