-- A numeral without its minus is told from left to right: digits, a dot with digits after it, and what may end it. Assumes nothing.
use mathlib.Core.Path.{◌≡◌, refl, ap, sym, subst, ◌∙◌}
use mathlib.Core.Bool.{Bool, true, false, cond, ◌&&◌, not, and-true, and-false}
use mathlib.Core.List.{List, [], ◌∷◌, ◌++◌}
use Prim.Native.Nat.{ℕ, zero, suc, ◌+◌, ◌-◌, ◌≤◌, ◌<◌}
use native.Mathlib.Omega.{arith}
use borrow.Author.Tests.{ne_eqb, leb-true, lt-ltb, le-ltb, lt-leb, le-leb}
use lib.Dec.{eqb, leb, ltb}
use lib.ListN.{length, take, drop, get_or, length-drop}
use lib.Seq.{drop-drop, get_or-drop}
use Rattle.text_bytes.specs.Bytes.{is_empty, all, on_first, split_on}
use Rattle.text_bytes.specs.Places.{part}
use Rattle.text_bytes.proofs.Laws.Tests.{absurd_bool, and_left, and_right}
use Rattle.text_bytes.proofs.Laws.Pieces.{drop_step}
use Rattle.text_bytes.proofs.Laws.Each.{to_end}
use Rattle.value_references.specs.Index.{is_digit, digits}
use Rattle.value_references.proofs.Laws.Indices.{present}
use Rattle.values.specs.Values.{are_digits, unmarked, dotted, is_e, mantissa, exponent, is_exponent, is_unsigned, is_text, CutAt}
use Rattle.values.proofs.Laws.Digits.{text_is, after_dot_lem}

-- what stands after the digits at the front of a text
abbrev past_digits : List ℕ → List ℕ
past_digits s = drop (length (digits s)) s

-- A BYTE is a digit, a dot, the letter of an exponent, or none of them

data Sort (x : ℕ) : Type 0 where
  digit : is_digit x ≡ true → is_e x ≡ false → eqb x 46 ≡ false → Sort x
  dot : is_digit x ≡ false → is_e x ≡ false → eqb x 46 ≡ true → Sort x
  letter : is_digit x ≡ false → is_e x ≡ true → eqb x 46 ≡ false → Sort x
  other : is_digit x ≡ false → is_e x ≡ false → eqb x 46 ≡ false → Sort x

module _ (x : ℕ) where
  digit_no_letter : is_digit x ≡ true → is_e x ≡ false
  unfolding is_e
  digit_no_letter d =
      let k : x ≤ 57 = leb-true x 57 (and_right (leb 48 x) (leb x 57) d) in
      rw (ne_eqb x 69 (λ q. omega arith), ne_eqb x 101 (λ q. omega arith))

  digit_no_dot : is_digit x ≡ true → eqb x 46 ≡ false
  digit_no_dot d =
      let k : 48 ≤ x = leb-true 48 x (and_left (leb 48 x) (leb x 57) d) in
      ne_eqb x 46 (λ q. omega arith)

  letter_no_dot : is_e x ≡ true → eqb x 46 ≡ false
  unfolding is_e
  letter_no_dot l = ne_eqb x 46 (λ q. absurd_bool (subst (λ (y : ℕ). is_e y ≡ true) q l))

  sort : Sort x
  sort = go (is_digit x) refl (is_e x) refl (eqb x 46) refl
    where
      go : (d : Bool) → is_digit x ≡ d → (l : Bool) → is_e x ≡ l → (t : Bool) → eqb x 46 ≡ t → Sort x
      go true e l f t g = digit e (digit_no_letter e) (digit_no_dot e)
      go false e true f t g = letter e f (letter_no_dot f)
      go false e false f true g = dot e f g
      go false e false f false g = other e f g

-- DIGITS AND WHAT FOLLOWS THEM

-- digits up to the letter, and an exponent
then_past : (s : List ℕ) → (all is_digit (mantissa s) && is_exponent (exponent s)) ≡ is_exponent (past_digits s)
unfolding all mantissa exponent digits is_exponent
then_past [] = refl
then_past (x ∷ s) = go (sort x) (then_past s)
  where
    go : Sort x → (all is_digit (mantissa s) && is_exponent (exponent s)) ≡ is_exponent (past_digits s) → (all is_digit (mantissa (x ∷ s)) && is_exponent (exponent (x ∷ s))) ≡ is_exponent (past_digits (x ∷ s))
    go (digit d l t) ih = rw (l, d) ih
    go (dot d l t) ih = rw (l, d, l)
    go (letter d l t) ih = rw (l, d)
    go (other d l t) ih = rw (l, d, l)

-- the same with one digit at least
some_past : (s : List ℕ) → (are_digits (mantissa s) && is_exponent (exponent s)) ≡ (not (is_empty (digits s)) && is_exponent (past_digits s))
unfolding are_digits is_empty all mantissa exponent digits is_exponent
some_past [] = refl
some_past (x ∷ s) = go (sort x)
  where
    go : Sort x → (are_digits (mantissa (x ∷ s)) && is_exponent (exponent (x ∷ s))) ≡ (not (is_empty (digits (x ∷ s))) && is_exponent (past_digits (x ∷ s)))
    go (digit d l t) = rw (l, d) (then_past s)
    go (dot d l t) = rw (l, d)
    go (letter d l t) = rw (l, d)
    go (other d l t) = rw (l, d)

-- PIECES BETWEEN DOTS, where a digit stands in front of them

pieces : List (List ℕ) → Bool
pieces [] = true
pieces (a ∷ []) = all is_digit a
pieces (a ∷ (c ∷ [])) = all is_digit a && are_digits c
pieces (a ∷ (c ∷ (d ∷ ps))) = false

module _ (x : ℕ) where
  front_good : (ps : List (List ℕ)) → is_digit x ≡ true → pieces (on_first x ps) ≡ pieces ps
  unfolding pieces on_first all
  front_good [] e = rw e
  front_good (a ∷ []) e = rw e
  front_good (a ∷ (c ∷ [])) e = rw e
  front_good (a ∷ (c ∷ (d ∷ ps))) e = refl

  front_bad : (ps : List (List ℕ)) → is_digit x ≡ false → pieces (on_first x ps) ≡ false
  unfolding pieces on_first all
  front_bad [] e = rw e
  front_bad (a ∷ []) e = rw e
  front_bad (a ∷ (c ∷ [])) e = rw e
  front_bad (a ∷ (c ∷ (d ∷ ps))) e = refl

  front_dotted : (ps : List (List ℕ)) → dotted (on_first x ps) ≡ pieces (on_first x ps)
  unfolding pieces dotted on_first are_digits is_empty
  front_dotted [] = refl
  front_dotted (a ∷ []) = refl
  front_dotted (a ∷ (c ∷ [])) = refl
  front_dotted (a ∷ (c ∷ (d ∷ ps))) = refl

empty_dotted : (ps : List (List ℕ)) → dotted ([] ∷ ps) ≡ false
unfolding dotted are_digits is_empty
empty_dotted [] = refl
empty_dotted (c ∷ []) = refl
empty_dotted (c ∷ (d ∷ ps)) = refl

-- 48 is a digit
pieces_dot : (l : List ℕ) → pieces ([] ∷ split_on 46 l) ≡ are_digits l
unfolding on_first are_digits is_empty all
pieces_dot l = sym (front_good 48 ([] ∷ split_on 46 l) refl) ∙ sym (front_dotted 48 ([] ∷ split_on 46 l)) ∙ after_dot_lem (48 ∷ []) l

-- A NUMERAL: digits, and what stands after them

ending : List ℕ → Bool
ending [] = true
ending (x ∷ s) = cond (eqb x 46) (not (is_empty (digits s)) && is_exponent (past_digits s)) (is_exponent (x ∷ s))

rest_past : (u : List ℕ) → (pieces (split_on 46 (mantissa u)) && is_exponent (exponent u)) ≡ ending (past_digits u)
unfolding pieces split_on all mantissa exponent digits is_exponent ending
rest_past [] = refl
rest_past (x ∷ s) = go (sort x) (rest_past s)
  where
    go : Sort x → (pieces (split_on 46 (mantissa s)) && is_exponent (exponent s)) ≡ ending (past_digits s) → (pieces (split_on 46 (mantissa (x ∷ s))) && is_exponent (exponent (x ∷ s))) ≡ ending (past_digits (x ∷ s))
    go (digit d l t) ih = rw (l, d, t, front_good x (split_on 46 (mantissa s)) d) ih
    go (dot d l t) ih = rw (l, d, t, pieces_dot (mantissa s)) (some_past s)
    go (letter d l t) ih = rw (l, d, t)
    go (other d l t) ih = rw (l, d, t, front_bad x (split_on 46 (mantissa s)) d, l)

unsigned_past : (u : List ℕ) → is_unsigned u ≡ (not (is_empty (digits u)) && ending (past_digits u))
unfolding is_unsigned is_empty dotted are_digits split_on mantissa exponent digits
unsigned_past [] = refl
unsigned_past (x ∷ s) = go (sort x)
  where
    go : Sort x → is_unsigned (x ∷ s) ≡ (not (is_empty (digits (x ∷ s))) && ending (past_digits (x ∷ s)))
    go (digit d l t) = rw (l, d, t, front_dotted x (split_on 46 (mantissa s)), front_good x (split_on 46 (mantissa s)) d) (rest_past s)
    go (dot d l t) = rw (l, d, t, empty_dotted (split_on 46 (mantissa s)))
    go (letter d l t) = rw (l, d)
    go (other d l t) = rw (l, d, t, front_dotted x (split_on 46 (mantissa s)), front_bad x (split_on 46 (mantissa s)) d)

-- WHERE ITS PARTS STAND

front : (u : List ℕ) → take (length (digits u)) u ≡ digits u
unfolding digits
front [] = refl
front (x ∷ s) = go (is_digit x) (front s)
  where
    go : (t : Bool) → take (length (digits s)) s ≡ digits s → take (length (cond t (x ∷ digits s) [])) (x ∷ s) ≡ cond t (x ∷ digits s) []
    go true e = ap (λ (l : List ℕ). x ∷ l) e
    go false e = refl

mantissa_past : (u : List ℕ) → mantissa u ≡ digits u ++ mantissa (past_digits u)
unfolding mantissa digits
mantissa_past [] = refl
mantissa_past (x ∷ s) = go (sort x) (mantissa_past s)
  where
    go : Sort x → mantissa s ≡ digits s ++ mantissa (past_digits s) → mantissa (x ∷ s) ≡ digits (x ∷ s) ++ mantissa (past_digits (x ∷ s))
    go (digit d l t) ih = rw (l, d) (ap (λ (m : List ℕ). x ∷ m) ih)
    go (dot d l t) ih = rw (d)
    go (letter d l t) ih = rw (d)
    go (other d l t) ih = rw (d)

exponent_past : (u : List ℕ) → exponent u ≡ exponent (past_digits u)
unfolding exponent digits
exponent_past [] = refl
exponent_past (x ∷ s) = go (sort x) (exponent_past s)
  where
    go : Sort x → exponent s ≡ exponent (past_digits s) → exponent (x ∷ s) ≡ exponent (past_digits (x ∷ s))
    go (digit d l t) ih = rw (l, d) ih
    go (dot d l t) ih = rw d
    go (letter d l t) ih = rw d
    go (other d l t) ih = rw d

-- a text that is an exponent has nothing in front of it
mantissa_none : (r : List ℕ) → is_exponent r ≡ true → mantissa r ≡ []
unfolding is_exponent mantissa
mantissa_none [] e = refl
mantissa_none (x ∷ s) e = rw (and_left (is_e x) (are_digits (unmarked s) && leb (length (unmarked s)) 3) e)

exponent_all : (r : List ℕ) → is_exponent r ≡ true → exponent r ≡ r
unfolding is_exponent exponent
exponent_all [] e = refl
exponent_all (x ∷ s) e = rw (and_left (is_e x) (are_digits (unmarked s) && leb (length (unmarked s)) 3) e)

-- digits have no dot among them
split_end : (u : List ℕ) → split_on 46 (digits u ++ []) ≡ digits u ∷ []
unfolding split_on digits on_first
split_end [] = refl
split_end (x ∷ s) = go (sort x) (split_end s)
  where
    go : Sort x → split_on 46 (digits s ++ []) ≡ digits s ∷ [] → split_on 46 (digits (x ∷ s) ++ []) ≡ digits (x ∷ s) ∷ []
    go (digit d l t) ih = rw (d, t, ih)
    go (dot d l t) ih = rw d
    go (letter d l t) ih = rw d
    go (other d l t) ih = rw d

split_dot : (u k : List ℕ) → split_on 46 (digits u ++ (46 ∷ k)) ≡ digits u ∷ split_on 46 k
unfolding split_on digits on_first
split_dot [] k = refl
split_dot (x ∷ s) k = go (sort x) (split_dot s k)
  where
    go : Sort x → split_on 46 (digits s ++ (46 ∷ k)) ≡ digits s ∷ split_on 46 k → split_on 46 (digits (x ∷ s) ++ (46 ∷ k)) ≡ digits (x ∷ s) ∷ split_on 46 k
    go (digit d l t) ih = rw (d, t, ih)
    go (dot d l t) ih = rw d
    go (letter d l t) ih = rw d
    go (other d l t) ih = rw d

and_pair : (a b c : Bool) → ((a && b) && c) ≡ (a && (b && c))
and_pair true b c = refl
and_pair false b c = refl

-- DIGITS FROM A PLACE ON END AT ANOTHER

run_some : (s : List ℕ) (i e : ℕ) → e ≡ i + length (digits (drop i s)) → ltb i e ≡ not (is_empty (digits (drop i s)))
unfolding is_text
run_some s i e q = go (length (digits (drop i s))) q ∙ text_is (digits (drop i s))
  where
    go : (n : ℕ) → e ≡ i + n → ltb i e ≡ ltb 0 n
    go zero h = le-ltb i e (omega arith) ∙ sym (le-ltb 0 0 (omega arith))
    go (suc n) h = lt-ltb i e (omega arith) ∙ sym (lt-ltb 0 (suc n) (omega arith))

digits_within : (s : List ℕ) → length (digits s) ≤ length s
unfolding digits
digits_within [] = omega arith
digits_within (x ∷ s) = go (is_digit x) (digits_within s)
  where
    go : (t : Bool) → length (digits s) ≤ length s → length (cond t (x ∷ digits s) []) ≤ suc (length s)
    go true h = omega arith
    go false h = omega arith

pub run_within : (s : List ℕ) (i e : ℕ) → i ≤ length s → e ≡ i + length (digits (drop i s)) → e ≤ length s
run_within s i e h q = omega (arith, digits_within (drop i s), length-drop i s)

-- digits alone, with no dot after them
ending_other : (r : List ℕ) → (get_or r 0 0 ≡ 46 → ⊥) → ending r ≡ is_exponent r
unfolding ending is_exponent
ending_other [] h = refl
ending_other (x ∷ s) h = rw (ne_eqb x 46 h)

module _ (u : List ℕ) {a : ℕ} (q : a ≡ 0 + length (digits (drop 0 u))) where
  whole_is : a ≡ length (digits u)
  whole_is = omega arith

  whole_past : drop a u ≡ past_digits u
  whole_past = ap (λ (k : ℕ). drop k u) whole_is

  whole_front : take a u ≡ digits u
  whole_front = ap (λ (k : ℕ). take k u) whole_is ∙ front u

  module _ (n : get_or u a 0 ≡ 46 → ⊥) where
    plain_is : is_unsigned u ≡ (ltb 0 a && is_exponent (drop a u))
    plain_is =
        let z : a + 0 ≡ a = omega arith in
        let h : get_or (drop a u) 0 0 ≡ get_or u a 0 = get_or-drop a u 0 0 ∙ ap (λ (k : ℕ). get_or u k 0) z in
        let e : ending (drop a u) ≡ is_exponent (drop a u) = ending_other (drop a u) (λ k. n (sym h ∙ k)) in
        unsigned_past u ∙ rw (← whole_past, e, ← run_some u 0 a q)

    plain_exponent : is_unsigned u ≡ true → is_exponent (past_digits u) ≡ true
    plain_exponent g = rw (← whole_past) (and_right (ltb 0 a) (is_exponent (drop a u)) (sym plain_is ∙ g))

    plain_pieces : is_unsigned u ≡ true → split_on 46 (mantissa u) ≡ digits u ∷ []
    plain_pieces g = rw (mantissa_past u, mantissa_none (past_digits u) (plain_exponent g)) (split_end u)

    pub cut_plain : (c x : Bool) → x ≡ is_exponent (take (length u - a) (drop a u)) → c ≡ (ltb 0 a && x) → CutAt u (record { good = c; whole = a; from = a; to = a })
    cut_plain c x ex ec =
        let z : a - a ≡ 0 = omega arith in
        record {
          good = ec ∙ ap (λ (y : Bool). ltb 0 a && y) (ex ∙ ap is_exponent (to_end u a)) ∙ sym plain_is;
          first = run_within u 0 a (omega arith) q;
          starts = omega arith;
          within = run_within u 0 a (omega arith) q;
          before = λ g. rw (plain_pieces g) whole_front;
          after = λ g. rw (plain_pieces g, z);
          past = λ g. rw (exponent_past u, exponent_all (past_digits u) (plain_exponent g)) whole_past;
        }

  -- digits, a dot and digits
  module _ {c : ℕ} (d : get_or u a 0 ≡ 46) (r : c ≡ (a + 1) + length (digits (drop (a + 1) u))) where
    dot_within : a < length u
    dot_within = present u a (omega arith)

    dot_past : past_digits u ≡ 46 ∷ drop (a + 1) u
    dot_past = sym whole_past ∙ drop_step u a dot_within ∙ ap (λ (x : ℕ). x ∷ drop (a + 1) u) d

    places_past : past_digits (drop (a + 1) u) ≡ drop c u
    places_past = drop-drop (length (digits (drop (a + 1) u))) (a + 1) u ∙ ap (λ (k : ℕ). drop k u) (sym r)

    places_part : part (a + 1) c u ≡ digits (drop (a + 1) u)
    places_part =
        let z : c - (a + 1) ≡ length (digits (drop (a + 1) u)) = omega arith in
        ap (λ (k : ℕ). take k (drop (a + 1) u)) z ∙ front (drop (a + 1) u)

    dotted_is : is_unsigned u ≡ (ltb 0 a && (ltb (a + 1) c && is_exponent (drop c u)))
    unfolding ending
    dotted_is = unsigned_past u ∙ rw (dot_past, places_past, ← run_some u 0 a q, ← run_some u (a + 1) c r)

    dotted_exponent : is_unsigned u ≡ true → is_exponent (drop c u) ≡ true
    dotted_exponent g = and_right (ltb (a + 1) c) (is_exponent (drop c u)) (and_right (ltb 0 a) (ltb (a + 1) c && is_exponent (drop c u)) (sym dotted_is ∙ g))

    dotted_mantissa : is_unsigned u ≡ true → mantissa u ≡ digits u ++ (46 ∷ (digits (drop (a + 1) u) ++ []))
    unfolding mantissa is_e
    dotted_mantissa g = mantissa_past u ∙ rw (dot_past, mantissa_past (drop (a + 1) u), places_past, mantissa_none (drop c u) (dotted_exponent g))

    dotted_pieces : is_unsigned u ≡ true → split_on 46 (mantissa u) ≡ digits u ∷ digits (drop (a + 1) u) ∷ []
    dotted_pieces g = rw (dotted_mantissa g, split_dot u (digits (drop (a + 1) u) ++ []), split_end (drop (a + 1) u))

    dotted_past : is_unsigned u ≡ true → drop c u ≡ exponent u
    unfolding exponent is_e
    dotted_past g = sym (exponent_past u ∙ rw (dot_past, exponent_past (drop (a + 1) u), places_past) (exponent_all (drop c u) (dotted_exponent g)))

    pub cut_dotted :
        (b s x : Bool) → s ≡ (ltb 0 a && ltb (a + 1) c) → x ≡ is_exponent (take (length u - c) (drop c u)) → b ≡ (s && x)
        → CutAt u (record { good = b; whole = a; from = a + 1; to = c })
    cut_dotted b s x es ex eb = record {
      good = eb ∙ rw (es, ex, to_end u c) (and_pair (ltb 0 a) (ltb (a + 1) c) (is_exponent (drop c u))) ∙ sym dotted_is;
      first = run_within u 0 a (omega arith) q;
      starts = omega arith;
      within = run_within u (a + 1) c (omega (arith, dot_within)) r;
      before = λ g. rw (dotted_pieces g) whole_front;
      after = λ g. rw (dotted_pieces g) places_part;
      past = dotted_past;
    }

-- EXPONENTS

pub exponent_none : (l : List ℕ) → length l ≡ 0 → true ≡ is_exponent l
unfolding is_exponent
exponent_none [] h = refl
exponent_none (x ∷ xs) h = absurd (omega arith)

pub exponent_other : (l : List ℕ) → (length l ≡ 0 → ⊥) → is_e (get_or l 0 0) ≡ false → false ≡ is_exponent l
unfolding is_exponent
exponent_other [] h e = absurd (h refl)
exponent_other (x ∷ xs) h e = rw e

-- after the letter: the digits d, which are 1 to 3
exponent_is : (l : List ℕ) → (length l ≡ 0 → ⊥) → is_e (get_or l 0 0) ≡ true → is_exponent l ≡ (are_digits (unmarked (drop 1 l)) && leb (length (unmarked (drop 1 l))) 3)
unfolding is_exponent
exponent_is [] h e = absurd (h refl)
exponent_is (x ∷ xs) h e = rw e

module _ (l d : List ℕ) (h : length l ≡ 0 → ⊥) (e : is_e (get_or l 0 0) ≡ true) (q : d ≡ unmarked (take (length l - 1) (drop 1 l))) where
  digits_are : d ≡ unmarked (drop 1 l)
  digits_are = q ∙ ap unmarked (to_end l 1)

  pub exponent_long : 3 < length d → false ≡ is_exponent l
  exponent_long k = sym (exponent_is l h e ∙ rw (← digits_are, lt-leb (length d) 3 k) (and-false (are_digits d)))

  pub exponent_short : length d ≤ 3 → are_digits d ≡ is_exponent l
  exponent_short k = sym (exponent_is l h e ∙ rw (← digits_are, le-leb (length d) 3 k) (and-true (are_digits d)))
