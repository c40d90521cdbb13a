-- What the reading of an index says of the text, and the other way round: each index as it is written is read. Assumes nothing.
use Prim.Native.Nat.{ℕ, zero, suc, ◌+◌, ◌*◌, ◌-◌, ◌/◌, ◌%◌, ◌≤◌, ◌<◌}
use mathlib.Core.Path.{◌≡◌, refl, ap, sym, ◌∙◌, subst}
use mathlib.Core.Bool.{Bool, true, false, cond, ◌&&◌}
use mathlib.Core.List.{List, [], ◌∷◌, ◌++◌}
use native.Mathlib.Omega.{arith}
use lib.Dec.{eqb, leb, ltb}
use lib.ListN.{length, get_or, drop, drop_of_length-le, length-drop}
use lib.Seq.{get_or-drop}
use borrow.Author.Tests.{lt-ltb, le-ltb, le-leb, lt-leb, eq-eqb, ne_eqb, eqb-true, eqb-false, leb-true, ltb-true, ltb-false}
use Rattle.text_bytes.proofs.Laws.Pieces.{drop_step}
use Rattle.text_bytes.proofs.Laws.Tests.{and_both}
use Rattle.value_references.specs.Index.{written, is_digit, digits, more, number, bracketed, begins_zero, index_at, Run}
use Rattle.value_references.specs.declared.index.Index.{Index}
use Rattle.value_references.specs.declared.index.Index.TheVariants.{Not, Bad, Is}
use Rattle.value_references.specs.declared.index.Flaw.TheVariants.{Form, Zero, Over}

-- the text begins with the index v as it is written, w bytes
pub record Read (s : List ℕ) (v w : ℕ) : Type 0 where
  pub low : 1 ≤ v
  pub high : v ≤ 64
  pub within : w ≤ length s
  pub width : w ≡ length (written v)
  pub text : s ≡ written v ++ drop w s

-- a bracket of digits, good or bad, is the first w bytes of the text
pub record Bracket (s : List ℕ) (w : ℕ) : Type 0 where
  pub opens : get_or s 0 0 ≡ 91
  pub some : 3 ≤ w
  pub width : w ≡ 1 + length (digits (drop 1 s)) + 1
  pub closes : get_or s (1 + length (digits (drop 1 s))) 0 ≡ 93
  pub within : w ≤ length s

-- a byte that is not 0 stands inside the text
pub present : (s : List ℕ) (i : ℕ) → 1 ≤ get_or s i 0 → i < length s
present [] i h = absurd (omega arith)
present (a ∷ s) zero h = omega arith
present (a ∷ s) (suc i) h = omega (arith, present s i h)

-- WRITTEN

pub written_one : (v : ℕ) → v < 10 → written v ≡ 91 ∷ (48 + v) ∷ 93 ∷ []
unfolding written
written_one v h = rw (lt-ltb v 10 h)

pub written_two : (v : ℕ) → 10 ≤ v → written v ≡ 91 ∷ (48 + v / 10) ∷ (48 + v % 10) ∷ 93 ∷ []
unfolding written
written_two v h = rw (le-ltb v 10 h)

-- DIGITS, one by one

digit_yes : (x : ℕ) → 48 ≤ x → x ≤ 57 → is_digit x ≡ true
digit_yes x h k = rw (le-leb 48 x h, le-leb x 57 k)

pub digit_low : (x : ℕ) → x < 48 → is_digit x ≡ false
digit_low x h = rw (lt-leb 48 x h)

pub digit_else : (x : ℕ) → 48 ≤ x → leb x 57 ≡ is_digit x
digit_else x h = rw (le-leb 48 x h)

module _ (s : List ℕ) (i : ℕ) where
  pub digits_end : length s ≤ i → digits (drop i s) ≡ []
  unfolding digits
  digits_end h = rw (drop_of_length-le s h)

  pub digits_stop : i < length s → is_digit (get_or s i 0) ≡ false → digits (drop i s) ≡ []
  unfolding digits
  digits_stop h k = rw (drop_step s i h, k)

  pub digits_more : i < length s → is_digit (get_or s i 0) ≡ true → digits (drop i s) ≡ get_or s i 0 ∷ digits (drop (i + 1) s)
  unfolding digits
  digits_more h k = rw (drop_step s i h, k)

-- NUMBERS

-- digits that follow bring a number back no more
pub number_least : (n m : ℕ) (ds : List ℕ) → m ≤ n → m ≤ number n ds
unfolding number
number_least n m [] h = h
number_least n m (d ∷ ds) h = number_least (more n d) m ds (omega arith)

-- a run of digits is the front of its text
uncons_by : (b : Bool) (x d : ℕ) (r ds : List ℕ) → is_digit x ≡ b → cond b (x ∷ digits r) [] ≡ d ∷ ds
    → (x ≡ d) × (digits r ≡ ds) × (48 ≤ x) × (x ≤ 57)
uncons_by true x d r ds e h =
    let t = and_both (leb 48 x) (leb x 57) e in
    (cc, cc, leb-true 48 x t.0, leb-true x 57 t.1)
uncons_by false x d r ds e h = absurd (let z : ◌≡◌ {A = ℕ} 0 1 = cc in omega arith)

uncons : (r : List ℕ) (d : ℕ) (ds : List ℕ) → digits r ≡ d ∷ ds → (get_or r 0 0 ≡ d) × (digits (drop 1 r) ≡ ds) × (48 ≤ d) × (d ≤ 57)
unfolding digits
uncons [] d ds h = absurd (let z : ◌≡◌ {A = ℕ} 0 1 = cc in omega arith)
uncons (x ∷ r) d ds h =
    let u = uncons_by (is_digit x) x d r ds refl h in
    let e = u.0 in
    (e, u.1, omega (arith, u.0, u.2), omega (arith, u.0, u.3))

front3 : (s : List ℕ) → 3 ≤ length s → s ≡ get_or s 0 0 ∷ get_or s 1 0 ∷ get_or s 2 0 ∷ drop 3 s
front3 [] h = absurd (omega arith)
front3 (a ∷ []) h = absurd (omega arith)
front3 (a ∷ b ∷ []) h = absurd (omega arith)
front3 (a ∷ b ∷ c ∷ r) h = refl

front4 : (s : List ℕ) → 4 ≤ length s → s ≡ get_or s 0 0 ∷ get_or s 1 0 ∷ get_or s 2 0 ∷ get_or s 3 0 ∷ drop 4 s
front4 [] h = absurd (omega arith)
front4 (a ∷ []) h = absurd (omega arith)
front4 (a ∷ b ∷ []) h = absurd (omega arith)
front4 (a ∷ b ∷ c ∷ []) h = absurd (omega arith)
front4 (a ∷ b ∷ c ∷ d ∷ r) h = refl

short : (s : List ℕ) (v d : ℕ) → get_or s 0 0 ≡ 91 → get_or s 1 0 ≡ d → 49 ≤ d → d ≤ 57 → v ≡ d - 48 → get_or s 2 0 ≡ 93 → Read s v 3
short s v d h0 h1 lo hi e h2 =
    let n : 2 < length s = present s 2 (omega arith) in
    let lt : v < 10 = omega arith in
    let f : get_or s 1 0 ≡ 48 + v = omega arith in
    record {
      low = omega arith;
      high = omega arith;
      within = omega arith;
      width = rw (written_one v lt);
      text = front3 s n ∙ rw (written_one v lt, h0, f, h2);
    }

long : (s : List ℕ) (v d f : ℕ) → get_or s 0 0 ≡ 91 → get_or s 1 0 ≡ d → get_or s 2 0 ≡ f → 49 ≤ d → d ≤ 57 → 48 ≤ f → f ≤ 57
    → v ≡ (d - 48) * 10 + (f - 48) → v ≤ 64 → get_or s 3 0 ≡ 93 → Read s v 4
long s v d f h0 hd hf d1 d2 f1 f2 e m h3 =
    let n : 3 < length s = present s 3 (omega arith) in
    let le : 10 ≤ v = omega arith in
    let g1 : get_or s 1 0 ≡ 48 + v / 10 = omega arith in
    let g2 : get_or s 2 0 ≡ 48 + v % 10 = omega arith in
    record {
      low = omega arith;
      high = m;
      within = omega arith;
      width = rw (written_two v le);
      text = front4 s n ∙ rw (written_two v le, h0, g1, g2, h3);
    }

-- no number of three digits is an index
three_digits : (d f g : ℕ) → 49 ≤ d → 65 ≤ more (more (more 0 d) f) g
three_digits d f g h = omega arith

-- A RUN of digits behind the first byte, of which the first is not zero

-- each is a digit that stands in the text
pub digits_at : (t : List ℕ) (k : ℕ) → k < length (digits t) → (k < length t) × (48 ≤ get_or t k 0) × (get_or t k 0 ≤ 57)
unfolding digits
digits_at [] k h = absurd (omega arith)
digits_at (x ∷ t) k h = go (is_digit x) refl k h (digits_at t)
  where
    go : (b : Bool) → is_digit x ≡ b → (k : ℕ) → k < length (cond b (x ∷ digits t) [])
        → ((k : ℕ) → k < length (digits t) → (k < length t) × (48 ≤ get_or t k 0) × (get_or t k 0 ≤ 57))
        → (k < suc (length t)) × (48 ≤ get_or (x ∷ t) k 0) × (get_or (x ∷ t) k 0 ≤ 57)
    go true e zero h rest =
        let d = and_both (leb 48 x) (leb x 57) e in
        (omega arith, leb-true 48 x d.0, leb-true x 57 d.1)
    go true e (suc k) h rest = let r = rest k (omega arith) in (omega (arith, r.0), r.1, r.2)
    go false e k h rest = absurd (omega arith)

module _ (s : List ℕ) (e : ℕ) (r : Run s e) where
  run_digit : (k : ℕ) → 1 + k < e → (1 + k < length s) × (48 ≤ get_or s (1 + k) 0) × (get_or s (1 + k) 0 ≤ 57)
  run_digit k h =
      let d = digits_at (drop 1 s) k (omega (arith, r.ends)) in
      let g = get_or-drop 1 s k 0 in
      (omega (arith, d.0, length-drop 1 s), omega (arith, d.1, g), omega (arith, d.2, g))

  pub run_first : (1 < length s) × (48 ≤ get_or s 1 0) × (get_or s 1 0 ≤ 57)
  run_first = run_digit 0 (omega (arith, r.some))

  pub run_second : 3 ≤ e → (2 < length s) × (48 ≤ get_or s 2 0) × (get_or s 2 0 ≤ 57)
  run_second h = run_digit 1 (omega arith)

  pub run_one : e < 3 → get_or s 1 0 - 48 ≡ number 0 (digits (drop 1 s))
  unfolding number
  run_one h = go (digits (drop 1 s)) refl r.ends
    where
      go : (ds : List ℕ) → digits (drop 1 s) ≡ ds → e ≡ 1 + length ds → get_or s 1 0 - 48 ≡ number 0 ds
      go [] q l = absurd (omega (arith, r.some))
      go (d ∷ []) q l = omega (arith, (uncons (drop 1 s) d [] q).0, get_or-drop 1 s 0 0)
      go (d ∷ f ∷ ds) q l = absurd (omega arith)

  pub run_two : 3 ≤ e → e ≤ 3 → (get_or s 1 0 - 48) * 10 + (get_or s 2 0 - 48) ≡ number 0 (digits (drop 1 s))
  unfolding number
  run_two h k = go (digits (drop 1 s)) refl r.ends
    where
      go : (ds : List ℕ) → digits (drop 1 s) ≡ ds → e ≡ 1 + length ds → (get_or s 1 0 - 48) * 10 + (get_or s 2 0 - 48) ≡ number 0 ds
      go [] q l = absurd (omega arith)
      go (d ∷ []) q l = absurd (omega arith)
      go (d ∷ f ∷ []) q l =
          let u = uncons (drop 1 s) d (f ∷ []) q in
          let v = uncons (drop 1 (drop 1 s)) f [] u.1 in
          omega (arith, u.0, v.0, get_or-drop 1 s 0 0, get_or-drop 1 (drop 1 s) 0 0, get_or-drop 1 s 1 0)
      go (d ∷ f ∷ g ∷ ds) q l = absurd (omega arith)

  pub run_long : 3 < e → 64 < number 0 (digits (drop 1 s))
  unfolding number
  run_long h = go (digits (drop 1 s)) refl r.ends
    where
      least : (d : ℕ) → 48 ≤ d → (d ≡ 48 → ⊥) → 49 ≤ d
      least d h n = omega arith

      go : (ds : List ℕ) → digits (drop 1 s) ≡ ds → e ≡ 1 + length ds → 64 < number 0 ds
      go [] q l = absurd (omega arith)
      go (d ∷ []) q l = absurd (omega arith)
      go (d ∷ f ∷ []) q l = absurd (omega arith)
      go (d ∷ f ∷ g ∷ ds) q l =
          let u = uncons (drop 1 s) d (f ∷ g ∷ ds) q in
          let lo = least d u.2 (λ (x : d ≡ 48). r.first (sym (get_or-drop 1 s 0 0) ∙ u.0 ∙ x)) in
          number_least (more (more (more 0 d) f) g) 65 ds (three_digits d f g lo)

-- the text of an index, by its digits
by_digits : (s ds : List ℕ) → get_or s 0 0 ≡ 91 → digits (drop 1 s) ≡ ds → 1 ≤ length ds → (get_or s 1 0 ≡ 48 → ⊥)
    → get_or s (1 + length ds) 0 ≡ 93 → number 0 ds ≤ 64 → Read s (number 0 ds) (1 + length ds + 1)
unfolding number
by_digits s [] h0 e h n c m = absurd (omega arith)
by_digits s (d ∷ ds) h0 e h n c m =
    let u = uncons (drop 1 s) d ds e in
    let dd : get_or s 1 0 ≡ d = sym (get_or-drop 1 s 0 0) ∙ u.0 in
    let lo : 49 ≤ d = omega (arith, least d u.2 (λ (x : d ≡ 48). n (dd ∙ x))) in
    go ds dd lo u.1 u.3 c m
  where
    least : (d : ℕ) → 48 ≤ d → (d ≡ 48 → ⊥) → 49 ≤ d
    least d h n = omega arith

    go : (ds : List ℕ) → get_or s 1 0 ≡ d → 49 ≤ d → digits (drop 1 (drop 1 s)) ≡ ds → d ≤ 57
        → get_or s (1 + suc (length ds)) 0 ≡ 93 → number (more 0 d) ds ≤ 64 → Read s (number (more 0 d) ds) (1 + suc (length ds) + 1)
    go [] dd lo e hi c m = short s (more 0 d) d h0 dd lo hi (omega arith) c
    go (f ∷ []) dd lo e hi c m =
        let v = uncons (drop 1 (drop 1 s)) f [] e in
        let ff : get_or s 2 0 ≡ f = sym (get_or-drop 1 (drop 1 s) 0 0 ∙ get_or-drop 1 s 1 0) ∙ v.0 in
        long s (more (more 0 d) f) d f h0 dd ff lo hi v.2 v.3 (omega arith) m c
    go (f ∷ g ∷ ds) dd lo e hi c m = absurd (omega (arith, number_least (more (more (more 0 d) f) g) 65 ds (three_digits d f g lo)))

-- THE TESTS, one after the other
module _ (s : List ℕ) where
  pub index_unopened : (get_or s 0 0 ≡ 91 → ⊥) → index_at s ≡ Not
  unfolding index_at bracketed
  index_unopened h = rw (ne_eqb (get_or s 0 0) 91 h)

  module _ (opens : get_or s 0 0 ≡ 91) (e : ℕ) (ends : e ≡ 1 + length (digits (drop 1 s))) where
    pub index_undigited : e ≤ 1 → index_at s ≡ Not
    unfolding index_at bracketed
    index_undigited h = rw (← ends, eq-eqb (get_or s 0 0) 91 opens, le-ltb 1 e h)

    module _ (some : 1 < e) where
      pub index_unclosed : (get_or s e 0 ≡ 93 → ⊥) → index_at s ≡ Not
      unfolding index_at bracketed
      index_unclosed h = rw (← ends, eq-eqb (get_or s 0 0) 91 opens, lt-ltb 1 e some, ne_eqb (get_or s e 0) 93 h)

      module _ (closes : get_or s e 0 ≡ 93) where
        brackets : bracketed s ≡ true
        unfolding bracketed
        brackets = rw (← ends, eq-eqb (get_or s 0 0) 91 opens, lt-ltb 1 e some, eq-eqb (get_or s e 0) 93 closes)

        pub index_zero : get_or s 1 0 ≡ 48 → index_at s ≡ Bad Zero (e + 1)
        unfolding index_at
        index_zero first = rw (brackets, eq-eqb (get_or s 1 0) 48 first, ← ends)

        module _ (first : get_or s 1 0 ≡ 48 → ⊥) where
          pub index_over : 64 < number 0 (digits (drop 1 s)) → index_at s ≡ Bad Over (e + 1)
          unfolding index_at
          index_over h = rw (brackets, ne_eqb (get_or s 1 0) 48 first, ← ends, lt-ltb 64 (number 0 (digits (drop 1 s))) h)

          pub index_is : (n : ℕ) → n ≡ number 0 (digits (drop 1 s)) → n ≤ 64 → index_at s ≡ Is n (e + 1)
          unfolding index_at
          index_is n is h = rw (brackets, ne_eqb (get_or s 1 0) 48 first, ← is, ← ends, le-ltb 64 n h)

-- WHAT IS READ is a bracket of digits, and an index as it is written or bad for a reason
unfoldable pub Holds : List ℕ → Index → Type 0
Holds s Not = Unit
Holds s (Bad z w) = Bracket s w × (z ≡ Form → ⊥)
Holds s (Is v w) = Bracket s w × Read s v w

bracket : (s : List ℕ) → bracketed s ≡ true → Bracket s (1 + length (digits (drop 1 s)) + 1)
unfolding bracketed
bracket s e =
    let n = 1 + length (digits (drop 1 s)) in
    let p = and_both (eqb (get_or s 0 0) 91 && ltb 1 n) _ e in
    let r = and_both (eqb (get_or s 0 0) 91) _ p.0 in
    let c = eqb-true (get_or s n 0) 93 p.1 in
    record {
      opens = eqb-true (get_or s 0 0) 91 r.0;
      some = omega (arith, ltb-true 1 n r.1);
      width = refl;
      closes = c;
      within = omega (arith, present s n (omega arith));
    }

pub index_holds : (s : List ℕ) (x : Index) → index_at s ≡ x → Holds s x
unfolding index_at Holds
index_holds s x h = subst (Holds s) h (go (bracketed s) (begins_zero s) (ltb 64 (number 0 ds)) refl refl refl)
  where
    ds : List ℕ
    ds = digits (drop 1 s)

    go : (a b c : Bool) → bracketed s ≡ a → begins_zero s ≡ b → ltb 64 (number 0 ds) ≡ c
        → Holds s (cond a (cond b (Bad Zero (1 + length ds + 1)) (cond c (Bad Over (1 + length ds + 1)) (Is (number 0 ds) (1 + length ds + 1)))) Not)
    go false b c ea eb ec = tt
    go true true c ea eb ec = (bracket s ea, λ z. absurd (let o : ◌≡◌ {A = ℕ} 0 1 = cc in omega arith))
    go true false true ea eb ec = (bracket s ea, λ z. absurd (let o : ◌≡◌ {A = ℕ} 0 1 = cc in omega arith))
    go true false false ea eb ec =
        let b = bracket s ea in
        (b, by_digits s ds b.opens refl (omega (arith, b.some)) (eqb-false (get_or s 1 0) 48 eb) b.closes (ltb-false 64 (number 0 ds) ec))

pub index_read : (s : List ℕ) (v w : ℕ) → index_at s ≡ Is v w → Read s v w
unfolding Holds
index_read s v w h = (index_holds s (Is v w) h).1

-- AND AN INDEX AS IT IS WRITTEN IS READ
digits_one : (x : ℕ) (r : List ℕ) → 48 ≤ x → x ≤ 57 → digits (x ∷ 93 ∷ r) ≡ x ∷ []
unfolding digits
digits_one x r lo hi = rw (digit_yes x lo hi)

digits_two : (x y : ℕ) (r : List ℕ) → 48 ≤ x → x ≤ 57 → 48 ≤ y → y ≤ 57 → digits (x ∷ y ∷ 93 ∷ r) ≡ x ∷ y ∷ []
unfolding digits
digits_two x y r lo hi lo' hi' = rw (digit_yes x lo hi, digit_yes y lo' hi')

pub index_written : (v : ℕ) (r : List ℕ) → 1 ≤ v → v ≤ 64 → index_at (written v ++ r) ≡ Is v (length (written v))
unfolding number
index_written v r lo hi = go (ltb v 10) refl
  where
    -- by the text, its digits, and the number that they write
    from : (s ds : List ℕ) (e : ℕ) → get_or s 0 0 ≡ 91 → digits (drop 1 s) ≡ ds → e ≡ 1 + length ds → 1 < e → get_or s e 0 ≡ 93
        → (get_or s 1 0 ≡ 48 → ⊥) → v ≡ number 0 ds → index_at s ≡ Is v (e + 1)
    from s ds e h0 d he some he' first is =
        index_is s h0 e (he ∙ ap (λ (l : List ℕ). 1 + length l) (sym d)) some he' first v
        (is ∙ ap (number 0) (sym d)) hi

    one_digit : v ≡ number 0 ((48 + v) ∷ [])
    one_digit = omega arith

    two_digits : v ≡ number 0 ((48 + v / 10) ∷ (48 + v % 10) ∷ [])
    two_digits = omega arith

    go : (b : Bool) → ltb v 10 ≡ b → index_at (written v ++ r) ≡ Is v (length (written v))
    go true e =
        let t = ltb-true v 10 e in
        rw (written_one v t)
        (from (91 ∷ (48 + v) ∷ 93 ∷ r) ((48 + v) ∷ []) 2 refl (digits_one (48 + v) r (omega arith) (omega arith)) refl (omega arith) refl
        (λ (x : 48 + v ≡ 48). omega arith) one_digit)
    go false e =
        let t = ltb-false v 10 e in
        rw (written_two v t)
        (from (91 ∷ (48 + v / 10) ∷ (48 + v % 10) ∷ 93 ∷ r) ((48 + v / 10) ∷ (48 + v % 10) ∷ []) 3 refl
        (digits_two (48 + v / 10) (48 + v % 10) r (omega arith) (omega arith) (omega arith) (omega arith)) refl (omega arith) refl
        (λ (x : 48 + v / 10 ≡ 48). omega arith) two_digits)
