-- What the machine's state says of a text: its fields, and so whether it is a parameter. Assumes nothing.
use mathlib.Core.Path.{◌≡◌, refl, sym, ap, ◌∙◌}
use mathlib.Core.Bool.{Bool, true, false, cond, ◌&&◌, ◌||◌, not, and-false, or-false}
use mathlib.Core.List.{List, [], ◌∷◌, ◌++◌}
use Prim.Native.Nat.{ℕ, zero, suc, ◌+◌, ◌-◌, ◌≤◌, ◌<◌}
use native.Mathlib.Numerals.{add-one}
use native.Mathlib.Omega.{arith}
use borrow.Author.Tests.{eq-eqb, ne_eqb, eqb-true, lt-leb, le-leb, ltb-false}
use lib.Dec.{eqb, leb, ltb, eqb-suc-suc}
use lib.ListN.{length, take, drop, get_or, length-drop}
use lib.Seq.{take-suc, take_all, get_or-take, get_or-drop, length-take-le}
use Rattle.text_bytes.specs.Bytes.{all, on_first, is_space}
use Rattle.text_bytes.specs.Places.{part}
use Rattle.value_parameters.specs.Parameters.{turn, separates, quoted_after, cut_outside, has_fields, is_parameter}
use Rattle.value_parameters.specs.Scan.{state, start, one_more, held, step, run, good}
use Rattle.value_parameters.specs.declared.Scan.{Scan}
use Rattle.value_parameters.proofs.Laws.Scans.{part_final, run_goes, run_all}

-- WHAT IS LEFT DECIDES, GIVEN THE STATE

-- whether the third field, after n commas, holds something besides spaces
third : ℕ → List (List ℕ) → Bool
third n ps = leb n 2 && not (all is_space (get_or ps (2 - n) []))

third_past : (n : ℕ) (ps : List (List ℕ)) → 2 < n → third n ps ≡ false
unfolding third
third_past n ps h = rw (lt-leb n 2 h)

fields : ℕ → Bool → Bool → List ℕ → Bool
fields n q f x = eqb (n + length (cut_outside 44 q x)) 4 && not (quoted_after q x) && (f || third n (cut_outside 44 q x))

cut_some : (sep : ℕ) (q : Bool) (x : List ℕ) → length (cut_outside sep q x) ≡ 0 → ⊥
unfolding cut_outside on_first
cut_some sep q [] h = omega arith
cut_some sep q (b ∷ x) h = go (separates sep q b) (cut_outside sep (turn q b) x) h
  where
    go : (t : Bool) (ps : List (List ℕ)) → length (cond t ([] ∷ ps) (on_first b ps)) ≡ 0 → ⊥
    go true ps e = omega arith
    go false [] e = omega arith
    go false (p ∷ ps) e = omega arith

-- a byte that separates nothing goes into the first field
module _ (b : ℕ) (f : Bool) where
  or_more : (s a : Bool) → (f || not (s && a)) ≡ ((f || not s) || not a)
  or_more true a = rw (or-false f)
  or_more false a = go f
    where
      go : (g : Bool) → (g || true) ≡ ((g || true) || not a)
      go true = refl
      go false = refl

  inner_past : (n : ℕ) (p : List ℕ) (ps : List (List ℕ)) → 2 < n → (f || third n ((b ∷ p) ∷ ps)) ≡ (held n f b || third n (p ∷ ps))
  inner_past n p ps h = rw (third_past n ((b ∷ p) ∷ ps) h, third_past n (p ∷ ps) h, ne_eqb n 2 (λ z. omega arith), or-false f, or-false f)

  inner_third : (n : ℕ) (p : List ℕ) (ps : List (List ℕ)) → (f || third n ((b ∷ p) ∷ ps)) ≡ (held n f b || third n (p ∷ ps))
  unfolding third all is_space
  inner_third zero p ps = rw (or-false f)
  inner_third (suc zero) p ps = rw (or-false f)
  inner_third (suc (suc zero)) p ps = or_more (eqb b 32) (all is_space p)
  inner_third (suc (suc (suc n))) p ps = inner_past (suc (suc (suc n))) p ps (omega arith)

  inner_fields : (n : ℕ) (u : Bool) (ps : List (List ℕ)) → (length ps ≡ 0 → ⊥)
      → (eqb (n + length (on_first b ps)) 4 && u && (f || third n (on_first b ps))) ≡ (eqb (n + length ps) 4 && u && (held n f b || third n ps))
  unfolding on_first
  inner_fields n u [] h = absurd (h refl)
  inner_fields n u (p ∷ ps) h = rw (inner_third n p ps)

-- a comma outside marks ends the first field
comma_count : (n : ℕ) (ps : List (List ℕ)) → (length ps ≡ 0 → ⊥) → eqb (n + suc (length ps)) 4 ≡ eqb (one_more n + length ps) 4
comma_count n ps h = go (ltb n 4) refl
  where
    go : (t : Bool) → ltb n 4 ≡ t → eqb (n + suc (length ps)) 4 ≡ eqb (cond t (n + 1) n + length ps) 4
    go true e = let z : n + suc (length ps) ≡ n + 1 + length ps = omega arith in rw z
    go false e =
        let w : 4 ≤ n = ltb-false n 4 e in
        ne_eqb (n + suc (length ps)) 4 (λ z. omega arith) ∙ sym (ne_eqb (n + length ps) 4 (λ z. h (omega arith)))

more_le : (n : ℕ) → n ≤ one_more n
more_le n = go (ltb n 4)
  where
    go : (t : Bool) → n ≤ cond t (n + 1) n
    go true = omega arith
    go false = omega arith

comma_third : (n : ℕ) (ps : List (List ℕ)) → third n ([] ∷ ps) ≡ third (one_more n) ps
unfolding third all
comma_third zero ps = refl
comma_third (suc zero) ps = refl
comma_third (suc (suc zero)) ps = refl
comma_third (suc (suc (suc n))) ps =
    third_past (suc (suc (suc n))) ([] ∷ ps) (omega arith) ∙ sym (third_past (one_more (suc (suc (suc n)))) ps (omega (arith, more_le (suc (suc (suc n))))))

third_none : (n : ℕ) → third n ([] ∷ []) ≡ false
unfolding third all
third_none n = rw (nothing (2 - n)) (and-false (leb n 2))
  where
    nothing : (k : ℕ) → get_or {A = List ℕ} ([] ∷ []) k [] ≡ []
    nothing zero = refl
    nothing (suc k) = refl

verdict : (i n : ℕ) (q f : Bool) (x : List ℕ) → good (run false (state i n q f) x) ≡ fields n q f x
unfolding run fields cut_outside quoted_after
verdict i n q f [] = rw (third_none n, or-false f, add-one n, eqb-suc-suc n 3)
verdict i n q f (b ∷ x) = go (separates 44 q b) (λ m g. verdict (i + 1) m (turn q b) g x)
  where
    ps : List (List ℕ)
    ps = cut_outside 44 (turn q b) x

    go : (t : Bool)
        → ((m : ℕ) (g : Bool) → good (run false (state (i + 1) m (turn q b) g) x) ≡ (eqb (m + length ps) 4 && not (quoted_after (turn q b) x) && (g || third m ps)))
        → good (run false (state (i + 1) (cond t (one_more n) n) (turn q b) (cond t f (held n f b))) x)
        ≡ (eqb (n + length (cond t ([] ∷ ps) (on_first b ps))) 4 && not (quoted_after (turn q b) x) && (f || third n (cond t ([] ∷ ps) (on_first b ps))))
    go true ih = ih (one_more n) f ∙ rw (comma_count n ps (cut_some 44 (turn q b) x), comma_third n ps)
    go false ih = ih n (held n f b) ∙ sym (inner_fields b f n (not (quoted_after (turn q b) x)) ps (cut_some 44 (turn q b) x))

-- THE BRACKETS

-- the `]` at the end changes nothing
closing : (st : Scan) → good (step st 93) ≡ good st
closing st = go st.quoted (eqb st.commas 3) refl
  where
    go : (q t : Bool) → eqb st.commas 3 ≡ t → good (step (state st.at st.commas q st.filled) 93) ≡ good (state st.at st.commas q st.filled)
    go true t e = rw (and-false (eqb st.commas 3))
    go false true e = rw (ne_eqb st.commas 2 (λ z. omega (arith, eqb-true st.commas 3 e)), or-false st.filled)
    go false false e = rw e

-- a text by its last byte
last_byte : (z : List ℕ) (k : ℕ) → length z ≡ suc k → z ≡ take k z ++ (get_or z k 0 ∷ [])
last_byte z k h = sym (take_all (suc k) z (omega arith)) ∙ take-suc z k 0 (omega arith)

fields_are : (x : List ℕ) → fields 0 false false x ≡ has_fields x
unfolding fields third has_fields
fields_are x = let z : 0 + length (cut_outside 44 false x) ≡ length (cut_outside 44 false x) = omega arith in rw z

closed : (i : ℕ) (z : List ℕ) (k : ℕ) → length z ≡ suc k → get_or z k 0 ≡ 93 → good (run false (state i 0 false false) z) ≡ has_fields (take k z)
unfolding run
closed i z k h e =
    let st = state i 0 false false in
    ap (λ (x : List ℕ). good (run false st x)) (last_byte z k h ∙ ap (λ (b : ℕ). take k z ++ (b ∷ [])) e)
    ∙ ap good (run_goes false st (take k z) (93 ∷ []) (run_all st (take k z)))
    ∙ closing (run false st (take k z))
    ∙ verdict i 0 false false (take k z)
    ∙ fields_are (take k z)

pub first_not : (p : List ℕ) → (get_or p 0 0 ≡ 91 → ⊥) → is_parameter p ≡ false
unfolding is_parameter
first_not p h = rw (ne_eqb (get_or p 0 0) 91 h, and-false (leb 2 (length p)))

pub last_not : (p : List ℕ) → (get_or p (length p - 1) 0 ≡ 93 → ⊥) → is_parameter p ≡ false
unfolding is_parameter
last_not p h = rw (ne_eqb (get_or p (length p - 1) 0) 93 h, and-false (leb 2 (length p) && eqb (get_or p 0 0) 91))

opened : (y : ℕ) (ys : List ℕ) (i : ℕ) → get_or (y ∷ ys) (length ys) 0 ≡ 93 → is_parameter (91 ∷ (y ∷ ys)) ≡ good (run false (start i) (91 ∷ (y ∷ ys)))
unfolding is_parameter run
opened y ys i e =
    let j : suc (suc (length ys)) - 1 ≡ suc (length ys) = omega arith in
    let k : suc (length ys) - 1 ≡ length ys = omega arith in
    rw (le-leb 2 (suc (suc (length ys))) (omega arith), j, k, eq-eqb (get_or (y ∷ ys) (length ys) 0) 93 e) (sym (closed (i + 1) (y ∷ ys) (length ys) refl e))

both : (p : List ℕ) (i : ℕ) → get_or p 0 0 ≡ 91 → get_or p (length p - 1) 0 ≡ 93 → is_parameter p ≡ good (run false (start i) p)
both [] i a z = absurd (omega arith)
both (x ∷ []) i a z = absurd (omega arith)
both (x ∷ (y ∷ ys)) i a z =
    let j : suc (suc (length ys)) - 1 ≡ suc (length ys) = omega arith in
    let e : get_or (x ∷ (y ∷ ys)) (suc (length ys)) 0 ≡ 93 = ap (λ (n : ℕ). get_or (x ∷ (y ∷ ys)) n 0) (sym j) ∙ z in
    rw a (opened y ys i e)

-- A PART, by positions

module _ (l : List ℕ) (at e : ℕ) (h : at < e) (k : e ≤ length l) where
  long : length (part at e l) ≡ e - at
  long = length-take-le (e - at) (drop at l) (omega (arith, length-drop at l))

  first_byte : get_or (part at e l) 0 0 ≡ get_or l at 0
  first_byte =
      let z : at + 0 ≡ at = omega arith in
      get_or-take (e - at) (drop at l) 0 0 (omega arith) ∙ get_or-drop at l 0 0 ∙ ap (λ (j : ℕ). get_or l j 0) z

  final_byte : get_or (part at e l) (length (part at e l) - 1) 0 ≡ get_or l (e - 1) 0
  final_byte = ap (λ (n : ℕ). get_or (part at e l) (n - 1) 0) long ∙ part_final l at e h

  pub part_last : (get_or l (e - 1) 0 ≡ 93 → ⊥) → is_parameter (part at e l) ≡ false
  part_last n = last_not (part at e l) (λ z. n (sym final_byte ∙ z))

  module _ (st : Scan) (a : get_or l at 0 ≡ 91) (z : get_or l (e - 1) 0 ≡ 93) (w : st ≡ run false (start at) (part at e l)) where
    pub part_is : is_parameter (part at e l) ≡ good st
    part_is = both (part at e l) at (first_byte ∙ a) (final_byte ∙ z) ∙ ap good (sym w)
