-- One turn of the fitting of a name to a row's pattern, by cases, and what its first two bytes tell. Assumes nothing.
use Prim.Native.Nat.{ℕ, suc, ◌+◌, ◌≤◌, ◌<◌}
use mathlib.Core.Path.{◌≡◌, refl, ap, sym, ◌∙◌}
use mathlib.Core.Bool.{Bool, true, false, cond, ◌||◌}
use mathlib.Core.List.{List, [], ◌∷◌}
use native.Mathlib.Omega.{arith}
use lib.Dec.{eqb, ltb}
use lib.ListN.{length, get_or, drop, drop_of_length-le, get_or-eq_default}
use lib.Seq.{drop-drop, drop-cons}
use borrow.Author.Tests.{eq-eqb, ne_eqb, eqb-true, eqb-false, ltb-true, ltb-false}
use Rattle.text_bytes.proofs.Laws.Pieces.{drop_step}
use Rattle.value_references.specs.Index.{index_at}
use Rattle.value_references.specs.declared.index.Flaw.{Flaw}
use Rattle.value_references.proofs.Laws.Indices.{index_unopened}
use Rattle.text_bytes.proofs.Laws.Tests.{absurd_bool}
use Rattle.book_names.specs.Names.{Piece, byte, place, pieces, pieces_from, on_index, fits}
use Rattle.book_names.specs.Steps.{Place, flawed, may_fit}
use Rattle.book_names.specs.Links.{head_of}
use Rattle.book_names.specs.declared.Match.{Match}
use Rattle.book_names.specs.declared.Match.TheVariants.{Differs, Fits}
use Rattle.book_names.proofs.Laws.Flaws.{marked_differs, on_none, on_some}

-- PIECES, from a place of the row on
skip2 : (l : List ℕ) → pieces_from 2 l ≡ pieces (drop 2 l)
unfolding pieces_from
skip2 [] = refl
skip2 (x ∷ []) = refl
skip2 (x ∷ y ∷ l) = refl

module _ (p : List ℕ) (a : ℕ) where
  at_end_lem : length p ≤ a → pieces (drop a p) ≡ []
  unfolding pieces_from
  at_end_lem h = rw (drop_of_length-le p h)

  pub at_space : a < length p → get_or p a 0 ≡ 32 → pieces (drop a p) ≡ []
  unfolding pieces_from
  at_space h e = rw (drop_step p a h, eq-eqb (get_or p a 0) 32 e)

  pub at_place : a < length p → get_or p a 0 ≡ 91 → pieces (drop a p) ≡ place ∷ pieces (drop (a + 3) p)
  unfolding pieces_from
  at_place h e =
      let n : a + 1 + 2 ≡ a + 3 = omega arith in
      let s : get_or p a 0 ≡ 32 → ⊥ = λ (z : get_or p a 0 ≡ 32). omega arith in
      rw (drop_step p a h, ne_eqb (get_or p a 0) 32 s, eq-eqb (get_or p a 0) 91 e)
      (ap (λ (l : List Piece). place ∷ l) (skip2 (drop (a + 1) p) ∙ ap pieces (drop-drop 2 (a + 1) p ∙ ap (λ (k : ℕ). drop k p) n)))

  pub at_byte : a < length p → (get_or p a 0 ≡ 32 → ⊥) → (get_or p a 0 ≡ 91 → ⊥) → pieces (drop a p) ≡ byte (get_or p a 0) ∷ pieces (drop (a + 1) p)
  unfolding pieces_from
  at_byte h s n = rw (drop_step p a h, ne_eqb (get_or p a 0) 32 s, ne_eqb (get_or p a 0) 91 n)

-- FITTING: what is left of the row and of the name decides
abbrev pub rest : List ℕ → List ℕ → ℕ → ℕ → ℕ → ℕ → Match
rest p s a b i j = fits (pieces (drop a p)) (drop b s) i j

pub ended_long : (s : List ℕ) (b i j : ℕ) → b < length s → fits [] (drop b s) i j ≡ Differs
unfolding fits
ended_long s b i j h = rw (drop_step s b h)

pub ended_here : (s : List ℕ) (b i j : ℕ) → length s ≤ b → fits [] (drop b s) i j ≡ Fits i j
unfolding fits
ended_here s b i j h = rw (drop_of_length-le s h)

-- where a pattern has a place, by the index v of w bytes that stands there
abbrev pub on_place : List Piece → List ℕ → ℕ → ℕ → ℕ → ℕ → Match
on_place ps s i j v w = cond (eqb i 0) (fits ps (drop w s) v j) (cond (eqb j 0) (fits ps (drop w s) i v) Differs)

pub place_fits : (ps : List Piece) (s : List ℕ) (i j : ℕ) → fits (place ∷ ps) s i j ≡ on_index (index_at s) (on_place ps s i j)
unfolding fits
place_fits ps s i j = refl

-- a byte that is no space stands in the name
pub inside : (s : List ℕ) (b : ℕ) → (get_or s b 32 ≡ 32 → ⊥) → b < length s
inside s b n = go (ltb b (length s)) refl
  where
    go : (t : Bool) → ltb b (length s) ≡ t → b < length s
    go true h = ltb-true b (length s) h
    go false h = absurd (n (get_or-eq_default s 32 (ltb-false b (length s) h)))

byte_step : (s : List ℕ) (b : ℕ) → b < length s → drop b s ≡ get_or s b 32 ∷ drop (b + 1) s
byte_step s b h =
    let n : suc b ≡ b + 1 = omega arith in
    drop-cons s b 32 h ∙ ap (λ (k : ℕ). get_or s b 32 ∷ drop k s) n

module _ (p s : List ℕ) (a b i j : ℕ) where
  pub rest_end : length p ≤ a → rest p s a b i j ≡ fits [] (drop b s) i j
  rest_end h = rw (at_end_lem p a h)

  pub rest_space : a < length p → get_or p a 0 ≡ 32 → rest p s a b i j ≡ fits [] (drop b s) i j
  rest_space h e = rw (at_space p a h e)

  module _ (ha : a < length p) (ns : get_or p a 0 ≡ 32 → ⊥) (n : get_or p a 0 ≡ 91 → ⊥) where
    pub rest_byte : get_or s b 32 ≡ get_or p a 0 → rest p s a b i j ≡ rest p s (a + 1) (b + 1) i j
    unfolding fits
    rest_byte e =
        let h = inside s b (λ (z : get_or s b 32 ≡ 32). ns (sym e ∙ z)) in
        rw (at_byte p a ha ns n, byte_step s b h, eq-eqb (get_or s b 32) (get_or p a 0) e)

    pub rest_other : (get_or s b 32 ≡ get_or p a 0 → ⊥) → rest p s a b i j ≡ Differs
    unfolding fits
    rest_other e = rw (at_byte p a ha ns n) (go (ltb b (length s)) refl)
      where
        go : (t : Bool) → ltb b (length s) ≡ t → fits (byte (get_or p a 0) ∷ pieces (drop (a + 1) p)) (drop b s) i j ≡ Differs
        go true h = rw (byte_step s b (ltb-true b (length s) h), ne_eqb (get_or s b 32) (get_or p a 0) e)
        go false h = rw (drop_of_length-le s (ltb-false b (length s) h))

  module _ (ha : a < length p) (e : get_or p a 0 ≡ 91) (v w : ℕ) (z : Flaw) (r : Place (drop b s) v w z) where
    pub rest_none : w ≡ 0 → rest p s a b i j ≡ Differs
    rest_none h = rw (at_place p a ha e) (place_fits _ (drop b s) i j ∙ on_none (drop b s) v w z r _ h)

    module _ (h : w ≡ 0 → ⊥) where
      some : rest p s a b i j ≡ flawed z (on_place (pieces (drop (a + 3) p)) (drop b s) i j v w)
      some = rw (at_place p a ha e) (place_fits _ (drop b s) i j ∙ on_some (drop b s) v w z r _ h)

      pub rest_first : i ≡ 0 → rest p s a b i j ≡ flawed z (rest p s (a + 3) (b + w) v j)
      rest_first hi = some ∙ rw (eq-eqb i 0 hi, drop-drop w b s)

      pub rest_second : (i ≡ 0 → ⊥) → j ≡ 0 → rest p s a b i j ≡ flawed z (rest p s (a + 3) (b + w) i v)
      rest_second hi hj = some ∙ rw (ne_eqb i 0 hi, eq-eqb j 0 hj, drop-drop w b s)

      pub rest_third : (i ≡ 0 → ⊥) → (j ≡ 0 → ⊥) → rest p s a b i j ≡ Differs
      rest_third hi hj = some ∙ rw (ne_eqb i 0 hi, ne_eqb j 0 hj) (marked_differs z)

-- THE FIRST BYTES: the text that stands at a place of the row begins with the byte there
pub head_at : (p : List ℕ) (a : ℕ) → a < length p → head_of (pieces (drop a p)) ≡ get_or p a 0
unfolding head_of
head_at p a h = go (eqb (get_or p a 0) 32) (eqb (get_or p a 0) 91) refl refl
  where
    go : (s o : Bool) → eqb (get_or p a 0) 32 ≡ s → eqb (get_or p a 0) 91 ≡ o → head_of (pieces (drop a p)) ≡ get_or p a 0
    go true o es eo = let e = eqb-true (get_or p a 0) 32 es in rw (at_space p a h e) (sym e)
    go false true es eo = let e = eqb-true (get_or p a 0) 91 eo in rw (at_place p a h e) (sym e)
    go false false es eo = rw (at_byte p a h (eqb-false (get_or p a 0) 32 es) (eqb-false (get_or p a 0) 91 eo))

-- a pattern that begins with another byte than the name does not fit; the empty name counts as a space, which ends a pattern
pub head_other : (ps : List Piece) (s : List ℕ) → (head_of ps ≡ get_or s 0 32 → ⊥) → fits ps s 0 0 ≡ Differs
unfolding head_of fits
head_other [] [] n = absurd (n refl)
head_other [] (x ∷ s) n = refl
head_other (byte p ∷ ps) [] n = refl
head_other (byte p ∷ ps) (x ∷ s) n = rw (ne_eqb x p (λ (e : x ≡ p). n (sym e)))
head_other (place ∷ ps) s n = rw (index_unopened s (λ (e : get_or s 0 0 ≡ 91). n (sym (opens s e))))
  where
    opens : (s : List ℕ) → get_or s 0 0 ≡ 91 → get_or s 0 32 ≡ 91
    opens [] x = absurd (omega arith)
    opens (y ∷ s) x = x

neither : (a b : Bool) → (a || b) ≡ false → (a ≡ false) × (b ≡ false)
neither false b h = (refl, h)
neither true b h = absurd_bool (sym h)

-- the first two bytes tell most names apart
module _ (p : List ℕ) (a : ℕ) (ha : a + 1 < length p) where
  second_other : (s : List ℕ) → (get_or p a 0 ≡ 32 → ⊥) → (get_or p a 0 ≡ 91 → ⊥) → (get_or p (a + 1) 0 ≡ 32 → ⊥) → (get_or p (a + 1) 0 ≡ 91 → ⊥)
      → get_or p a 0 ≡ get_or s 0 32 → (get_or p (a + 1) 0 ≡ get_or s 1 32 → ⊥) → rest p s a 0 0 0 ≡ Differs
  second_other s s1 o1 s2 o2 e ne =
      rest_byte p s a 0 0 0 (omega arith) s1 o1 (sym e) ∙ rest_other p s (a + 1) 1 0 0 ha s2 o2 (λ (z : get_or s 1 32 ≡ get_or p (a + 1) 0). ne (sym z))

  pub may_other : (s : List ℕ) → may_fit (get_or p (a + 1) 0) (get_or s 0 32) (get_or s 1 32) ≡ false → rest p s a 0 0 0 ≡ Differs
  unfolding may_fit
  may_other s h =
      let q = get_or p (a + 1) 0 in
      let x = get_or s 0 32 in
      let n1 = neither (eqb q (get_or s 1 32)) (eqb q 91 || (eqb q 32 || (eqb x 91 || eqb x 32))) h in
      let n2 = neither (eqb q 91) (eqb q 32 || (eqb x 91 || eqb x 32)) n1.1 in
      let n3 = neither (eqb q 32) (eqb x 91 || eqb x 32) n2.1 in
      let n4 = neither (eqb x 91) (eqb x 32) n3.1 in
      go (eqb (get_or p a 0) x) refl (eqb-false q (get_or s 1 32) n1.0) (eqb-false q 91 n2.0) (eqb-false q 32 n3.0) (eqb-false x 91 n4.0) (eqb-false x 32 n4.1)
    where
      go : (t : Bool) → eqb (get_or p a 0) (get_or s 0 32) ≡ t → (get_or p (a + 1) 0 ≡ get_or s 1 32 → ⊥) → (get_or p (a + 1) 0 ≡ 91 → ⊥) → (get_or p (a + 1) 0 ≡ 32 → ⊥)
          → (get_or s 0 32 ≡ 91 → ⊥) → (get_or s 0 32 ≡ 32 → ⊥) → rest p s a 0 0 0 ≡ Differs
      go false et y o2 s2 o1 s1 =
          head_other (pieces (drop a p)) s (λ (e : head_of (pieces (drop a p)) ≡ get_or s 0 32). eqb-false (get_or p a 0) (get_or s 0 32) et (sym (head_at p a (omega arith)) ∙ e))
      go true et y o2 s2 o1 s1 =
          let e = eqb-true (get_or p a 0) (get_or s 0 32) et in
          second_other s (λ (z : get_or p a 0 ≡ 32). s1 (sym e ∙ z)) (λ (z : get_or p a 0 ≡ 91). o1 (sym e ∙ z)) s2 o2 e y
