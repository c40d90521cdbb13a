-- No name is like two lines of a table, and so the one line that a name is like decides: its pattern with indices is found there, and with other digits it is
-- unknown for their first flaw. Assumes nothing.
use Prim.Native.Nat.{ℕ, zero, suc, ◌+◌, ◌≤◌, ◌<◌}
use mathlib.Core.Path.{◌≡◌, refl, ap, sym, ◌∙◌}
use mathlib.Core.Bool.{Bool, true, false, cond, not, ◌&&◌}
use mathlib.Core.List.{List, [], ◌∷◌}
use native.Mathlib.Omega.{arith}
use lib.Dec.{eqb}
use lib.ListN.{length, get_or, drop}
use borrow.Author.Tests.{eq-eqb, ne_eqb}
use Rattle.std.specs.Prelude.{Err}
use Rattle.text_bytes.proofs.Laws.Tests.{absurd_bool, and_both}
use Rattle.value_references.specs.declared.index.Flaw.{Flaw}
use Rattle.value_references.specs.declared.index.Flaw.TheVariants.{Form, Zero, Over}
use Rattle.value_references.specs.Index.{digits, index_at, flaw_in, sooner}
use Rattle.value_references.proofs.Laws.Indices.{Bracket, index_unopened}
use Rattle.book_names.specs.Names.{Piece, byte, place, Entry, kind_of, family_of, form_of, filled, fits, on_match, first_of, lookup_in, known_as}
use Rattle.book_names.specs.Steps.{flawed}
use Rattle.book_names.specs.declared.Match.TheVariants.{Differs, Fits}
use Rattle.book_names.proofs.Laws.Flaws.{marked_differs, on_some}
use Rattle.book_names.proofs.Laws.Turns.{place_fits}
use Rattle.book_names.proofs.Laws.Alike.{alike}
use Rattle.book_names.proofs.Laws.Lengths.{differs_or}
use Rattle.book_names.proofs.Laws.Known.{holes, Shape, filled_fits, nth}
use Rattle.book_names.proofs.Laws.Missing.{spelled, digits_flaw, first_flaw, Digits, bracket_place, spelled_fits}

-- two patterns that no text fits both: at some piece they part
unfoldable pub apart : List Piece → List Piece → Bool
apart [] [] = false
apart [] (q ∷ qs) = true
apart (p ∷ ps) [] = true
apart (byte x ∷ ps) (byte y ∷ qs) = let more = apart ps qs in cond (eqb x y) more true
apart (byte x ∷ ps) (place ∷ qs) = not (eqb x 91)
apart (place ∷ ps) (byte y ∷ qs) = not (eqb y 91)
apart (place ∷ ps) (place ∷ qs) = apart ps qs

-- one pattern against all of a table, and each of a table against those after it
unfoldable pub apart_from : List Piece → List Entry → Bool
apart_from p [] = true
apart_from p (e ∷ es) = apart p (form_of e) && apart_from p es

unfoldable pub all_apart : List Entry → Bool
all_apart [] = true
all_apart (e ∷ es) = apart_from (form_of e) es && all_apart es

not_same : (x : ℕ) → not (eqb x 91) ≡ true → x ≡ 91 → ⊥
not_same x h e = absurd_bool (rw (eq-eqb x 91 e) at h)

-- a place fits no text that does not begin with `[`
place_unopened : (ps : List Piece) (s : List ℕ) (c d : ℕ) → (get_or s 0 0 ≡ 91 → ⊥) → fits (place ∷ ps) s c d ≡ Differs
unfolding fits
place_unopened ps s c d n = rw (index_unopened s n)

-- THE STEPS, from the end of the two patterns on: where one is like a name, the other differs from it
Other : List Piece → List ℕ → Flaw → Type 0
Other ps s z = (qs : List Piece) (c d : ℕ) → apart ps qs ≡ true → fits qs s c d ≡ Differs

other_none : Other [] [] Form
unfolding Other apart fits
other_none [] c d a = absurd_bool a
other_none (byte y ∷ qs) c d a = refl
other_none (place ∷ qs) c d a = place_unopened qs [] c d (λ (e : 0 ≡ 91). omega arith)

other_byte : (p : ℕ) (ps : List Piece) (s : List ℕ) (z : Flaw) → Other ps s z → Other (byte p ∷ ps) (p ∷ s) z
unfolding Other apart fits
other_byte p ps s z h [] c d a = refl
other_byte p ps s z h (byte y ∷ qs) c d a = go (eqb p y) a
  where
    go : (t : Bool) → cond t (apart ps qs) true ≡ true → cond t (fits qs s c d) Differs ≡ Differs
    go true a = h qs c d a
    go false a = refl
other_byte p ps s z h (place ∷ qs) c d a = place_unopened qs (p ∷ s) c d (not_same p a)

other_place : (ps : List Piece) (s : List ℕ) (w : ℕ) (z : Flaw) → Bracket s w → Other ps (drop w s) z → Other (place ∷ ps) s (sooner (flaw_in (index_at s)) z)
unfolding Other apart fits
other_place ps [] w z b h qs c d a = absurd (omega (arith, b.opens))
other_place ps (x ∷ s) w z b h [] c d a = refl
other_place ps (x ∷ s) w z b h (byte y ∷ qs) c d a = rw (ne_eqb x y (λ (e : x ≡ y). not_same y a (sym e ∙ b.opens)))
other_place ps (x ∷ s) w z b h (place ∷ qs) c d a =
    let p = bracket_place (x ∷ s) w b in
    let m = digits_flaw (digits s) in
    place_fits qs (x ∷ s) c d ∙ on_some (x ∷ s) p.0 w m p.2 _ (λ (e : w ≡ 0). omega (arith, b.some)) ∙ ap (flawed m) (go p.0 (eqb c 0) (eqb d 0)) ∙ marked_differs m
  where
    go : (v : ℕ) (t u : Bool) → cond t (fits qs (drop w (x ∷ s)) v d) (cond u (fits qs (drop w (x ∷ s)) c v) Differs) ≡ Differs
    go v true u = h qs v d a
    go v false true = h qs c v a
    go v false false = refl

pub apart_alike : (ps qs : List Piece) (s : List ℕ) (i j c d : ℕ) → apart ps qs ≡ true → (fits ps s i j ≡ Differs → ⊥) → fits qs s c d ≡ Differs
unfolding Other
apart_alike ps qs s i j c d a n = alike Other other_none other_byte other_place ps s i j n qs c d a

-- THE WHOLE TABLE
from_at : (p : List Piece) (es : List Entry) (m : ℕ) → apart_from p es ≡ true → m < length es → apart p (form_of (nth es m)) ≡ true
unfolding apart_from
from_at p [] m h k = absurd (omega arith)
from_at p (e ∷ es) zero h k = (and_both (apart p (form_of e)) _ h).0
from_at p (e ∷ es) (suc m) h k = from_at p es m (and_both (apart p (form_of e)) _ h).1 (omega arith)

-- THE LINE that a name is like decides
none_like : (p : List Piece) (es : List Entry) (name : List ℕ) (e : ℕ) → apart_from p es ≡ true → (fits p name 0 0 ≡ Differs → ⊥) → first_of e es name ≡ Err Form
unfolding apart_from first_of
none_like p [] name e h n = refl
none_like p (x ∷ es) name e h n =
    let q = and_both (apart p (form_of x)) _ h in
    rw (apart_alike p (form_of x) name 0 0 0 0 q.0 n) (none_like p es name (e + 1) q.1 n)

pub only_line : (es : List Entry) (name : List ℕ) (e n : ℕ) → all_apart es ≡ true → n < length es → (fits (form_of (nth es n)) name 0 0 ≡ Differs → ⊥)
    → first_of e es name ≡ on_match (fits (form_of (nth es n)) name 0 0) (Err Form) (λ i j. known_as (e + n) (kind_of (nth es n)) (family_of (nth es n)) i j)
unfolding all_apart first_of
only_line [] name e n h l k = absurd (omega arith)
only_line (x ∷ es) name e zero h l k =
    let q = and_both (apart_from (form_of x) es) _ h in
    let z : e + 0 ≡ e = omega arith in
    rw (none_like (form_of x) es name (e + 1) q.0 k, z)
only_line (x ∷ es) name e (suc n) h l k =
    let q = and_both (apart_from (form_of x) es) _ h in
    let a = from_at (form_of x) es n q.0 (omega arith) in
    let d = differs_or (fits (form_of x) name 0 0) (λ (m : fits (form_of x) name 0 0 ≡ Differs → ⊥). k (apart_alike (form_of x) (form_of (nth es n)) name 0 0 0 0 a m)) in
    let z : e + 1 + n ≡ e + suc n = omega arith in
    rw (d, ← z) (only_line es name (e + 1) n q.1 (omega arith) k)

module _ (es : List Entry) (n : ℕ) (h : all_apart es ≡ true) (inside : n < length es) where
  -- THE LAW: a line's pattern with indices 1 to 64 written out is found at that line
  pub complete : (i j : ℕ) → Shape (holes (form_of (nth es n))) i j
      → lookup_in es (filled (form_of (nth es n)) i j) ≡ known_as n (kind_of (nth es n)) (family_of (nth es n)) i j
  complete i j s =
      let f = filled_fits (form_of (nth es n)) i j s in
      let z : 0 + n ≡ n = omega arith in
      only_line es _ 0 n h inside (λ d. absurd (let o : ◌≡◌ {A = ℕ} 0 1 = cc in omega arith)) ∙ rw (f, z)

  -- AND with digits at its places of which some are no index, it is unknown for their first flaw
  pub complete_flaw : (ds : List (List ℕ)) → holes (form_of (nth es n)) ≤ 2 → length ds ≡ holes (form_of (nth es n)) → Digits ds → (first_flaw ds ≡ Form → ⊥)
      → lookup_in es (spelled (form_of (nth es n)) ds) ≡ Err (first_flaw ds)
  complete_flaw ds few c e k =
      let f = spelled_fits (form_of (nth es n)) ds few c e in
      go (first_flaw ds) k f.0 f.1 f.2
    where
      name : List ℕ
      name = spelled (form_of (nth es n)) ds

      go : (z : Flaw) → (z ≡ Form → ⊥) → (a b : ℕ) → fits (form_of (nth es n)) name 0 0 ≡ flawed z (Fits a b) → lookup_in es name ≡ Err z
      go Form k a b q = absurd (k refl)
      go Zero k a b q = only_line es name 0 n h inside (λ d. absurd (let o : ◌≡◌ {A = ℕ} 0 1 = cc in omega arith)) ∙ rw q
      go Over k a b q = only_line es name 0 n h inside (λ d. absurd (let o : ◌≡◌ {A = ℕ} 0 1 = cc in omega arith)) ∙ rw q
