-- A known name is its line's pattern with the indices written out, each such name is known, and it has a slot of its own. Assumes nothing.
use Prim.Native.Nat.{ℕ, zero, suc, ◌+◌, ◌*◌, ◌-◌, ◌≤◌, ◌<◌}
use mathlib.Core.Path.{◌≡◌, refl, ap, sym, ◌∙◌, subst}
use mathlib.Core.Bool.{Bool, true, false, cond}
use mathlib.Core.List.{List, [], ◌∷◌, ◌++◌}
use mathlib.Core.Logic.{◌⊎◌, inl, inr, ⊎_elim}
use native.Mathlib.Nat.{eq-or-lt_of_le}
use native.Mathlib.Omega.{arith, by_contra}
use lib.Dec.{eqb}
use lib.ListN.{length, get_or, drop}
use lib.Seq.{drop-append_seam}
use borrow.Author.Tests.{eq-eqb, eqb-true, ne_eqb}
use Rattle.std.specs.Prelude.{Ok, Err}
use Rattle.value_references.specs.Index.{index_at, written}
use Rattle.value_references.specs.declared.index.Index.{Index}
use Rattle.value_references.specs.declared.index.Index.TheVariants.{Not, Bad, Is}
use Rattle.value_references.specs.declared.index.Flaw.{Flaw}
use Rattle.value_references.proofs.Laws.Indices.{index_read, index_written}
use Rattle.book_names.specs.declared.Known.{Known}
use Rattle.book_names.specs.Names.{Piece, byte, place, Entry, entry, kind_of, family_of, form_of, filled, fits, missing, on_index, misses, on_match, first_of, lookup_in, spread, start_of, among, slot_of, Found, known_as}
use Rattle.book_names.specs.declared.Match.{Match}
use Rattle.book_names.specs.declared.Match.TheVariants.{Differs, Misses, Fits}

-- what differs does not fit
pub never : {A : Type 0} {i j : ℕ} → Differs ≡ Fits i j → A
never h = let z : ◌≡◌ {A = ℕ} 0 1 = cc in absurd (omega arith)

-- nor does a name that has a flaw
flawed : {A : Type 0} (z : Flaw) (m : Match) {i j : ℕ} → missing z m ≡ Fits i j → A
flawed z Differs h = never h
flawed z (Misses w) h = let o : ◌≡◌ {A = ℕ} 0 1 = cc in absurd (omega arith)
flawed z (Fits a b) h = let o : ◌≡◌ {A = ℕ} 0 1 = cc in absurd (omega arith)

-- a test that leads to a fit was passed
both : (b : Bool) (x : Match) {i j : ℕ} → cond b x Differs ≡ Fits i j → (b ≡ true) × (x ≡ Fits i j)
both true x h = (refl, h)
both false x h = never h

pass : (b : Bool) (x y : Match) → b ≡ false → cond b x y ≡ y
pass b x y e = rw e

on_index_lem : (x : Index) (f : ℕ → ℕ → Match) {i j : ℕ} → on_index x f ≡ Fits i j → (v : ℕ) × (w : ℕ) × (x ≡ Is v w) × (f v w ≡ Fits i j)
on_index_lem Not f h = never h
on_index_lem (Bad z w) f h = flawed z (f 1 w) h
on_index_lem (Is v w) f h = (v, w, refl, h)

-- the places of a pattern
unfoldable pub holes : List Piece → ℕ
holes [] = 0
holes (byte p ∷ ps) = holes ps
holes (place ∷ ps) = suc (holes ps)

-- what the number of a pattern's places says of the two indices: 1 to 64 where there is a place, 0 where there is none
pub record Shape (h i j : ℕ) : Type 0 where
  pub few : h ≤ 2
  pub i_high : i ≤ 64
  pub i_most : i ≤ 64 * h
  pub i_least : h ≤ 2 * i
  pub j_most : j ≤ 64 * (h - 1)
  pub j_least : h - 1 ≤ j

-- FITTING gives back the name

-- no place is left: both indices were read before
fits2 : (ps : List Piece) (s : List ℕ) (a b i j : ℕ) → 1 ≤ a → 1 ≤ b → fits ps s a b ≡ Fits i j
    → (i ≡ a) × (j ≡ b) × (filled ps 0 0 ≡ s) × (holes ps ≡ 0)
unfolding fits filled holes
fits2 [] [] a b i j ha hb h = (cc, cc, refl, refl)
fits2 [] (x ∷ s) a b i j ha hb h = never h
fits2 (byte p ∷ ps) [] a b i j ha hb h = never h
fits2 (byte p ∷ ps) (x ∷ s) a b i j ha hb h =
    let q = both (eqb x p) _ h in
    let r = fits2 ps s a b i j ha hb q.1 in
    let e = eqb-true x p q.0 in
    (r.0, r.1, cc, r.3)
fits2 (place ∷ ps) s a b i j ha hb h =
    let o = on_index_lem (index_at s) _ h in
    let na : a ≡ 0 → ⊥ = λ (e : a ≡ 0). omega arith in
    let nb : b ≡ 0 → ⊥ = λ (e : b ≡ 0). omega arith in
    never (sym (pass (eqb a 0) _ _ (ne_eqb a 0 na) ∙ pass (eqb b 0) _ _ (ne_eqb b 0 nb)) ∙ o.3)

-- one place is left, or none
fits1 : (ps : List Piece) (s : List ℕ) (a i j : ℕ) → 1 ≤ a → fits ps s a 0 ≡ Fits i j
    → (i ≡ a) × (filled ps j 0 ≡ s) × (j ≤ 64 * holes ps) × (holes ps ≤ j) × (holes ps ≤ 1)
unfolding fits filled holes
fits1 [] [] a i j ha h =
    let e : 0 ≡ j = cc in
    (cc, refl, omega arith, omega arith, omega arith)
fits1 [] (x ∷ s) a i j ha h = never h
fits1 (byte p ∷ ps) [] a i j ha h = never h
fits1 (byte p ∷ ps) (x ∷ s) a i j ha h =
    let q = both (eqb x p) _ h in
    let r = fits1 ps s a i j ha q.1 in
    let e = eqb-true x p q.0 in
    (r.0, cc, r.2, r.3, r.4)
fits1 (place ∷ ps) s a i j ha h =
    let o = on_index_lem (index_at s) _ h in
    let na : a ≡ 0 → ⊥ = λ (e : a ≡ 0). omega arith in
    let g = index_read s o.0 o.1 o.2 in
    let r = fits2 ps (drop o.1 s) a o.0 i j ha g.low (sym (pass (eqb a 0) _ _ (ne_eqb a 0 na)) ∙ o.3) in
    let t = g.text in
    let lo = g.low in
    let hi = g.high in
    (r.0, cc, omega (arith, r.1, r.3, hi), omega (arith, r.1, r.3, lo), omega (arith, r.3))

-- a name that fits a pattern is the pattern with its places filled
pub fits_filled : (ps : List Piece) (s : List ℕ) (i j : ℕ) → fits ps s 0 0 ≡ Fits i j → (filled ps i j ≡ s) × Shape (holes ps) i j
unfolding fits filled holes
fits_filled [] [] i j h =
    let e : 0 ≡ i = cc in
    let f : 0 ≡ j = cc in
    (refl, omega arith)
fits_filled [] (x ∷ s) i j h = never h
fits_filled (byte p ∷ ps) [] i j h = never h
fits_filled (byte p ∷ ps) (x ∷ s) i j h =
    let q = both (eqb x p) _ h in
    let r = fits_filled ps s i j q.1 in
    let e = eqb-true x p q.0 in
    (cc, r.1)
fits_filled (place ∷ ps) s i j h =
    let o = on_index_lem (index_at s) _ h in
    let g = index_read s o.0 o.1 o.2 in
    let r = fits1 ps (drop o.1 s) o.0 i j g.low o.3 in
    let t = g.text in
    (cc, omega (arith, r.0, r.2, r.3, r.4, g.low, g.high))

-- AND THE OTHER WAY ROUND
module _ (ps : List Piece) (v : ℕ) (s : List ℕ) (lo : 1 ≤ v) (hi : v ≤ 64) where
  place_first : (b : ℕ) → fits (place ∷ ps) (written v ++ s) 0 b ≡ fits ps s v b
  unfolding fits
  place_first b = rw (index_written v s lo hi, drop-append_seam (written v) s)

  place_second : (a : ℕ) → 1 ≤ a → fits (place ∷ ps) (written v ++ s) a 0 ≡ fits ps s a v
  unfolding fits
  place_second a h =
      let n : a ≡ 0 → ⊥ = λ (e : a ≡ 0). omega arith in
      rw (index_written v s lo hi, drop-append_seam (written v) s, ne_eqb a 0 n)

byte_same : (p : ℕ) (ps : List Piece) (s : List ℕ) (a b : ℕ) → fits (byte p ∷ ps) (p ∷ s) a b ≡ fits ps s a b
unfolding fits
byte_same p ps s a b = rw (eq-eqb p p refl)

nil_fits : (a b : ℕ) → fits [] [] a b ≡ Fits a b
unfolding fits
nil_fits a b = refl

full2 : (ps : List Piece) (a b : ℕ) → holes ps ≡ 0 → fits ps (filled ps 0 0) a b ≡ Fits a b
unfolding holes filled
full2 [] a b h = nil_fits a b
full2 (byte p ∷ ps) a b h = byte_same p ps (filled ps 0 0) a b ∙ full2 ps a b h
full2 (place ∷ ps) a b h = absurd (omega arith)

full1 : (ps : List Piece) (a j : ℕ) → 1 ≤ a → holes ps ≤ 1 → holes ps ≤ j → j ≤ 64 * holes ps → fits ps (filled ps j 0) a 0 ≡ Fits a j
unfolding holes filled
full1 [] a j ha h1 h2 h3 =
    let e : 0 ≡ j = omega arith in
    subst (λ (n : ℕ). fits [] [] a 0 ≡ Fits a n) e (full2 [] a 0 refl)
full1 (byte p ∷ ps) a j ha h1 h2 h3 = byte_same p ps (filled ps j 0) a 0 ∙ full1 ps a j ha h1 h2 h3
full1 (place ∷ ps) a j ha h1 h2 h3 =
    place_second ps j (filled ps 0 0) (omega arith) (omega arith) a ha ∙ full2 ps a j (omega arith)

-- a pattern with its places filled fits, and gives back the indices
pub filled_fits : (ps : List Piece) (i j : ℕ) → Shape (holes ps) i j → fits ps (filled ps i j) 0 0 ≡ Fits i j
unfolding holes filled
filled_fits [] i j s =
    let e : 0 ≡ i = omega arith in
    let f : 0 ≡ j = omega arith in
    subst (λ (n : ℕ). fits [] [] 0 0 ≡ Fits n j) e (subst (λ (n : ℕ). fits [] [] 0 0 ≡ Fits 0 n) f (full2 [] 0 0 refl))
filled_fits (byte p ∷ ps) i j s = byte_same p ps (filled ps i j) 0 0 ∙ filled_fits ps i j s
filled_fits (place ∷ ps) i j s =
    place_first ps i (filled ps j 0) (omega arith) (omega arith) 0
    ∙ full1 ps i j (omega arith) (omega arith) (omega arith) (omega arith)

-- FOUND

-- entry n of a table, an empty one past the end
abbrev pub nth : List Entry → ℕ → Entry
nth es n = get_or es n (entry 0 0 [])

-- what is known of a name that was found at entry n
pub record At (es : List Entry) (name : List ℕ) (n k f i j : ℕ) : Type 0 where
  pub inside : n < length es
  pub kind : k ≡ kind_of (nth es n)
  pub family : f ≡ family_of (nth es n)
  pub fit : fits (form_of (nth es n)) name 0 0 ≡ Fits i j
  pub text : filled (form_of (nth es n)) i j ≡ name
  pub shape : Shape (holes (form_of (nth es n))) i j

-- what two answers know is one where they are
same_known : {a b : Known} → ◌≡◌ {A = Found} (Ok a) (Ok b) → a ≡ b
same_known h = cc

-- an entry that is missed lets a known name be known
missed_known : (z : Flaw) (d : Found) {e k f i j : ℕ} → misses z d ≡ known_as e k f i j → d ≡ known_as e k f i j
missed_known z (Err w) h = let o : ◌≡◌ {A = ℕ} 0 1 = cc in absurd (omega arith)
missed_known z (Ok k) h = h

on_match_lem : (m : Match) (d : Found) (g : ℕ → ℕ → Found) {e k f a b : ℕ} → on_match m d g ≡ known_as e k f a b
    → (d ≡ known_as e k f a b) ⊎ ((i : ℕ) × (j : ℕ) × (m ≡ Fits i j) × (g i j ≡ known_as e k f a b))
on_match_lem Differs d g h = inl h
on_match_lem (Misses z) d g h = inl (missed_known z d h)
on_match_lem (Fits i j) d g h = inr (i, j, refl, h)

-- counted from e₀
Rel : List Entry → List ℕ → ℕ → ℕ → ℕ → ℕ → ℕ → ℕ → Type 0
Rel es name e₀ e k f i j = (n : ℕ) × (e ≡ e₀ + n) × At es name n k f i j

here : (x : Entry) (es : List Entry) (name : List ℕ) (e₀ e k f i j p q : ℕ) → fits (form_of x) name 0 0 ≡ Fits p q
    → known_as e₀ (kind_of x) (family_of x) p q ≡ known_as e k f i j → Rel (x ∷ es) name e₀ e k f i j
unfolding Rel
here x es name e₀ e k f i j p q h eq =
    let s = same_known eq in
    let ee : e₀ ≡ e = ap (λ (y : Known). y.entry) s in
    let ek : kind_of x ≡ k = ap (λ (y : Known). y.kind) s in
    let ef : family_of x ≡ f = ap (λ (y : Known). y.family) s in
    let ei : p ≡ i = ap (λ (y : Known). y.i) s in
    let ej : q ≡ j = ap (λ (y : Known). y.j) s in
    let m : fits (form_of x) name 0 0 ≡ Fits i j = cc in
    let t = fits_filled (form_of x) name i j m in
    (0, omega arith, record { inside = omega arith; kind = sym ek; family = sym ef; fit = m; text = t.0; shape = t.1 })

below : (x : Entry) (es : List Entry) (name : List ℕ) (e₀ e k f i j : ℕ) → Rel es name (e₀ + 1) e k f i j → Rel (x ∷ es) name e₀ e k f i j
unfolding Rel
below x es name e₀ e k f i j r =
    let a = r.2 in (
      suc r.0,
      omega (arith, r.1),
      record {
        inside = omega (arith, a.inside);
        kind = a.kind;
        family = a.family;
        fit = a.fit;
        text = a.text;
        shape = a.shape;
      },
    )

found : (es : List Entry) (name : List ℕ) (e₀ e k f i j : ℕ) → first_of e₀ es name ≡ known_as e k f i j → Rel es name e₀ e k f i j
unfolding first_of
found [] name e₀ e k f i j h = let z : ◌≡◌ {A = ℕ} 0 1 = cc in absurd (omega arith)
found (x ∷ es) name e₀ e k f i j h =
    ⊎_elim
    (λ d. below x es name e₀ e k f i j (found es name (e₀ + 1) e k f i j d))
    (λ w. here x es name e₀ e k f i j w.0 w.1 w.2 w.3)
    (on_match_lem (fits (form_of x) name 0 0) _ _ h)

-- THE LAW: a known name is its line's pattern with the indices written out
pub known : (es : List Entry) (name : List ℕ) (e k f i j : ℕ) → lookup_in es name ≡ known_as e k f i j → At es name e k f i j
unfolding Rel
known es name e k f i j h =
    let r = found es name 0 e k f i j h in
    let en : r.0 ≡ e = omega (arith, r.1) in
    subst (λ (n : ℕ). At es name n k f i j) en r.2

-- SLOTS

-- a pattern stands for one name, for 64 with a place and for 4,096 with two
spread_none : (ps : List Piece) → holes ps ≡ 0 → spread ps ≡ 1
unfolding holes spread
spread_none [] h = refl
spread_none (byte p ∷ ps) h = spread_none ps h
spread_none (place ∷ ps) h = absurd (omega arith)

spread_one : (ps : List Piece) → holes ps ≡ 1 → spread ps ≡ 64
unfolding holes spread
spread_one [] h = absurd (omega arith)
spread_one (byte p ∷ ps) h = spread_one ps h
spread_one (place ∷ ps) h = omega (arith, spread_none ps (omega arith))

spread_two : (ps : List Piece) → holes ps ≡ 2 → spread ps ≡ 4096
unfolding holes spread
spread_two [] h = absurd (omega arith)
spread_two (byte p ∷ ps) h = spread_two ps h
spread_two (place ∷ ps) h = omega (arith, spread_one ps (omega arith))

-- the two ways to number a name among those of its pattern
pub among_one : (i j : ℕ) → j ≡ 0 → among i j ≡ i - 1
among_one i j e = rw e

pub among_two : (i j : ℕ) → 1 ≤ j → among i j ≡ (i - 1) * 64 + (j - 1)
among_two i j h =
    let n : j ≡ 0 → ⊥ = λ (e : j ≡ 0). omega arith in
    rw (ne_eqb j 0 n)

-- a name's number is below how many its pattern stands for
among_below : (ps : List Piece) (h i j : ℕ) → holes ps ≡ h → Shape h i j → among i j < spread ps
among_below ps zero i j e s = omega (arith, spread_none ps e, among_one i j (omega arith))
among_below ps (suc zero) i j e s = omega (arith, spread_one ps e, among_one i j (omega arith))
among_below ps (suc (suc zero)) i j e s = omega (arith, spread_two ps e, among_two i j (omega arith))
among_below ps (suc (suc (suc h))) i j e s = absurd (omega arith)

-- and it has the indices
same_among : (h i j i' j' : ℕ) → Shape h i j → Shape h i' j' → among i j ≡ among i' j' → (i ≡ i') × (j ≡ j')
same_among zero i j i' j' s s' q = (omega arith, omega arith)
same_among (suc zero) i j i' j' s s' q =
    let a = among_one i j (omega arith) in
    let a' = among_one i' j' (omega arith) in
    (omega arith, omega arith)
same_among (suc (suc zero)) i j i' j' s s' q =
    let a = among_two i j (omega arith) in
    let a' = among_two i' j' (omega arith) in
    (omega arith, omega arith)
same_among (suc (suc (suc h))) i j i' j' s s' q = absurd (omega arith)

-- the names of an entry end before those of a later one begin
pub start_rise : (es : List Entry) (e e' : ℕ) → e < e' → e' ≤ length es → start_of es e + spread (form_of (nth es e)) ≤ start_of es e'
unfolding start_of
start_rise [] e e' h l = absurd (omega arith)
start_rise (x ∷ es) e zero h l = absurd (omega arith)
start_rise (x ∷ es) zero (suc e') h l = omega arith
start_rise (x ∷ es) (suc e) (suc e') h l = omega (arith, start_rise es e e' (omega arith) (omega arith))

pub start_mono : (es : List Entry) (e e' : ℕ) → e ≤ e' → e' ≤ length es → start_of es e ≤ start_of es e'
start_mono es e e' h l = ⊎_elim (λ (q : e ≡ e'). omega (arith, ap (start_of es) q)) (λ (q : e < e'). omega (arith, start_rise es e e' q l)) (eq-or-lt_of_le h)

-- indices that an entry of a table takes
pub record Of (es : List Entry) (e i j : ℕ) : Type 0 where
  pub inside : e < length es
  pub shape : Shape (holes (form_of (nth es e))) i j

module _ (es : List Entry) (e i j : ℕ) (o : Of es e i j) where
  pub slot_before : (e' : ℕ) → e < e' → e' ≤ length es → slot_of es e i j < start_of es e'
  slot_before e' h l = omega (arith, among_below (form_of (nth es e)) _ i j refl o.shape, start_rise es e e' h l)

  -- the slot is below the end of all
  pub slot_inside : slot_of es e i j < start_of es (length es)
  slot_inside = slot_before (length es) o.inside (omega arith)

-- THE LAW: a slot has an entry and its indices
pub slot_apart : (es : List Entry) (e i j e' i' j' : ℕ) → Of es e i j → Of es e' i' j' → slot_of es e i j ≡ slot_of es e' i' j' → (e ≡ e') × (i ≡ i') × (j ≡ j')
slot_apart es e i j e' i' j' o o' s =
    let low : e ≤ e' = by_contra e e' (λ h. omega (arith, slot_before es e' i' j' o' e h (omega (arith, o.inside)))) in
    let high : e' ≤ e = by_contra e' e (λ h. omega (arith, slot_before es e i j o e' h (omega (arith, o'.inside)))) in
    let z : e ≡ e' = omega arith in
    let q = same_among _ i j i' j' o.shape (subst (λ (n : ℕ). Shape (holes (form_of (nth es n))) i' j') (sym z) o'.shape) (omega (arith, ap (start_of es) z)) in
    (z, q.0, q.1)

-- a known name is one of its entry
pub known_of : (es : List Entry) (name : List ℕ) (e k f i j : ℕ) → lookup_in es name ≡ known_as e k f i j → Of es e i j
known_of es name e k f i j h = let a = known es name e k f i j h in record { inside = a.inside; shape = a.shape }

-- so two known names with the same slot are equal
pub same_slot : (es : List Entry) (x y : List ℕ) (e k f i j e' k' f' i' j' : ℕ) → lookup_in es x ≡ known_as e k f i j
    → lookup_in es y ≡ known_as e' k' f' i' j' → slot_of es e i j ≡ slot_of es e' i' j' → x ≡ y
same_slot es x y e k f i j e' k' f' i' j' h h' s =
    let q = slot_apart es e i j e' i' j' (known_of es x e k f i j h) (known_of es y e' k' f' i' j' h') s in
    sym (known es x e k f i j h).text ∙ ap (λ (n : ℕ). filled (form_of (nth es n)) i j) q.0 ∙ ap (λ (n : ℕ). filled (form_of (nth es e')) n j) q.1
    ∙ ap (λ (n : ℕ). filled (form_of (nth es e')) i' n) q.2 ∙ (known es y e' k' f' i' j' h').text

-- and the slot of a known name is below the end of all
pub slot_below : (es : List Entry) (name : List ℕ) (e k f i j : ℕ) → lookup_in es name ≡ known_as e k f i j
    → (e < length es) × (slot_of es e i j < start_of es (length es))
slot_below es name e k f i j h = let o = known_of es name e k f i j h in (o.inside, slot_inside es e i j o)
