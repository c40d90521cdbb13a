-- A name that is known but for its indices is its line's pattern with digits in brackets at each place, and the first that are no index have the flaw; and the
-- other way round. Assumes nothing.
use Prim.Native.Nat.{ℕ, zero, suc, ◌+◌, ◌≤◌, ◌<◌}
use mathlib.Core.Path.{◌≡◌, refl, ap, sym, ◌∙◌, subst}
use mathlib.Core.Bool.{Bool, true, false, cond}
use mathlib.Core.List.{List, [], ◌∷◌, ◌++◌}
use native.Mathlib.Omega.{arith}
use lib.Dec.{eqb, ltb}
use lib.ListN.{length, get_or, drop, length-append}
use lib.Seq.{drop-append-add, get_or-append_seam, get_or-drop}
use borrow.Author.Tests.{eq-eqb, ne_eqb, eqb-true, eqb-false, ltb-true, ltb-false}
use Rattle.std.specs.Prelude.{Ok, Err}
use Rattle.text_bytes.specs.Bytes.{all}
use Rattle.text_bytes.proofs.Laws.Tests.{and_both}
use Rattle.text_bytes.proofs.Laws.Pieces.{drop_step}
use Rattle.value_references.specs.Index.{is_digit, digits, number, index_at, flaw_in, sooner}
use Rattle.value_references.specs.declared.index.Index.{Index}
use Rattle.value_references.specs.declared.index.Index.TheVariants.{Bad, Is}
use Rattle.value_references.specs.declared.index.Flaw.{Flaw}
use Rattle.value_references.specs.declared.index.Flaw.TheVariants.{Form, Zero, Over}
use Rattle.value_references.proofs.Laws.Indices.{Bracket, index_read, index_zero, index_over, index_is}
use Rattle.book_names.specs.Names.{Piece, byte, place, Entry, kind_of, family_of, form_of, misses, on_match, fits, first_of, Found, known_as}
use Rattle.book_names.specs.Steps.{width_in, taken_in, Place, flawed, flaw_of}
use Rattle.book_names.specs.declared.Match.{Match}
use Rattle.book_names.specs.declared.Match.TheVariants.{Differs, Misses, Fits}
use Rattle.book_names.proofs.Laws.Flaws.{marked_again, on_some}
use Rattle.book_names.proofs.Laws.Turns.{on_place, place_fits}
use Rattle.book_names.proofs.Laws.Alike.{alike}
use Rattle.book_names.proofs.Laws.Known.{holes, nth}

-- the name that a pattern stands for, with these digits in brackets at its places
unfoldable pub spelled : List Piece → List (List ℕ) → List ℕ
spelled [] ds = []
spelled (byte p ∷ ps) ds = p ∷ spelled ps ds
spelled (place ∷ ps) [] = []
spelled (place ∷ ps) (d ∷ ds) = 91 ∷ (d ++ 93 ∷ spelled ps ds)

-- why digits are no index, Form where they are one
unfoldable pub digits_flaw : List ℕ → Flaw
digits_flaw d = cond (eqb (get_or d 0 0) 48) Zero (cond (ltb 64 (number 0 d)) Over Form)

-- the first flaw
unfoldable pub first_flaw : List (List ℕ) → Flaw
first_flaw [] = Form
first_flaw (d ∷ ds) = sooner (digits_flaw d) (first_flaw ds)

-- each is one digit or more, and nothing else
unfoldable pub Digits : List (List ℕ) → Type 0
Digits [] = Unit
Digits (d ∷ ds) = (1 ≤ length d) × (all is_digit d ≡ true) × Digits ds

-- a name is this pattern with digits at its places, and z is their first flaw
pub record Spelled (ps : List Piece) (s : List ℕ) (z : Flaw) : Type 0 where
  pub parts : List (List ℕ)
  pub count : length parts ≡ holes ps
  pub each : Digits parts
  pub text : s ≡ spelled ps parts
  pub flaw : z ≡ first_flaw parts

-- DIGITS at the front of a text
digits_front : (t : List ℕ) → t ≡ digits t ++ drop (length (digits t)) t
unfolding digits
digits_front [] = refl
digits_front (x ∷ t) = go (is_digit x) (digits_front t)
  where
    go : (b : Bool) → t ≡ digits t ++ drop (length (digits t)) t → x ∷ t ≡ cond b (x ∷ digits t) [] ++ drop (length (cond b (x ∷ digits t) [])) (x ∷ t)
    go true h = ap (λ (l : List ℕ). x ∷ l) h
    go false h = refl

digits_each : (t : List ℕ) → all is_digit (digits t) ≡ true
unfolding digits all
digits_each [] = refl
digits_each (x ∷ t) = go (is_digit x) refl (digits_each t)
  where
    go : (b : Bool) → is_digit x ≡ b → all is_digit (digits t) ≡ true → all is_digit (cond b (x ∷ digits t) []) ≡ true
    go true e h = rw (e, h)
    go false e h = refl

digits_first : (t : List ℕ) → 1 ≤ length (digits t) → get_or (digits t) 0 0 ≡ get_or t 0 0
unfolding digits
digits_first [] h = refl
digits_first (x ∷ t) h = go (is_digit x) h
  where
    go : (b : Bool) → 1 ≤ length (cond b (x ∷ digits t) []) → get_or (cond b (x ∷ digits t) []) 0 0 ≡ x
    go true h = refl
    go false h = absurd (omega arith)

digits_closed : (d r : List ℕ) → all is_digit d ≡ true → digits (d ++ 93 ∷ r) ≡ d
unfolding digits all
digits_closed [] r h = refl
digits_closed (x ∷ d) r h =
    let q = and_both (is_digit x) (all is_digit d) h in
    rw q.0 (ap (λ (l : List ℕ). x ∷ l) (digits_closed d r q.1))

-- A BRACKET is passed over with the flaw of its digits
pub bracket_place : (s : List ℕ) (w : ℕ) → Bracket s w → (v : ℕ) × (1 ≤ v) × Place s v w (digits_flaw (digits (drop 1 s)))
unfolding digits_flaw
bracket_place s w b = go (eqb (get_or s 1 0) 48) (ltb 64 (number 0 (digits (drop 1 s)))) refl refl
  where
    ds : List ℕ
    ds = digits (drop 1 s)

    some : 1 < 1 + length ds
    some = omega (arith, b.some, b.width)

    first : get_or ds 0 0 ≡ get_or s 1 0
    first = digits_first (drop 1 s) (omega (arith, some)) ∙ get_or-drop 1 s 0 0

    -- by what is read there
    placed : (x : Index) (f : Flaw) → index_at s ≡ x → w ≡ width_in x → 1 ≤ taken_in x → f ≡ flaw_in x → (v : ℕ) × (1 ≤ v) × Place s v w f
    placed x f q ew lo ef = (taken_in x, lo, record { width = ew ∙ sym (ap width_in q); taken = sym (ap taken_in q); flaw = ef ∙ sym (ap flaw_in q) })

    go : (t u : Bool) → eqb (get_or s 1 0) 48 ≡ t → ltb 64 (number 0 ds) ≡ u
        → (v : ℕ) × (1 ≤ v) × Place s v w (cond (eqb (get_or ds 0 0) 48) Zero (cond (ltb 64 (number 0 ds)) Over Form))
    go true u et eu =
        placed (Bad Zero (1 + length ds + 1)) _ (index_zero s b.opens (1 + length ds) refl some b.closes (eqb-true (get_or s 1 0) 48 et)) b.width (omega arith) (rw (first, et))
    go false true et eu =
        let n = eqb-false (get_or s 1 0) 48 et in
        placed (Bad Over (1 + length ds + 1)) _ (index_over s b.opens (1 + length ds) refl some b.closes n (ltb-true 64 (number 0 ds) eu)) b.width (omega arith) (rw (first, et, eu))
    go false false et eu =
        let n = eqb-false (get_or s 1 0) 48 et in
        let q = index_is s b.opens (1 + length ds) refl some b.closes n (number 0 ds) refl (ltb-false 64 (number 0 ds) eu) in
        placed (Is (number 0 ds) (1 + length ds + 1)) _ q b.width (index_read s (number 0 ds) (1 + length ds + 1) q).low (rw (first, et, eu))

-- and it is `[`, its digits, `]` and the rest
bracket_text : (s : List ℕ) (w : ℕ) → Bracket s w → s ≡ 91 ∷ (digits (drop 1 s) ++ 93 ∷ drop w s)
bracket_text [] w b = absurd (omega (arith, b.opens))
bracket_text (x ∷ t) w b =
    let n = length (digits t) in
    let m : 1 + n ≡ suc n = omega arith in
    let e : w ≡ suc (n + 1) = omega (arith, b.width) in
    let c : get_or t n 0 ≡ 93 = ap (λ (k : ℕ). get_or (x ∷ t) k 0) (sym m) ∙ b.closes in
    let r : drop n t ≡ 93 ∷ drop w (x ∷ t) = rw (drop_step t n (omega (arith, b.within)), c, e) in
    ap (λ (y : ℕ). y ∷ t) b.opens ∙ ap (λ (l : List ℕ). 91 ∷ l) (digits_front t ∙ ap (λ (l : List ℕ). digits t ++ l) r)

-- the other way round
text_bracket : (d r : List ℕ) → 1 ≤ length d → all is_digit d ≡ true → Bracket (91 ∷ (d ++ 93 ∷ r)) (1 + length d + 1)
text_bracket d r h a =
    let e = digits_closed d r a in
    let m : 1 + length d ≡ suc (length d) = omega arith in
    record {
      opens = refl;
      some = omega arith;
      width = rw e;
      closes = rw (e, m) (get_or-append_seam d 93 r 0);
      within = omega (arith, length-append d (93 ∷ r));
    }

-- THE LAW: a name that a pattern fits or misses is spelled so
pub spelled_like : (ps : List Piece) (s : List ℕ) (i j : ℕ) → (fits ps s i j ≡ Differs → ⊥) → Spelled ps s (flaw_of (fits ps s i j))
unfolding spelled first_flaw Digits holes
spelled_like =
    alike Spelled (record { parts = []; count = refl; each = tt; text = refl; flaw = refl })
    (λ p ps s z r. record { parts = r.parts; count = r.count; each = r.each; text = ap (λ (l : List ℕ). p ∷ l) r.text; flaw = r.flaw })
    (λ ps s w z b r.
    let d = digits (drop 1 s) in
    let p = bracket_place s w b in
    record {
      parts = d ∷ r.parts;
      count = ap suc r.count;
      each = (omega (arith, b.some, b.width), digits_each (drop 1 s), r.each);
      text = bracket_text s w b ∙ ap (λ (l : List ℕ). 91 ∷ (d ++ 93 ∷ l)) r.text;
      flaw = ap (λ (f : Flaw). sooner f z) (sym p.2.flaw) ∙ ap (sooner (digits_flaw d)) r.flaw;
    })

-- AND THE OTHER WAY ROUND: where there are at most two places, i and j for those read before

-- how many places an index leaves
unfoldable room : ℕ → ℕ
room zero = 1
room (suc n) = 0

-- it fits but for the flaw
Fit : List Piece → List ℕ → ℕ → ℕ → Flaw → Type 0
Fit ps s i j z = (a : ℕ) × (b : ℕ) × (fits ps s i j ≡ flawed z (Fits a b))

room_read : (v : ℕ) → 1 ≤ v → room v ≡ 0
unfolding room
room_read zero h = absurd (omega arith)
room_read (suc v) h = refl

-- one bracket more in front
fit_place : (ps : List Piece) (d r : List ℕ) (i j : ℕ) (z : Flaw) → 1 ≤ length d → all is_digit d ≡ true → 1 ≤ room i + room j
    → ((a b : ℕ) → 1 + (room a + room b) ≡ room i + room j → Fit ps r a b z) → Fit (place ∷ ps) (91 ∷ (d ++ 93 ∷ r)) i j (sooner (digits_flaw d) z)
unfolding Fit room
fit_place ps d r i j z h t o rest =
    let k = go i j o rest in (
      k.0,
      k.1,
      place_fits ps s i j ∙ on_some s v w f p.2 _ (λ (e : w ≡ 0). omega arith) ∙ ap (flawed f) k.2 ∙ marked_again f z (Fits k.0 k.1)
          ∙ ap (λ (l : List ℕ). flawed (sooner (digits_flaw l) z) (Fits k.0 k.1)) (digits_closed d r t),
    )
  where
    s : List ℕ
    s = 91 ∷ (d ++ 93 ∷ r)

    w : ℕ
    w = 1 + length d + 1

    f : Flaw
    f = digits_flaw (digits (d ++ 93 ∷ r))

    p : (v : ℕ) × (1 ≤ v) × Place s v w f
    p = bracket_place s w (text_bracket d r h t)

    v : ℕ
    v = p.0

    behind : drop w s ≡ r
    behind =
        let e : 1 + length d + 1 ≡ suc (length d + 1) = omega arith in
        ap (λ (n : ℕ). drop n s) e ∙ drop-append-add d (93 ∷ r) 1

    go : (i j : ℕ) → 1 ≤ room i + room j → ((a b : ℕ) → 1 + (room a + room b) ≡ room i + room j → Fit ps r a b z)
        → (a : ℕ) × (b : ℕ) × (on_place ps s i j v w ≡ flawed z (Fits a b))
    go zero j o rest =
        let k = rest v j (omega (arith, room_read v p.1)) in
        (k.0, k.1, ap (λ (l : List ℕ). fits ps l v j) behind ∙ k.2)
    go (suc i) zero o rest =
        let k = rest (suc i) v (omega (arith, room_read v p.1)) in
        (k.0, k.1, rw (ne_eqb (suc i) 0 (λ (e : suc i ≡ 0). omega arith), behind) k.2)
    go (suc i) (suc j) o rest = absurd (omega arith)

fit_all : (ps : List Piece) (ds : List (List ℕ)) (i j : ℕ) → length ds ≡ holes ps → Digits ds → holes ps ≤ room i + room j → Fit ps (spelled ps ds) i j (first_flaw ds)
unfolding Fit spelled first_flaw Digits holes fits
fit_all [] [] i j c e h = (i, j, refl)
fit_all [] (d ∷ ds) i j c e h = absurd (omega arith)
fit_all (byte p ∷ ps) ds i j c e h = let k = fit_all ps ds i j c e h in (k.0, k.1, rw (eq-eqb p p refl) k.2)
fit_all (place ∷ ps) [] i j c e h = absurd (omega arith)
fit_all (place ∷ ps) (d ∷ ds) i j c e h =
    fit_place ps d (spelled ps ds) i j (first_flaw ds) e.0 e.1 (omega arith)
    (λ a b q. fit_all ps ds a b (omega arith) e.2 (omega arith))

-- THE LAW: a pattern with digits at its places fits, or misses for their first flaw
pub spelled_fits : (ps : List Piece) (ds : List (List ℕ)) → holes ps ≤ 2 → length ds ≡ holes ps → Digits ds
    → (a : ℕ) × (b : ℕ) × (fits ps (spelled ps ds) 0 0 ≡ flawed (first_flaw ds) (Fits a b))
unfolding Fit room
spelled_fits ps ds h c e = fit_all ps ds 0 0 c e h

-- A TABLE: an unknown name with a flaw is so spelled by some line
pub record Misspelled (es : List Entry) (name : List ℕ) (z : Flaw) : Type 0 where
  pub line : ℕ
  pub inside : line < length es
  pub like : Spelled (form_of (nth es line)) name z

pub unknown_flaw : (es : List Entry) (name : List ℕ) (e : ℕ) (z : Flaw) → first_of e es name ≡ Err z → (z ≡ Form → ⊥) → Misspelled es name z
unfolding first_of
unknown_flaw [] name e z h n = let q : z ≡ Form = cc in absurd (n q)
unknown_flaw (x ∷ es) name e z h n = go (fits (form_of x) name 0 0) refl h (λ q. below (unknown_flaw es name (e + 1) z q n))
  where
    below : Misspelled es name z → Misspelled (x ∷ es) name z
    below m = record { line = suc m.line; inside = omega (arith, m.inside); like = m.like }

    here : fits (form_of x) name 0 0 ≡ Misses z → Misspelled (x ∷ es) name z
    here q =
        let l = spelled_like (form_of x) name 0 0 (λ (d : fits (form_of x) name 0 0 ≡ Differs). absurd (let o : ◌≡◌ {A = ℕ} 0 1 = cc in omega arith)) in
        record { line = 0; inside = omega arith; like = subst (λ (m : Match). Spelled (form_of x) name (flaw_of m)) q l }

    -- an entry that is missed for y, with w for those after it
    first : (y w : Flaw) → fits (form_of x) name 0 0 ≡ Misses y → sooner y w ≡ z → (w ≡ z → Misspelled (x ∷ es) name z) → Misspelled (x ∷ es) name z
    first Form w q s rest = rest s
    first Zero w q s rest = here (q ∙ ap Misses s)
    first Over w q s rest = here (q ∙ ap Misses s)

    after : (y : Flaw) (d : Found) → first_of (e + 1) es name ≡ d → fits (form_of x) name 0 0 ≡ Misses y → misses y d ≡ Err z
        → (first_of (e + 1) es name ≡ Err z → Misspelled (x ∷ es) name z) → Misspelled (x ∷ es) name z
    after y (Err w) r q h rest = let s : sooner y w ≡ z = cc in first y w q s (λ (k : w ≡ z). rest (r ∙ ap Err k))
    after y (Ok k) r q h rest = absurd (let o : ◌≡◌ {A = ℕ} 0 1 = cc in omega arith)

    go : (m : Match) → fits (form_of x) name 0 0 ≡ m → on_match m (first_of (e + 1) es name) (λ i j. known_as e (kind_of x) (family_of x) i j) ≡ Err z
        → (first_of (e + 1) es name ≡ Err z → Misspelled (x ∷ es) name z) → Misspelled (x ∷ es) name z
    go Differs q h rest = rest h
    go (Misses y) q h rest = after y (first_of (e + 1) es name) refl q h rest
    go (Fits i j) q h rest = absurd (let o : ◌≡◌ {A = ℕ} 0 1 = cc in omega arith)
