-- How long a name is that is like a pattern: at least as long as its text, and its form's text is just as long. Assumes nothing.
use Prim.Native.Nat.{ℕ, zero, suc, ◌+◌, ◌*◌, ◌-◌, ◌≤◌, ◌<◌}
use mathlib.Core.Path.{◌≡◌, refl, ap, sym, ◌∙◌}
use mathlib.Core.Bool.{Bool, true, false, cond, or-true}
use mathlib.Core.List.{List, [], ◌∷◌}
use native.Mathlib.Omega.{arith}
use lib.Dec.{eqb, leb}
use lib.ListN.{length, get_or, drop, length-drop, drop_of_length-le}
use lib.Seq.{drop-drop, get_or-drop}
use borrow.Author.Tests.{eq-eqb, ne_eqb, eqb-true, eqb-false, leb-true}
use Rattle.std.specs.Prelude.{Err}
use Rattle.text_bytes.specs.Bytes.{all}
use Rattle.text_bytes.specs.Places.{up_to, Ends}
use Rattle.text_bytes.proofs.Laws.Tests.{and_both}
use Rattle.text_bytes.proofs.Laws.Pieces.{drop_step}
use Rattle.value_references.specs.Index.{is_digit, digits}
use Rattle.value_references.specs.declared.index.Flaw.TheVariants.{Form}
use Rattle.value_references.proofs.Laws.Indices.{Bracket}
use Rattle.book_names.specs.Names.{Piece, byte, place, pieces_from, Entry, form_of, fits, first_of}
use Rattle.book_names.specs.Steps.{extent, close_at}
use Rattle.book_names.specs.declared.Match.{Match}
use Rattle.book_names.specs.declared.Match.TheVariants.{Differs, Misses, Fits}
use Rattle.book_names.proofs.Laws.Turns.{inside}
use Rattle.book_names.proofs.Laws.Alike.{alike}

-- the bytes of a pattern's text: three for a place, which is written `[n]`
unfoldable pub text_of : List Piece → ℕ
text_of [] = 0
text_of (byte p ∷ ps) = suc (text_of ps)
text_of (place ∷ ps) = suc (2 + text_of ps)

-- a name is no shorter than the text that it is like
pub text_least : (ps : List Piece) (s : List ℕ) (i j : ℕ) → (fits ps s i j ≡ Differs → ⊥) → text_of ps ≤ length s
unfolding text_of
text_least =
    alike (λ ps s z. text_of ps ≤ length s) (omega arith) (λ p ps s z h. omega (arith, h))
    (λ ps s w z b h. omega (arith, h, b.some, b.within, length-drop w s))

-- either a name differs or it does not
pub differs_or : (m : Match) → ((m ≡ Differs → ⊥) → ⊥) → m ≡ Differs
differs_or Differs h = refl
differs_or (Misses z) h = absurd (h (λ e. let o : ◌≡◌ {A = ℕ} 0 1 = cc in omega arith))
differs_or (Fits i j) h = absurd (h (λ e. let o : ◌≡◌ {A = ℕ} 0 1 = cc in omega arith))

-- A NAME shorter than the text
short_text : (ps : List Piece) (name : List ℕ) → length name < text_of ps → fits ps name 0 0 ≡ Differs
short_text ps name h = differs_or (fits ps name 0 0) (λ n. omega (arith, text_least ps name 0 0 n, h))

-- a table in which no name has fewer than three bytes
unfoldable pub is_long : Entry → Bool
is_long x = leb 3 (text_of (form_of x))

pub first_short : (e : ℕ) (xs : List Entry) (name : List ℕ) → all is_long xs ≡ true → length name < 3 → first_of e xs name ≡ Err Form
unfolding first_of all is_long
first_short e [] name h l = refl
first_short e (x ∷ xs) name h l =
    let q = and_both (is_long x) (all is_long xs) h in
    rw (short_text (form_of x) name (omega (arith, leb-true 3 (text_of (form_of x)) q.0))) (first_short (e + 1) xs name q.1 l)

-- THE TEXT OF A NAME'S FORM

-- no byte of a pattern is `[`: it begins a place
unfoldable pub Plain : List Piece → Type 0
Plain [] = Unit
Plain (byte x ∷ ps) = (x ≡ 91 → ⊥) × Plain ps
Plain (place ∷ ps) = Plain ps

pub pieces_plain : (k : ℕ) (l : List ℕ) → Plain (pieces_from k l)
unfolding Plain pieces_from
pieces_plain zero [] = tt
pieces_plain (suc k) [] = tt
pieces_plain zero (x ∷ l) = go (eqb x 32) (eqb x 91) refl (pieces_plain 2 l) (pieces_plain 0 l)
  where
    go : (s o : Bool) → eqb x 91 ≡ o → Plain (pieces_from 2 l) → Plain (pieces_from 0 l) → Plain (cond s [] (cond o (place ∷ pieces_from 2 l) (byte x ∷ pieces_from 0 l)))
    go true o e a b = tt
    go false true e a b = a
    go false false e a b = (eqb-false x 91 e, b)
pieces_plain (suc k) (x ∷ l) = pieces_plain k l

extent_byte : (x : ℕ) (s : List ℕ) → (x ≡ 91 → ⊥) → extent false (x ∷ s) ≡ suc (extent false s)
unfolding extent
extent_byte x s n = rw (ne_eqb x 91 n) (omega arith)

-- digits behind `[` count none
extent_digits : (t : List ℕ) → extent true t ≡ extent true (drop (length (digits t)) t)
unfolding extent digits
extent_digits [] = refl
extent_digits (x ∷ t) = go (is_digit x) refl (extent_digits t)
  where
    go : (b : Bool) → is_digit x ≡ b → extent true t ≡ extent true (drop (length (digits t)) t)
        → extent true (x ∷ t) ≡ extent true (drop (length (cond b (x ∷ digits t) [])) (x ∷ t))
    go true e h = rw (e, or-true (eqb x 91)) (omega (arith, h))
    go false e h = refl

-- and `]` behind them two
extent_close : (t : List ℕ) (n : ℕ) → n < length t → get_or t n 0 ≡ 93 → extent true (drop n t) ≡ 2 + extent false (drop (n + 1) t)
unfolding extent
extent_close t n h e = rw (drop_step t n h, e)

extent_bracket : (s : List ℕ) (w : ℕ) → Bracket s w → extent false s ≡ suc (2 + extent false (drop w s))
unfolding extent
extent_bracket [] w b = absurd (omega (arith, b.opens))
extent_bracket (x ∷ t) w b =
    let n = length (digits t) in
    let m : 1 + n ≡ suc n = omega arith in
    let e : w ≡ suc (n + 1) = omega (arith, b.width) in
    let c : get_or t n 0 ≡ 93 = ap (λ (k : ℕ). get_or (x ∷ t) k 0) (sym m) ∙ b.closes in
    let r = extent_digits t ∙ extent_close t n (omega (arith, b.within)) c in
    rw (eq-eqb x 91 b.opens, e) (omega (arith, r))

-- ONE BRACKET AFTER THE OTHER

-- the bytes before `[` count one each
extent_plain : (s : List ℕ) → extent false s ≡ up_to 91 s + extent false (drop (up_to 91 s) s)
unfolding extent up_to
extent_plain [] = refl
extent_plain (x ∷ s) = go (eqb x 91) refl (extent_plain s)
  where
    go : (t : Bool) → eqb x 91 ≡ t → extent false s ≡ up_to 91 s + extent false (drop (up_to 91 s) s)
        → extent false (x ∷ s) ≡ cond t 0 (suc (up_to 91 s)) + extent false (drop (cond t 0 (suc (up_to 91 s))) (x ∷ s))
    go true e h = omega arith
    go false e h = extent_byte x s (eqb-false x 91 e) ∙ omega (arith, h)

up_to_stands : (b : ℕ) (s : List ℕ) → up_to b s < length s → get_or s (up_to b s) 0 ≡ b
unfolding up_to
up_to_stands b [] h = absurd (omega arith)
up_to_stands b (x ∷ s) h = go (eqb x b) refl h (up_to_stands b s)
  where
    go : (t : Bool) → eqb x b ≡ t → cond t 0 (suc (up_to b s)) < suc (length s) → (up_to b s < length s → get_or s (up_to b s) 0 ≡ b)
        → get_or (x ∷ s) (cond t 0 (suc (up_to b s))) 0 ≡ b
    go true e h rest = eqb-true x b e
    go false e h rest = rest (omega arith)

-- behind the digits stands no digit
digits_after : (t : List ℕ) → digits (drop (length (digits t)) t) ≡ []
unfolding digits
digits_after [] = refl
digits_after (x ∷ t) = go (is_digit x) refl (digits_after t)
  where
    go : (b : Bool) → is_digit x ≡ b → digits (drop (length (digits t)) t) ≡ [] → digits (drop (length (cond b (x ∷ digits t) [])) (x ∷ t)) ≡ []
    go true e h = h
    go false e h = rw e

digits_fit : (t : List ℕ) → length (digits t) ≤ length t
unfolding digits
digits_fit [] = omega arith
digits_fit (x ∷ t) = go (is_digit x) (digits_fit t)
  where
    go : (b : Bool) → length (digits t) ≤ length t → length (cond b (x ∷ digits t) []) ≤ suc (length t)
    go true h = omega arith
    go false h = omega arith

-- what stands there: `]`, or a byte that counts as it does anywhere
extent_after : (t : List ℕ) → digits t ≡ [] → extent true t ≡ 2 * close_at t 0 + extent false (drop (close_at t 0) t)
unfolding extent digits
extent_after [] h = refl
extent_after (x ∷ t) h = go (is_digit x) (eqb x 93) refl refl h
  where
    go : (b c : Bool) → is_digit x ≡ b → eqb x 93 ≡ c → cond b (x ∷ digits t) [] ≡ [] → extent true (x ∷ t) ≡ 2 * cond c 1 0 + extent false (drop (cond c 1 0) (x ∷ t))
    go true c eb ec h = absurd (let o : ◌≡◌ {A = ℕ} 0 1 = cc in omega arith)
    go false true eb ec h =
        let e = eqb-true x 93 ec in
        rw (eb, ec, ne_eqb x 91 (λ (z : x ≡ 91). omega arith))
    go false false eb ec h = rw (eb, ec) (omega arith)

-- up to the next `[`, or to the end
to_bracket : (s : List ℕ) (at e : ℕ) → Ends 91 s at e → extent false (drop at s) ≡ (e - at) + extent false (drop e s)
to_bracket s at e f =
    let u = up_to 91 (drop at s) in
    let x : extent false (drop u (drop at s)) ≡ extent false (drop e s) = ap (extent false) (drop-drop u at s ∙ ap (λ (k : ℕ). drop k s) (sym f.at)) in
    omega (arith, extent_plain (drop at s), x, f.at, f.starts)

bracket_stands : (s : List ℕ) (at e : ℕ) → Ends 91 s at e → e < length s → get_or s e 0 ≡ 91
bracket_stands s at e f h =
    let u = up_to 91 (drop at s) in
    ap (λ (k : ℕ). get_or s k 0) f.at ∙ sym (get_or-drop at s u 0) ∙ up_to_stands 91 (drop at s) (omega (arith, f.at, f.starts, length-drop at s))

-- one bracket more: `[` counts one, the digits none, and `]` two
module _ (s : List ℕ) (at e end c : ℕ) (f : Ends 91 s at e) (h : e < length s) (q : end ≡ e + 1 + length (digits (drop (e + 1) s))) (k : c ≡ close_at s end) where
  opened : extent false (drop e s) ≡ 1 + extent true (drop (e + 1) s)
  unfolding extent
  opened = rw (drop_step s e h, bracket_stands s at e f h)

  behind : drop (length (digits (drop (e + 1) s))) (drop (e + 1) s) ≡ drop end s
  behind = drop-drop (length (digits (drop (e + 1) s))) (e + 1) s ∙ ap (λ (k : ℕ). drop k s) (sym q)

  passed : extent true (drop (e + 1) s) ≡ extent true (drop end s)
  passed = extent_digits (drop (e + 1) s) ∙ ap (extent true) behind

  closed : extent true (drop end s) ≡ 2 * c + extent false (drop (end + c) s)
  closed =
      let z : end + 0 ≡ end = omega arith in
      let b : close_at (drop end s) 0 ≡ c = ap (λ (x : ℕ). cond (eqb x 93) 1 0) (get_or-drop end s 0 32 ∙ ap (λ (k : ℕ). get_or s k 32) z) ∙ sym k in
      extent_after (drop end s) (ap digits (sym behind) ∙ digits_after (drop (e + 1) s))
      ∙ ap (λ (m : ℕ). 2 * m + extent false (drop m (drop end s))) b ∙ ap (λ (l : List ℕ). 2 * c + extent false l) (drop-drop c end s)

  pub turn_extent : extent false (drop at s) ≡ (e - at) + (1 + 2 * c) + extent false (drop (end + c) s)
  turn_extent = omega (arith, to_bracket s at e f, opened, passed, closed)

  pub turn_within : end + c ≤ length s
  turn_within = go (eqb (get_or s end 32) 93) refl k
    where
      le : end ≤ length s
      le = omega (arith, digits_fit (drop (e + 1) s), length-drop (e + 1) s)

      go : (t : Bool) → eqb (get_or s end 32) 93 ≡ t → c ≡ cond t 1 0 → end + c ≤ length s
      go true e z = omega (arith, inside s end (λ (y : get_or s end 32 ≡ 32). omega (arith, eqb-true (get_or s end 32) 93 e)))
      go false e z = omega (arith, le)

pub close_most : (s : List ℕ) (at : ℕ) → close_at s at ≤ 1
close_most s at = go (eqb (get_or s at 32) 93)
  where
    go : (t : Bool) → cond t 1 0 ≤ 1
    go true = omega arith
    go false = omega arith

extent_end : (s : List ℕ) (e : ℕ) → e ≡ length s → extent false (drop e s) ≡ 0
unfolding extent
extent_end s e h = rw (drop_of_length-le s {i = e} (omega arith))

-- where no `[` comes any more, each byte left counts one
pub last_extent : (s : List ℕ) (at e : ℕ) → Ends 91 s at e → e ≡ length s → extent false (drop at s) ≡ e - at
last_extent s at e f h = omega (arith, to_bracket s at e f, extent_end s e h)

-- the text of a name's form is as long as that of a pattern that it is like
pub text_extent : (ps : List Piece) (s : List ℕ) (i j : ℕ) → (fits ps s i j ≡ Differs → ⊥) → Plain ps → extent false s ≡ text_of ps
unfolding text_of Plain extent
text_extent =
    alike (λ ps s z. Plain ps → extent false s ≡ text_of ps) (λ p. refl) (λ p ps s z h q. extent_byte p s q.0 ∙ ap suc (h q.1))
    (λ ps s w z b h q. extent_bracket s w b ∙ ap (λ (n : ℕ). suc (2 + n)) (h q))
