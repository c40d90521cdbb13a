-- A name ends with the last byte of the pattern's text that it is like, which a space follows: a place ends in `]`, as an index does. Assumes nothing.
use Prim.Native.Nat.{ℕ, zero, suc, ◌+◌, ◌-◌, ◌≤◌, ◌<◌}
use mathlib.Core.Path.{◌≡◌, refl, ap, sym, ◌∙◌}
use mathlib.Core.Bool.{Bool, true, false, ◌&&◌, ◌||◌}
use mathlib.Core.List.{List, [], ◌∷◌}
use native.Mathlib.Omega.{arith}
use lib.Dec.{eqb}
use lib.ListN.{length, get_or, drop, drop_of_length-le}
use borrow.Author.Tests.{eq-eqb, eqb-true, eqb-false}
use Rattle.text_bytes.proofs.Laws.Tests.{absurd_bool}
use Rattle.value_references.specs.Index.{digits}
use Rattle.value_references.proofs.Laws.Indices.{Bracket}
use Rattle.book_names.specs.Names.{Piece, byte, place, pieces, fits}
use Rattle.book_names.specs.Steps.{may_end, extent}
use Rattle.book_names.specs.declared.Match.TheVariants.{Differs}
use Rattle.book_names.proofs.Laws.Turns.{at_space, at_place, at_byte}
use Rattle.book_names.proofs.Laws.Alike.{alike}
use Rattle.book_names.proofs.Laws.Lengths.{text_of, differs_or, pieces_plain, text_extent}

-- THE NAME: its last byte, d where it has none
unfoldable last_or : ℕ → List ℕ → ℕ
last_or d [] = d
last_or d (x ∷ s) = last_or x s

-- it is the last of what stands behind byte k, or that byte
last_after : (s : List ℕ) (d k : ℕ) → k < length s → last_or d s ≡ last_or (get_or s k 0) (drop (suc k) s)
unfolding last_or
last_after [] d k h = absurd (omega arith)
last_after (x ∷ s) d zero h = refl
last_after (x ∷ s) d (suc k) h = last_after s x k (omega arith)

last_at : (s : List ℕ) (d : ℕ) → 1 ≤ length s → last_or d s ≡ get_or s (length s - 1) 0
unfolding last_or
last_at s d h =
    let e : drop (suc (length s - 1)) s ≡ [] = drop_of_length-le s {i = suc (length s - 1)} (omega arith) in
    last_after s d (length s - 1) (omega arith) ∙ ap (last_or (get_or s (length s - 1) 0)) e

last_bracket : (s : List ℕ) (w d : ℕ) → Bracket s w → last_or d s ≡ last_or 93 (drop w s)
last_bracket s w d b =
    let n = 1 + length (digits (drop 1 s)) in
    let e : suc n ≡ w = omega (arith, b.width) in
    last_after s d n (omega (arith, b.width, b.within)) ∙ ap (λ (z : ℕ). last_or z (drop (suc n) s)) b.closes ∙ ap (λ (k : ℕ). last_or 93 (drop k s)) e

-- the last byte of the names that are like a pattern
unfoldable last_byte : ℕ → List Piece → ℕ
last_byte d [] = d
last_byte d (byte x ∷ ps) = last_byte x ps
last_byte d (place ∷ ps) = last_byte 93 ps

last_alike : (ps : List Piece) (s : List ℕ) (i j : ℕ) → (fits ps s i j ≡ Differs → ⊥) → (d : ℕ) → last_or d s ≡ last_byte d ps
unfolding last_or last_byte
last_alike =
    alike (λ ps s z. (d : ℕ) → last_or d s ≡ last_byte d ps) (λ d. refl) (λ p ps s z h d. h p) (λ ps s w z b h d. last_bracket s w d b ∙ h 93)

-- THE ROW: what stands before a place of it is z, or a place for an index where z is `]`
module _ (row : List ℕ) where
  before : ℕ → ℕ → Bool
  before q z = eqb (get_or row (q - 1) 0) z || (eqb z 93 && eqb (get_or row (q - 3) 0) 91)

  -- the text that stands from a on has these pieces: it ends in the row as the name does
  Ending : ℕ → ℕ → List Piece → Type 0
  Ending a d ps = a + text_of ps < length row → may_end row (a + text_of ps) (last_byte d ps) ≡ true

  module _ (a d : ℕ) where
    ending_space : get_or row a 0 ≡ 32 → before a d ≡ true → Ending a d []
    unfolding Ending before may_end text_of last_byte
    ending_space e b h = let z : a + 0 ≡ a = omega arith in rw (z, eq-eqb (get_or row a 0) 32 e) b

    ending_place : (ps : List Piece) → Ending (a + 3) 93 ps → Ending a d (place ∷ ps)
    unfolding Ending text_of last_byte
    ending_place ps f h = let z : a + suc (2 + text_of ps) ≡ a + 3 + text_of ps = omega arith in rw z (f (omega arith))

    ending_byte : (x : ℕ) (ps : List Piece) → Ending (a + 1) x ps → Ending a d (byte x ∷ ps)
    unfolding Ending text_of last_byte
    ending_byte x ps f h = let z : a + suc (text_of ps) ≡ a + 1 + text_of ps = omega arith in rw z (f (omega arith))

  before_byte : (a : ℕ) → before (a + 1) (get_or row a 0) ≡ true
  unfolding before
  before_byte a = let z : a + 1 - 1 ≡ a = omega arith in rw (z, eq-eqb (get_or row a 0) (get_or row a 0) refl)

  before_place : (a : ℕ) → get_or row a 0 ≡ 91 → before (a + 3) 93 ≡ true
  unfolding before
  before_place a e = let z : a + 3 - 3 ≡ a = omega arith in rw (z, eq-eqb (get_or row a 0) 91 e) (go (eqb (get_or row (a + 3 - 1) 0) 93))
    where
      go : (t : Bool) → (t || true) ≡ true
      go true = refl
      go false = refl

  ending : (n a d : ℕ) → length row ≤ a + n → before a d ≡ true → Ending a d (pieces (drop a row))
  unfolding Ending
  ending zero a d l b h = absurd (omega arith)
  ending (suc n) a d l b h = go (eqb (get_or row a 0) 32) (eqb (get_or row a 0) 91) refl refl (λ k x. ending n k x) h
    where
      inside : a < length row
      inside = omega arith

      go : (s o : Bool) → eqb (get_or row a 0) 32 ≡ s → eqb (get_or row a 0) 91 ≡ o
          → ((k x : ℕ) → length row ≤ k + n → before k x ≡ true → Ending k x (pieces (drop k row))) → Ending a d (pieces (drop a row))
      go true o es eo rest =
          let e = eqb-true (get_or row a 0) 32 es in
          rw (at_space row a inside e) (ending_space a d e b)
      go false true es eo rest =
          let e = eqb-true (get_or row a 0) 91 eo in
          rw (at_place row a inside e) (ending_place a d _ (rest (a + 3) 93 (omega arith) (before_place a e)))
      go false false es eo rest =
          rw (at_byte row a inside (eqb-false _ 32 es) (eqb-false _ 91 eo)) (ending_byte a d _ _ (rest (a + 1) _ (omega arith) (before_byte a)))

-- A ROW with no end for the name: its pattern is not like it
pub no_end_differs : (row name : List ℕ) (n : ℕ) → n ≡ extent false name → 3 + n < length row → 1 ≤ length name
    → may_end row (3 + n) (get_or name (length name - 1) 0) ≡ false → fits (pieces (drop 3 row)) name 0 0 ≡ Differs
unfolding Ending
no_end_differs row name n e inside some f =
    differs_or (fits ps name 0 0) λ h.
    let d = get_or row 2 0 in
    let t : text_of ps ≡ n = sym (text_extent ps name 0 0 h (pieces_plain 0 (drop 3 row))) ∙ sym e in
    let l : last_byte d ps ≡ get_or name (length name - 1) 0 = sym (last_alike ps name 0 0 h d) ∙ last_at name d some in
    absurd_bool (sym f ∙ rw (← t, ← l) (ending row (length row) 3 d (omega arith) (before_byte row 2) (omega (arith, t))))
  where
    ps : List Piece
    ps = pieces (drop 3 row)
