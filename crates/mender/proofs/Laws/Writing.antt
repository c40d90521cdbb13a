-- Bytes laid and changes noted, one after the other from the first place on, make the buffer and the list that the definition has; and what the call gives back.
-- Assumes nothing.
use mathlib.Core.Path.{◌≡◌, refl, sym, ap, ◌∙◌}
use mathlib.Core.Bool.{true, false, ◌||◌}
use mathlib.Core.List.{List, [], ◌∷◌, ◌++◌}
use Prim.Native.Nat.{ℕ, suc, ◌+◌, ◌*◌, ◌≤◌, ◌<◌}
use native.Mathlib.Omega.{arith}
use lib.ListN.{length, set, length-append}
use lib.Seq.{set_at, append_snoc}
use lib.Dec.{ltb}
use borrow.Author.Tests.{le-leb, lt-leb, lt-ltb, le-ltb}
use Rattle.numbers.specs.Numbers.{TOO_LONG, NO_ROOM}
use Rattle.text_bytes.specs.Bytes.{Bytes}
use Rattle.text.specs.Lines.{LIMIT}
use Rattle.rules.specs.Breaks.{Break}
use Rattle.rules.specs.Mended.{changes_of, copy_of}
use Rattle.scan.specs.Places.{Lent, lent}
use Rattle.mender_places.specs.Places.{lay_all, noted, note_all, Mends}
use Rattle.mender_places.proofs.Laws.Laying.{lay_end, lay_count}
use Rattle.mender.specs.Mended.{outcome, with_bytes, with_changes, mended}

-- BYTES: those in front are laid already
lay_from : (front xs ys : Bytes) (k : ℕ) → length front ≡ k → lay_all (lent (front ++ ys) k) xs ≡ lent (front ++ with_bytes xs ys) (k + length xs)
unfolding lay_all with_bytes
lay_from front [] ys k e = let z : k + 0 ≡ k = omega arith in rw z
lay_from front (x ∷ xs) [] k e =
    let z : k + 0 ≡ k = omega arith in
    rw z at (lay_end (x ∷ xs) (front ++ []) k 0 (omega arith) (λ h. omega (arith, length-append front [], e)))
lay_from front (x ∷ xs) (y ∷ ys) k e =
    let z : k + 1 + length xs ≡ k + suc (length xs) = omega arith in
    let f = front ++ (x ∷ []) in
    ap (λ (l : Bytes). lay_all (lent l (k + 1)) xs) (set_at front y ys x k e ∙ sym (append_snoc front x ys))
    ∙ lay_from f xs ys (k + 1) (length-append front (x ∷ []) ∙ omega (arith, e))
    ∙ rw (append_snoc front x (with_bytes xs ys), z)

pub lay_all_lem : (xs ys : Bytes) → lay_all (lent ys 0) xs ≡ lent (with_bytes xs ys) (length xs)
lay_all_lem xs ys = let z : 0 + length xs ≡ length xs = omega arith in rw z at (lay_from [] xs ys 0 refl)

-- CHANGES

-- where there are no two places for the next they only count
note_past : (gs : List Break) (zs : List ℕ) (k : ℕ) → length zs < 2 * k + 2 → note_all (lent zs k) gs ≡ lent zs (k + length gs)
unfolding note_all noted
note_past [] zs k h = let z : k + 0 ≡ k = omega arith in rw z
note_past (g ∷ gs) zs k h =
    let z : k + 1 + length gs ≡ k + suc (length gs) = omega arith in
    rw (lt-leb (2 * k + 2) (length zs) h, note_past gs zs (k + 1) (omega arith), z)

-- one more, where both places are there
two : (front : List ℕ) (y z l c : ℕ) (zs : List ℕ) (k : ℕ) → length front ≡ k → set (set (front ++ y ∷ (z ∷ zs)) k l) (k + 1) c ≡ front ++ (l ∷ []) ++ (c ∷ []) ++ zs
two front y z l c zs k e =
    ap (λ (r : List ℕ). set r (k + 1) c) (set_at front y (z ∷ zs) l k e ∙ sym (append_snoc front l (z ∷ zs)))
    ∙ set_at (front ++ (l ∷ [])) z zs c (k + 1) (length-append front (l ∷ []) ∙ omega (arith, e))
    ∙ sym (append_snoc (front ++ (l ∷ [])) c zs)

-- those in front are noted already
note_from : (front : List ℕ) (gs : List Break) (zs : List ℕ) (k : ℕ) → length front ≡ 2 * k → note_all (lent (front ++ zs) k) gs ≡ lent (front ++ with_changes gs zs) (k + length gs)
unfolding note_all noted with_changes
note_from front [] zs k e = let z : k + 0 ≡ k = omega arith in rw z
note_from front (g ∷ gs) [] k e = note_past (g ∷ gs) (front ++ []) k (omega (arith, length-append front [], e))
note_from front (g ∷ gs) (y ∷ []) k e = note_past (g ∷ gs) (front ++ y ∷ []) k (omega (arith, length-append front (y ∷ []), e))
note_from front (g ∷ gs) (y ∷ (z ∷ zs)) k e =
    let s : k + 1 + length gs ≡ k + suc (length gs) = omega arith in
    let f = front ++ (g.line ∷ []) in
    let rest = with_changes gs zs in
    rw (le-leb (2 * k + 2) (length (front ++ y ∷ (z ∷ zs))) (omega (arith, length-append front (y ∷ (z ∷ zs)), e)), two front y z g.line g.cell zs (2 * k) e)
    (note_from (f ++ (g.cell ∷ [])) gs zs (k + 1) (omega (arith, length-append f (g.cell ∷ []), length-append front (g.line ∷ []), e))
    ∙ rw (append_snoc f g.cell rest, append_snoc front g.line (g.cell ∷ rest), s))

pub note_all_lem : (gs : List Break) (zs : List ℕ) → note_all (lent zs 0) gs ≡ lent (with_changes gs zs) (length gs)
note_all_lem gs zs = let z : 0 + length gs ≡ length gs = omega arith in rw z at (note_from [] gs zs 0 refl)

-- WHAT IS GIVEN BACK

module _ (file ys : Bytes) (zs : List ℕ) where
  -- a file over the limit
  pub mended_long : LIMIT < length file → outcome TOO_LONG 0 0 ys zs ≡ mended file ys zs
  unfolding mended
  mended_long h = rw (lt-ltb LIMIT (length file) h)

  module _ (low : length file ≤ LIMIT) {far few : ℕ} {us us' ws ws' : List ℕ} {to count : ℕ} (p : Mends (copy_of file) (changes_of file) far few (lent us 0) (lent us' to) (lent ws 0) (lent ws' count)) where
    -- what is laid says how long the copy is
    size : length (copy_of file) ≡ to
    size = omega (arith, ap (λ (o : Lent). o.count) p.lays, lay_count (copy_of file) (lent us 0))

    -- a copy that has no room
    pub mended_none : (ltb LIMIT to || ltb (length ys) to) ≡ true → outcome NO_ROOM 0 0 ys zs ≡ mended file ys zs
    unfolding mended
    mended_none h = rw (le-ltb LIMIT (length file) low, size, h)

    -- and one that has room
    pub mended_room : (ltb LIMIT to || ltb (length ys) to) ≡ false → (ltb LIMIT (length (copy_of file)) || ltb (length ys) (length (copy_of file))) ≡ false
    mended_room h = rw size h

  -- the copy and the changes
  pub mended_done : length file ≤ LIMIT → {far few : ℕ} {ys' zs' : List ℕ} {to count : ℕ} → (ltb LIMIT (length (copy_of file)) || ltb (length ys) (length (copy_of file))) ≡ false
      → Mends (copy_of file) (changes_of file) far few (lent ys 0) (lent ys' to) (lent zs 0) (lent zs' count) → outcome 0 to count ys' zs' ≡ mended file ys zs
  unfolding mended
  mended_done low {far} {few} {ys'} {zs'} {to} {count} h p =
      let e = p.lays ∙ lay_all_lem (copy_of file) ys in
      let f = p.notes ∙ note_all_lem (changes_of file) zs in
      rw (le-ltb LIMIT (length file) low, h, ap (λ (o : Lent). o.count) e, ap (λ (o : Lent). o.places) e, ap (λ (o : Lent). o.count) f, ap (λ (o : Lent). o.places) f)
