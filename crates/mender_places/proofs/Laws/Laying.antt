-- Bytes laid and changes noted, one after the other. Assumes nothing.
use mathlib.Core.Path.{◌≡◌, refl, sym, ap, ◌∙◌}
use mathlib.Core.List.{List, [], ◌∷◌, ◌++◌}
use Prim.Native.Nat.{ℕ, suc, ◌+◌, ◌≤◌, ◌<◌}
use native.Mathlib.Omega.{arith}
use lib.ListN.{length, drop, get_or, set, length-drop}
use lib.Seq.{set_out}
use Rattle.text_bytes.specs.Bytes.{Bytes}
use Rattle.text_bytes.proofs.Laws.Pieces.{drop_step}
use Rattle.rules.specs.Breaks.{Break}
use Rattle.scan.specs.Places.{Lent, lent}
use Rattle.mender_places.specs.Places.{lay_all, noted, note_all, Mends}

-- BYTES

pub lay_append : (xs ys : Bytes) (o : Lent) → lay_all o (xs ++ ys) ≡ lay_all (lay_all o xs) ys
unfolding lay_all
lay_append [] ys o = refl
lay_append (x ∷ xs) ys o = lay_append xs ys (lent (set o.places o.count x) (o.count + 1))

pub lay_count : (xs : Bytes) (o : Lent) → (lay_all o xs).count ≡ o.count + length xs
unfolding lay_all
lay_count [] o = omega arith
lay_count (x ∷ xs) o = lay_count xs (lent (set o.places o.count x) (o.count + 1)) ∙ omega arith

-- one byte more of those that are left
pub lay_step : (bytes copy : Bytes) (to i : ℕ) → i < length bytes
    → lay_all (lent copy (to + i)) (drop i bytes) ≡ lay_all (lent (set copy (to + i) (get_or bytes i 0)) (to + (i + 1))) (drop (i + 1) bytes)
unfolding lay_all
lay_step bytes copy to i h =
    let e : to + i + 1 ≡ to + (i + 1) = omega arith in
    ap (lay_all (lent copy (to + i))) (drop_step bytes i h) ∙ ap (λ (k : ℕ). lay_all (lent (set copy (to + i) (get_or bytes i 0)) k) (drop (i + 1) bytes)) e

-- where no place is left they only count
lay_past : (xs ys : Bytes) (k : ℕ) → length ys ≤ k → lay_all (lent ys k) xs ≡ lent ys (k + length xs)
unfolding lay_all
lay_past [] ys k h = let e : k + 0 ≡ k = omega arith in rw e
lay_past (x ∷ xs) ys k h = let e : k + 1 + length xs ≡ k + suc (length xs) = omega arith in rw (set_out ys k x h, lay_past xs ys (k + 1) (omega arith), e)

-- all that have a place are laid
pub lay_end : (bytes copy : Bytes) (to i : ℕ) → i ≤ length bytes → (i < length bytes → length copy ≤ to + i) → lay_all (lent copy (to + i)) (drop i bytes) ≡ lent copy (to + length bytes)
unfolding lay_all
lay_end bytes copy to i le h = go (drop i bytes) refl
  where
    go : (xs : Bytes) → drop i bytes ≡ xs → lay_all (lent copy (to + i)) xs ≡ lent copy (to + length bytes)
    go [] e = let z : to + i ≡ to + length bytes = omega (arith, ap length e, length-drop i bytes) in rw z
    go (x ∷ xs) e =
        let z : to + i + length (x ∷ xs) ≡ to + length bytes = omega (arith, ap length e, length-drop i bytes) in
        lay_past (x ∷ xs) copy (to + i) (h (omega (arith, ap length e, length-drop i bytes))) ∙ rw z

-- CHANGES

pub note_append : (fs gs : List Break) (o : Lent) → note_all o (fs ++ gs) ≡ note_all (note_all o fs) gs
unfolding note_all
note_append [] gs o = refl
note_append (f ∷ fs) gs o = note_append fs gs (noted o f)

pub note_count : (fs : List Break) (o : Lent) → (note_all o fs).count ≡ o.count + length fs
unfolding note_all noted
note_count [] o = omega arith
note_count (f ∷ fs) o = note_count fs (noted o f) ∙ omega arith

-- BOTH: two calls, one after the other
pub mends2 : {xs ys : Bytes} {fs gs : List Break} {a b c d : ℕ} {o o₁ o₂ q q₁ q₂ : Lent} → Mends xs fs a c o o₁ q q₁ → Mends ys gs b d o₁ o₂ q₁ q₂ → Mends (xs ++ ys) (fs ++ gs) (a + b) (c + d) o o₂ q q₂
mends2 {xs} {ys} {fs} {gs} {o = o} {q = q} h k = record {
  lays = k.lays ∙ rw h.lays (sym (lay_append xs ys o));
  notes = k.notes ∙ rw h.notes (sym (note_append fs gs q));
  most_bytes = omega (arith, h.most_bytes, k.most_bytes);
  most_changes = omega (arith, h.most_changes, k.most_changes);
}
