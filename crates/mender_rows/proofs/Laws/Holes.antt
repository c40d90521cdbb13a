-- A cell after the first is empty where a tab has another after it, or stands at the end. Assumes nothing.
use mathlib.Core.Path.{◌≡◌, refl, sym, ◌∙◌}
use mathlib.Core.Bool.{Bool, true, false, cond, ◌&&◌, ◌||◌, or-false}
use mathlib.Core.List.{List, [], ◌∷◌}
use Prim.Native.Nat.{ℕ, suc, ◌+◌, ◌-◌, ◌≤◌, ◌<◌}
use native.Mathlib.Omega.{arith}
use lib.Dec.{eqb}
use lib.ListN.{length, drop, get_or, drop_of_length-le}
use Rattle.text_bytes.specs.Bytes.{Bytes, any, is_empty, on_first, split_on}
use Rattle.text_bytes.proofs.Laws.Pieces.{drop_step}
use Rattle.text.specs.Lines.{TAB, cells}
use Rattle.mender_rows.specs.Rows.{has_hole}

-- some tab has another directly after it
unfoldable pub pairs : Bytes → Bool
pairs [] = false
pairs (x ∷ []) = false
pairs (x ∷ (y ∷ ys)) = (eqb x TAB && eqb y TAB) || pairs (y ∷ ys)

-- the first cell is empty where a tab stands first
first_empty : (y : ℕ) (ys : Bytes) → any is_empty (cells (y ∷ ys)) ≡ (eqb y TAB || has_hole (cells (y ∷ ys)))
unfolding any is_empty split_on on_first
first_empty y ys = go (eqb y TAB) (cells ys)
  where
    go : (t : Bool) (ps : List Bytes) → any is_empty (cond t ([] ∷ ps) (on_first y ps)) ≡ (t || has_hole (cond t ([] ∷ ps) (on_first y ps)))
    go true ps = refl
    go false [] = refl
    go false (p ∷ ps) = refl

hole_one : (x : ℕ) → has_hole (cells (x ∷ [])) ≡ eqb x TAB
unfolding any is_empty split_on on_first
hole_one x = go (eqb x TAB)
  where
    go : (t : Bool) → has_hole (cond t ([] ∷ ([] ∷ [])) (on_first x ([] ∷ []))) ≡ t
    go true = refl
    go false = refl

hole_next : (x y : ℕ) (ys : Bytes) → has_hole (cells (x ∷ (y ∷ ys))) ≡ ((eqb x TAB && eqb y TAB) || has_hole (cells (y ∷ ys)))
unfolding any is_empty split_on on_first
hole_next x y ys = go (eqb x TAB) (cells (y ∷ ys)) (first_empty y ys)
  where
    go : (t : Bool) (ps : List Bytes) → any is_empty ps ≡ (eqb y TAB || has_hole ps) → has_hole (cond t ([] ∷ ps) (on_first x ps)) ≡ ((t && eqb y TAB) || has_hole ps)
    go true ps e = e
    go false [] e = refl
    go false (p ∷ ps) e = refl

or_swap : (a b c : Bool) → (a || (b || c)) ≡ (b || (a || c))
or_swap true true c = refl
or_swap true false c = refl
or_swap false b c = refl

holes_from : (x : ℕ) (xs : Bytes) → has_hole (cells (x ∷ xs)) ≡ (eqb (get_or (x ∷ xs) (length xs) 0) TAB || pairs (x ∷ xs))
unfolding pairs
holes_from x [] = hole_one x ∙ sym (or-false (eqb x TAB))
holes_from x (y ∷ ys) = hole_next x y ys ∙ rw (holes_from y ys) (or_swap (eqb x TAB && eqb y TAB) (eqb (get_or (y ∷ ys) (length ys) 0) TAB) (pairs (y ∷ ys)))

-- by the last byte, and the pairs
pub holes_start : (l : Bytes) → (length l ≡ 0 → ⊥) → has_hole (cells l) ≡ (eqb (get_or l (length l - 1) 0) TAB || pairs l)
holes_start [] h = absurd (h refl)
holes_start (x ∷ xs) h = let e : suc (length xs) - 1 ≡ length xs = omega arith in rw e (holes_from x xs)

pub holes_none : (l : Bytes) → length l ≡ 0 → has_hole (cells l) ≡ false
unfolding any split_on
holes_none [] h = refl
holes_none (x ∷ xs) h = absurd (omega arith)

-- one byte more of those that are left, and the last
module _ (l : Bytes) (i : ℕ) (hit : Bool) where
  pub pairs_more : i + 1 < length l → (hit || pairs (drop i l)) ≡ ((hit || (eqb (get_or l i 0) TAB && eqb (get_or l (i + 1) 0) TAB)) || pairs (drop (i + 1) l))
  unfolding pairs
  pairs_more h =
      let a = eqb (get_or l i 0) TAB && eqb (get_or l (i + 1) 0) TAB in
      rw (drop_step l i (omega (arith, h)), drop_step l (i + 1) h) (go hit a (pairs (get_or l (i + 1) 0 ∷ drop (i + 1 + 1) l)))
    where
      go : (a b c : Bool) → (a || (b || c)) ≡ ((a || b) || c)
      go true b c = refl
      go false b c = refl

  pub pairs_end : i < length l → length l ≤ i + 1 → (hit || pairs (drop i l)) ≡ hit
  unfolding pairs
  pairs_end h k = rw (drop_step l i h, drop_of_length-le l k) (or-false hit)
