-- A row: laid as it stands where it is not judged by its cells or has no hole, and else its first cell, a tab and the cells after it. Assumes nothing.
use mathlib.Core.Path.{◌≡◌, refl, sym, ap, ◌∙◌}
use mathlib.Core.Bool.{Bool, true, false, cond, not, ◌&&◌}
use mathlib.Core.List.{List, [], ◌∷◌, ◌++◌, append_assoc}
use mathlib.Core.Logic.{⊎_elim}
use Prim.Native.Nat.{ℕ, suc, ◌+◌, ◌-◌, ◌*◌, ◌≤◌, ◌<◌}
use native.Mathlib.Nat.{eq-or-lt_of_le}
use native.Mathlib.Omega.{arith}
use lib.Dec.{eqb, leb}
use lib.ListN.{length, take, drop}
use lib.Seq.{length-take-le}
use borrow.Author.Tests.{leb-true, eqb-true, not-false}
use Rattle.text_bytes.specs.Bytes.{Bytes, any, is_empty}
use Rattle.text_bytes.specs.Places.{up_to, Ends}
use Rattle.text_bytes.proofs.Laws.Pieces.{piece_cut}
use Rattle.text_bytes.proofs.Laws.Tests.{absurd_bool, and_both, or_none}
use Rattle.text.specs.Lines.{TAB, cells}
use Rattle.text.specs.Joined.{tabbed}
use Rattle.text.proofs.Laws.Joining.{cells_tabbed}
use Rattle.scan.specs.Places.{Lent}
use Rattle.scan.proofs.Laws.Celling.{cell_here, cells_next, cells_last}
use Rattle.mender_places.specs.Places.{lay_all, note_all, Mends}
use Rattle.mender_places.proofs.Laws.Laying.{lay_append, lay_count}
use Rattle.mender_rows.specs.Rows.{filled, found, is_even, row_filled, row_found, has_hole}
use Rattle.mender_rows.proofs.Laws.Filling.{tabbed_next}

-- WITHOUT A HOLE nothing changes
filled_none : (kinds : List ℕ) (c : ℕ) (xs : List Bytes) → any is_empty xs ≡ false → filled kinds c xs ≡ xs
unfolding any filled
filled_none kinds c [] h = refl
filled_none kinds c (x ∷ xs) h = let e = or_none (is_empty x) (any is_empty xs) h in rw (e.0, filled_none kinds (suc c) xs e.1)

found_none : (kinds : List ℕ) (n c : ℕ) (xs : List Bytes) → any is_empty xs ≡ false → found kinds n c xs ≡ []
unfolding any found
found_none kinds n c [] h = refl
found_none kinds n c (x ∷ xs) h = let e = or_none (is_empty x) (any is_empty xs) h in rw (e.0, found_none kinds n (suc c) xs e.1)

first_rest : (xs : List Bytes) → take 1 xs ++ drop 1 xs ≡ xs
first_rest [] = refl
first_rest (x ∷ xs) = refl

module _ (h w : ℕ) (kinds : List ℕ) (s n : ℕ) where
  row_same : (xs : List Bytes) → not (is_even h w s xs && has_hole xs) ≡ true → (row_filled h w kinds s xs ≡ xs) × (row_found h w kinds s n xs ≡ [])
  unfolding row_filled row_found
  row_same xs = go (is_even h w s xs) (has_hole xs) refl
    where
      go : (t k : Bool) → has_hole xs ≡ k → not (t && k) ≡ true → (cond t (take 1 xs ++ filled kinds 2 (drop 1 xs)) xs ≡ xs) × (cond t (found kinds n 2 (drop 1 xs)) [] ≡ [])
      go false k e d = (refl, refl)
      go true false e d = (rw (filled_none kinds 2 (drop 1 xs) e) (first_rest xs), found_none kinds n 2 (drop 1 xs) e)
      go true true e d = absurd_bool d

  -- laid as it stands
  pub row_whole : (line : Bytes) {o o' q : Lent} → not (is_even h w s (cells line) && has_hole (cells line)) ≡ true → o' ≡ lay_all o line
      → Mends (tabbed (row_filled h w kinds s (cells line))) (row_found h w kinds s n (cells line)) (5 * length line) (length line) o o' q q
  unfolding note_all
  row_whole line {o} {o'} {q} d e =
      let r = row_same (cells line) d in
      record {
        lays = rw (r.0, cells_tabbed line) e;
        notes = rw r.1;
        most_bytes = omega (arith, ap (λ (p : Lent). p.count) e, lay_count line o);
        most_changes = omega arith;
      }

-- WITH A HOLE there is a tab

-- the bytes up to the first tab, with it
first_tab : (l : Bytes) → up_to TAB l < length l → take (suc (up_to TAB l)) l ≡ take (up_to TAB l) l ++ (TAB ∷ [])
unfolding up_to
first_tab [] k = absurd (omega arith)
first_tab (x ∷ xs) k = go (eqb x TAB) refl k (first_tab xs)
  where
    go : (t : Bool) → eqb x TAB ≡ t → cond t 0 (suc (up_to TAB xs)) < suc (length xs) → (up_to TAB xs < length xs → take (suc (up_to TAB xs)) xs ≡ take (up_to TAB xs) xs ++ (TAB ∷ []))
        → take (suc (cond t 0 (suc (up_to TAB xs)))) (x ∷ xs) ≡ take (cond t 0 (suc (up_to TAB xs))) (x ∷ xs) ++ (TAB ∷ [])
    go true e k ih = rw (eqb-true x TAB e)
    go false e k ih = ap (λ (l : Bytes). x ∷ l) (ih (omega (arith, k)))

module _ (h w s : ℕ) (line : Bytes) {e : ℕ} (ends : Ends TAB line 0 e) (d : not (is_even h w s (cells line) && has_hole (cells line)) ≡ false) where
  even_holed : (is_even h w s (cells line) ≡ true) × (has_hole (cells line) ≡ true)
  even_holed = and_both (is_even h w s (cells line)) (has_hole (cells line)) (not-false (is_even h w s (cells line) && has_hole (cells line)) d)

  pub holed_cut : e < length line
  unfolding any
  holed_cut =
      ⊎_elim (λ (z : e ≡ length line). absurd_bool (rw (cells_last ends z) at even_holed.1)) (λ (z : e < length line). z)
      (eq-or-lt_of_le ends.within)

  -- at most 255 cells are left
  pub holed_narrow : length (cells (drop (e + 1) line)) ≤ 255
  holed_narrow =
      let a = and_both (eqb h s && leb w 256) (eqb (length (cells line)) w) even_holed.0 in
      let b = and_both (eqb h s) (leb w 256) a.0 in
      omega (arith, leb-true w 256 b.1, eqb-true (length (cells line)) w a.1, ap length (cell_here ends), ap length (cells_next ends holed_cut))

  pub first_count : (o : Lent) {o₁ : Lent} → o₁ ≡ lay_all o (take (e + 1) line) → o₁.count ≡ o.count + (e + 1)
  first_count o z = omega (arith, ap (λ (p : Lent). p.count) z, lay_count (take (e + 1) line) o, length-take-le (e + 1) line (omega (arith, holed_cut)))

  first_cut : take (e - 0) line ++ (TAB ∷ []) ≡ take (e + 1) line
  first_cut =
      let i : e - 0 ≡ up_to TAB line = omega (arith, ends.at) in
      let j : e + 1 ≡ suc (up_to TAB line) = omega (arith, ends.at) in
      rw (i, j) (sym (first_tab line (omega (arith, ends.at, holed_cut))))

  row_first : (kinds : List ℕ) → tabbed (row_filled h w kinds s (cells line)) ≡ take (e + 1) line ++ tabbed (filled kinds 2 (cells (drop (e + 1) line)))
  unfolding row_filled
  row_first kinds =
      rw (even_holed.0, piece_cut ends holed_cut, ← first_cut)
      (tabbed_next kinds 2 (take (e - 0) line) (drop (e + 1) line) ∙ sym (append_assoc (take (e - 0) line) (TAB ∷ []) (tabbed (filled kinds 2 (cells (drop (e + 1) line))))))

  pub row_cut : (kinds : List ℕ) (n : ℕ) {o o₁ o₂ q q₂ : Lent} → o₁ ≡ lay_all o (take (e + 1) line)
      → Mends (tabbed (filled kinds 2 (cells (drop (e + 1) line)))) (found kinds n 2 (cells (drop (e + 1) line))) (5 * (length line - (e + 1)) + 4) (length line - (e + 1) + 1) o₁ o₂ q q₂
      → Mends (tabbed (row_filled h w kinds s (cells line))) (row_found h w kinds s n (cells line)) (5 * length line) (length line) o o₂ q q₂
  unfolding row_found
  row_cut kinds n {o} {o₁} {o₂} {q} {q₂} z m =
      record {
        lays = m.lays ∙ rw (row_first kinds, z) (sym (lay_append (take (e + 1) line) (tabbed (filled kinds 2 (cells (drop (e + 1) line)))) o));
        notes = rw (even_holed.0, cells_next ends holed_cut) m.notes;
        most_bytes = omega (arith, first_count o z, m.most_bytes, holed_cut);
        most_changes = omega (arith, m.most_changes, holed_cut);
      }
