-- Cells laid one after the other, with `null` in the empty ones. Assumes nothing.
use mathlib.Core.Path.{◌≡◌, refl, sym, ap}
use mathlib.Core.Bool.{Bool, true, false, cond, not, ◌&&◌}
use mathlib.Core.List.{List, [], ◌∷◌, ◌++◌}
use Prim.Native.Nat.{ℕ, suc, ◌+◌, ◌-◌, ◌≤◌, ◌<◌}
use native.Mathlib.Numerals.{add-one}
use native.Mathlib.Omega.{arith}
use lib.Dec.{eqb}
use lib.ListN.{length, take, drop, get_or, length-drop}
use lib.Seq.{length-take-le}
use Rattle.text_bytes.specs.Bytes.{Bytes, bytes}
use Rattle.text_bytes.specs.Places.{Ends}
use Rattle.text.specs.Lines.{TAB, cells}
use Rattle.text.specs.Joined.{tabbed}
use Rattle.text_bytes.proofs.Laws.Pieces.{piece_cut, piece_last}
use Rattle.text.proofs.Laws.Splicing.{pieces}
use Rattle.book.specs.Letters.{KEPT}
use Rattle.rules.specs.Breaks.{Break, break_at, when}
use Rattle.rules.specs.Mended.{NULL}
use Rattle.rules.proofs.Laws.Sorting.{empty_test}
use Rattle.scan.specs.Places.{Lent}
use Rattle.mender_places.specs.Places.{lay_all, noted, note_all, Mends}
use Rattle.mender_places.proofs.Laws.Laying.{lay_append, lay_count}
use Rattle.mender_rows.specs.Rows.{fills_in, filled, found}

-- ONE CELL
module _ (kind n c : ℕ) (x : Bytes) {o o' q : Lent} where
  pub cell_new : {q' : Lent} → (eqb (length x) 0 && not (eqb kind KEPT)) ≡ true → o' ≡ lay_all o NULL → q' ≡ noted q (break_at n c 19)
      → Mends (cond (fills_in kind x) NULL x) (when (fills_in kind x) (break_at n c 19) []) (length x + 4) 1 o o' q q'
  unfolding NULL bytes note_all noted
  cell_new h e f =
      let t : fills_in kind x ≡ true = rw (← empty_test x) h in
      record {
        lays = rw t e;
        notes = rw t f;
        most_bytes = omega (arith, ap (λ (p : Lent). p.count) e, lay_count NULL o);
        most_changes = omega (arith, ap (λ (p : Lent). p.count) f);
      }

  pub cell_same : (eqb (length x) 0 && not (eqb kind KEPT)) ≡ false → o' ≡ lay_all o x → Mends (cond (fills_in kind x) NULL x) (when (fills_in kind x) (break_at n c 19) []) (length x + 4) 1 o o' q q
  unfolding note_all
  cell_same h e =
      let t : fills_in kind x ≡ false = rw (← empty_test x) h in
      record {
        lays = rw t e;
        notes = rw t;
        most_bytes = omega (arith, ap (λ (p : Lent). p.count) e, lay_count x o);
        most_changes = omega arith;
      }

-- THE CELLS, one more of those that are left

-- a cell, a tab, and the cells after it
pub tabbed_next : (kinds : List ℕ) (c : ℕ) (x l : Bytes) → tabbed (x ∷ filled kinds c (cells l)) ≡ x ++ (TAB ∷ tabbed (filled kinds c (cells l)))
unfolding filled tabbed
tabbed_next kinds c x l = let r = pieces TAB l (cells l) refl in rw r.1.1

-- a change, and those after it
note_when : (t : Bool) (f : Break) (fs : List Break) (q : Lent) → note_all q (when t f fs) ≡ note_all (note_all q (when t f [])) fs
unfolding note_all
note_when true f fs q = refl
note_when false f fs q = refl

-- how long the cell is that ends at e
pub cell_length : {line : Bytes} {s e : ℕ} → Ends TAB line s e → length (take (e - s) (drop s line)) ≡ e - s
cell_length {line} {s} {e} h = length-take-le (e - s) (drop s line) (omega (arith, h.within, length-drop s line))

module _ {line : Bytes} {s e : ℕ} (h : Ends TAB line s e) (kinds : List ℕ) (n c : ℕ) {far few : ℕ} {o o₁ q q₁ : Lent}
    (m : Mends (cond (fills_in (get_or kinds (c - 1) 0) (take (e - s) (drop s line))) NULL (take (e - s) (drop s line))) (when (fills_in (get_or kinds (c - 1) 0) (take (e - s) (drop s line))) (break_at n c 19) []) far few o o₁ q q₁) where
  pub lays_last : e ≡ length line → o₁ ≡ lay_all o (tabbed (filled kinds c (cells (drop s line))))
  unfolding filled tabbed
  lays_last z = rw (piece_last h z) m.lays

  pub notes_last : e ≡ length line → q₁ ≡ note_all q (found kinds n c (cells (drop s line)))
  unfolding found
  notes_last z = rw (piece_last h z) m.notes

  pub lays_next : e < length line → {o₂ : Lent} → o₂ ≡ lay_all o₁ (TAB ∷ [])
      → lay_all o₂ (tabbed (filled kinds (c + 1) (cells (drop (e + 1) line)))) ≡ lay_all o (tabbed (filled kinds c (cells (drop s line))))
  unfolding lay_all filled
  lays_next lt {o₂} z =
      let x = take (e - s) (drop s line) in
      let y = cond (fills_in (get_or kinds (c - 1) 0) x) NULL x in
      let rest = tabbed (filled kinds (suc c) (cells (drop (e + 1) line))) in
      rw (add-one c, piece_cut h lt, tabbed_next kinds (suc c) y (drop (e + 1) line), lay_append y (TAB ∷ rest) o, ← m.lays) (ap (λ (p : Lent). lay_all p rest) z)

  pub count_next : {o₂ : Lent} → o₂ ≡ lay_all o₁ (TAB ∷ []) → o₂.count ≤ o.count + far + 1
  unfolding lay_all
  count_next z = omega (arith, ap (λ (p : Lent). p.count) z, m.most_bytes)

  pub notes_next : e < length line → note_all q₁ (found kinds n (c + 1) (cells (drop (e + 1) line))) ≡ note_all q (found kinds n c (cells (drop s line)))
  unfolding found
  notes_next lt =
      let x = take (e - s) (drop s line) in
      rw (add-one c, piece_cut h lt, m.notes) (sym (note_when (fills_in (get_or kinds (c - 1) 0) x) (break_at n c 19) (found kinds n (suc c) (cells (drop (e + 1) line))) q))
