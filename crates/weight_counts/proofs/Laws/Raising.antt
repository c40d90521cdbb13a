-- What cells, rows and lines add to the weights. Assumes nothing.
use mathlib.Core.Path.{◌≡◌, refl, ap, ◌∙◌}
use mathlib.Core.Bool.{Bool, true, false, cond, not, ◌&&◌}
use mathlib.Core.List.{List, [], ◌∷◌}
use Prim.Native.Nat.{ℕ, zero, suc, ◌+◌, ◌-◌, ◌≤◌, ◌<◌}
use native.Mathlib.Numerals.{add-one}
use native.Mathlib.Omega.{arith}
use lib.Dec.{eqb, ltb}
use lib.ListN.{length, drop, get_or, set, replicate, get_or-eq_default}
use lib.Seq.{get_or-set_same, get_or-set_other}
use borrow.Author.Tests.{eq-eqb, ne_eqb, eqb-true, eqb-false, ltb-true, ltb-false}
use Rattle.text_bytes.specs.Bytes.{Bytes, is}
use Rattle.text.specs.Lines.{LIMIT, TAB, lines, cells, coded}
use Rattle.book.specs.Book.{row_code, mz_tab}
use Rattle.text_bytes.specs.Places.{part, Ends}
use Rattle.text.specs.Places.{LineAt}
use Rattle.text_bytes.proofs.Laws.Pieces.{piece_cut, piece_last}
use Rattle.text.proofs.Laws.Lines.{lines_done}
use Rattle.fee_shares.specs.Sums.{bit}
use Rattle.weight_counts.specs.Variables.{PROTEIN}
use Rattle.weight_counts.specs.Counts.{IsMarks, with_cell, adds, marks, line_adds, lines_add, Room, Raises}

-- ONE CELL

module _ (mark : ℕ) (cell : Bytes) (ws : List ℕ) where
  pub cell_unmarked : mark ≡ 0 → ws ≡ with_cell mark cell ws
  unfolding with_cell
  cell_unmarked e = rw (eq-eqb mark 0 e)

  pub cell_null : (mark ≡ 0 → ⊥) → is cell "null" ≡ true → ws ≡ with_cell mark cell ws
  unfolding with_cell
  cell_null n e = rw (ne_eqb mark 0 n, e)

  pub cell_counts : (mark ≡ 0 → ⊥) → is cell "null" ≡ false → set ws (mark - 1) (get_or ws (mark - 1) 0 + 1) ≡ with_cell mark cell ws
  unfolding with_cell
  cell_counts n e = rw (ne_eqb mark 0 n, e)

  -- it adds one to the weight of its study variable
  pub cell_adds_lem : mark ≤ length ws → (i : ℕ) → get_or (with_cell mark cell ws) i 0 ≡ get_or ws i 0 + bit (eqb mark (suc i) && not (is cell "null"))
  unfolding with_cell
  cell_adds_lem h i = go (eqb mark 0) refl (is cell "null") (eqb mark (suc i)) refl
    where
      go : (t : Bool) → eqb mark 0 ≡ t → (u v : Bool) → eqb mark (suc i) ≡ v
          → get_or (cond (not t && not u) (set ws (mark - 1) (get_or ws (mark - 1) 0 + 1)) ws) i 0 ≡ get_or ws i 0 + bit (v && not u)
      go true p u true q = absurd (omega (arith, eqb-true mark 0 p, eqb-true mark (suc i) q))
      go true p u false q = omega arith
      go false p true true q = omega arith
      go false p true false q = omega arith
      go false p false true q =
          let z : mark - 1 ≡ i = omega (arith, eqb-true mark (suc i) q) in
          rw z (get_or-set_same ws i (get_or ws i 0 + 1) 0 (omega (arith, eqb-true mark (suc i) q)))
      go false p false false q =
          let n = eqb-false mark 0 p in
          get_or-set_other ws (mark - 1) i (get_or ws (mark - 1) 0 + 1) 0 (λ z. eqb-false mark (suc i) q (omega arith)) ∙ omega arith

-- THE CELLS OF A ROW

module _ (p : ℕ → Bool) (k : ℕ) {line : Bytes} {at e : ℕ} (ends : Ends TAB line at e) where
  pub adds_next : e < length line → adds p k (cells (drop at line)) ≡ bit (p k && not (is (part at e line) "null")) + adds p (k + 1) (cells (drop (e + 1) line))
  unfolding adds
  adds_next lt = rw (add-one k, piece_cut ends lt)

  pub adds_last : e ≡ length line → adds p k (cells (drop at line)) ≡ bit (p k && not (is (part at e line) "null"))
  unfolding adds
  adds_last q = rw (piece_last ends q) (omega arith)

-- no column from k on passes the test
pub adds_none : (p : ℕ → Bool) (k : ℕ) (cs : List Bytes) → ((j : ℕ) → k ≤ j → p j ≡ false) → adds p k cs ≡ 0
unfolding adds
adds_none p k [] h = refl
adds_none p k (c ∷ cs) h = rw (h k (omega arith)) (omega (arith, adds_none p (suc k) cs (λ j l. h j (omega arith))))

pub adds_alike : (p q : ℕ → Bool) (k : ℕ) (cs : List Bytes) → ((j : ℕ) → p j ≡ q j) → adds p k cs ≡ adds q k cs
unfolding adds
adds_alike p q k [] h = refl
adds_alike p q k (c ∷ cs) h = rw (h k, adds_alike p q (suc k) cs h)

-- ONE TURN over the cells of a row: cell k was counted, and those after it are left
module _ (ms : List ℕ) (k : ℕ) {line : Bytes} {at e : ℕ} (ends : Ends TAB line at e) (ws : List ℕ) {ws' : List ℕ} (long : length ws ≡ 64) (low : get_or ms k 0 ≤ 64)
    (put : ws' ≡ with_cell (get_or ms k 0) (part at e line) ws) (i : ℕ) {all : ℕ} (left : get_or ws i 0 + adds (marks ms (suc i)) k (cells (drop at line)) ≡ all) where
  counted : get_or ws' i 0 ≡ get_or ws i 0 + bit (marks ms (suc i) k && not (is (part at e line) "null"))
  counted = ap (λ (x : List ℕ). get_or x i 0) put ∙ cell_adds_lem (get_or ms k 0) (part at e line) ws (omega arith) i

  pub turn_next : e < length line → get_or ws' i 0 + adds (marks ms (suc i)) (k + 1) (cells (drop (e + 1) line)) ≡ all
  turn_next lt = omega (arith, counted, adds_next (marks ms (suc i)) k ends lt)

  pub turn_last : e ≡ length line → get_or ws' i 0 ≡ all
  turn_last q = omega (arith, counted, adds_last (marks ms (suc i)) k ends q)

-- no mark is left
pub turn_none : {ms : List ℕ} {width : ℕ} → IsMarks ms width → (k : ℕ) → width ≤ k → (cs : List Bytes) (ws : List ℕ) (i : ℕ) {all : ℕ} → get_or ws i 0 + adds (marks ms (suc i)) k cs ≡ all → get_or ws i 0 ≡ all
turn_none {ms} good k h cs ws i left =
    omega (arith, adds_none (marks ms (suc i)) k cs (λ j l. rw (good.none j (omega arith)) (ne_eqb 0 (suc i) (λ e. omega arith))))

-- THE LINES

pub lines_next : (ms : List ℕ) (i : ℕ) {f : Bytes} {s e next : ℕ} → LineAt f s e next → lines_add ms i (lines (drop s f)) ≡ line_adds ms i (part s e f) + lines_add ms i (lines (drop next f))
unfolding lines_add
lines_next ms i at = rw at.cut

pub lines_none : (ms : List ℕ) (i : ℕ) (f : Bytes) (s : ℕ) → length f ≤ s → lines_add ms i (lines (drop s f)) ≡ 0
unfolding lines_add
lines_none ms i f s h = rw (lines_done f s h)

-- a line by whether it is a protein row
module _ (ms : List ℕ) (l : Bytes) where
  pub row_room : coded (row_code mz_tab PROTEIN) l ≡ true → {ws : List ℕ} → Room (λ (i : ℕ). line_adds ms i l) ws → Room (λ (i : ℕ). adds (marks ms i) 0 (cells l)) ws
  row_room t r = record { long = r.long; fits = λ i h. rw t at (r.fits i h) }

  pub row_counted : coded (row_code mz_tab PROTEIN) l ≡ true → {ws ws' : List ℕ} → Raises (λ (i : ℕ). adds (marks ms i) 0 (cells l)) ws ws' → Raises (λ (i : ℕ). line_adds ms i l) ws ws'
  row_counted t a = record { long = a.long; each = λ i h. rw t (a.each i h) }

  pub other_line : coded (row_code mz_tab PROTEIN) l ≡ false → (ws : List ℕ) → Raises (λ (i : ℕ). line_adds ms i l) ws ws
  other_line t ws = record { long = refl; each = λ i h. rw t (omega arith) }

-- ONE TURN over the lines: the line at s has room, and was counted
module _ (ms : List ℕ) {f : Bytes} {s e next : ℕ} (at : LineAt f s e next) (ws : List ℕ) (long : length ws ≡ 64) (all : ℕ → ℕ)
    (left : (i : ℕ) → i < 64 → get_or ws i 0 + lines_add ms (suc i) (lines (drop s f)) ≡ all i) where
  pub line_room : ((i : ℕ) → i < 64 → all i ≤ LIMIT) → Room (λ (i : ℕ). line_adds ms i (part s e f)) ws
  line_room fits = record { long = long; fits = λ i h. omega (arith, left i h, lines_next ms (suc i) at, fits i h) }

  pub line_counted : {ws' : List ℕ} → Raises (λ (i : ℕ). line_adds ms i (part s e f)) ws ws' → (i : ℕ) → i < 64 → get_or ws' i 0 + lines_add ms (suc i) (lines (drop next f)) ≡ all i
  line_counted a i h = omega (arith, left i h, lines_next ms (suc i) at, a.each i h)

-- ZEROS

pub zeros : (n i : ℕ) → get_or (replicate {A = ℕ} n 0) i 0 ≡ 0
zeros zero i = refl
zeros (suc n) zero = refl
zeros (suc n) (suc i) = zeros n i
