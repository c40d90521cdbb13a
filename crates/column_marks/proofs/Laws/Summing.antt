-- Sums over the cells of a row and over the lines of a file, one turn at a time. Assumes nothing.
use mathlib.Core.Path.{◌≡◌, refl}
use mathlib.Core.Bool.{Bool, true, false, cond}
use mathlib.Core.List.{List, [], ◌∷◌}
use Prim.Native.Nat.{ℕ, suc, ◌+◌, ◌-◌, ◌*◌, ◌≤◌, ◌<◌}
use native.Mathlib.Nat.{mul-suc}
use native.Mathlib.Numerals.{add-one}
use native.Mathlib.Omega.{arith}
use lib.Dec.{ltb}
use lib.ListN.{length, drop}
use borrow.Author.Tests.{ltb-true, ltb-false}
use Rattle.text_bytes.specs.Bytes.{Bytes, count}
use Rattle.text.specs.Lines.{TAB, lines, cells}
use Rattle.text_bytes.specs.Places.{part, Ends}
use Rattle.text.specs.Places.{LineAt}
use Rattle.text_bytes.proofs.Laws.Pieces.{piece_cut, piece_last}
use Rattle.text.proofs.Laws.Lines.{lines_done}
use Rattle.scan.proofs.Laws.Celling.{cell_here}
use Rattle.fee_shares.specs.Sums.{bit}
use Rattle.column_marks.specs.Sums.{sum_cells, sum_lines}

-- THE CELLS OF A ROW

module _ (f : ℕ → Bytes → ℕ) (k : ℕ) {line : Bytes} {at e : ℕ} (ends : Ends TAB line at e) where
  pub cells_next : e < length line → sum_cells f k (cells (drop at line)) ≡ f k (part at e line) + sum_cells f (k + 1) (cells (drop (e + 1) line))
  unfolding sum_cells
  cells_next lt = rw (add-one k, piece_cut ends lt)

  pub cells_last : e ≡ length line → sum_cells f k (cells (drop at line)) ≡ f k (part at e line)
  unfolding sum_cells
  cells_last q = rw (piece_last ends q) (omega arith)

  -- the first adds no more than all
  pub cells_least : f k (part at e line) ≤ sum_cells f k (cells (drop at line))
  unfolding sum_cells
  cells_least = rw (cell_here ends) (omega arith)

-- no column from k on adds anything
pub cells_none : (f : ℕ → Bytes → ℕ) (k : ℕ) (cs : List Bytes) → ((j : ℕ) (c : Bytes) → k ≤ j → f j c ≡ 0) → sum_cells f k cs ≡ 0
unfolding sum_cells
cells_none f k [] h = refl
cells_none f k (c ∷ cs) h = omega (arith, h k c (omega arith), cells_none f (suc k) cs (λ j d l. h j d (omega arith)))

pub cells_alike : (f g : ℕ → Bytes → ℕ) (k : ℕ) (cs : List Bytes) → ((j : ℕ) (c : Bytes) → f j c ≡ g j c) → sum_cells f k cs ≡ sum_cells g k cs
unfolding sum_cells
cells_alike f g k [] h = refl
cells_alike f g k (c ∷ cs) h = rw (h k c, cells_alike f g (suc k) cs h)

-- two sums at once
pub cells_both : (f g h : ℕ → Bytes → ℕ) (k : ℕ) (cs : List Bytes) → ((j : ℕ) (c : Bytes) → h j c ≡ f j c + g j c) → sum_cells h k cs ≡ sum_cells f k cs + sum_cells g k cs
unfolding sum_cells
cells_both f g h k [] e = refl
cells_both f g h k (c ∷ cs) e = omega (arith, e k c, cells_both f g h (suc k) cs e)

-- no cell adds more than m, and none from column w on anything
pub cells_most : (f : ℕ → Bytes → ℕ) (m w : ℕ) → ((j : ℕ) (c : Bytes) → f j c ≤ m) → ((j : ℕ) (c : Bytes) → w ≤ j → f j c ≡ 0) → (k : ℕ) (cs : List Bytes) → sum_cells f k cs ≤ m * (w - k)
unfolding sum_cells
cells_most f m w h z k [] = omega arith
cells_most f m w h z k (c ∷ cs) = go (ltb k w) refl (cells_most f m w h z (suc k) cs)
  where
    go : (t : Bool) → ltb k w ≡ t → sum_cells f (suc k) cs ≤ m * (w - suc k) → f k c + sum_cells f (suc k) cs ≤ m * (w - k)
    go true e ih =
        let l = ltb-true k w e in
        let q : w - k ≡ suc (w - suc k) = omega arith in
        rw (q, mul-suc m (w - suc k)) (omega (arith, h k c))
    go false e ih =
        let l = ltb-false k w e in
        let n = cells_none f (suc k) cs (λ j d b. z j d (omega arith)) in
        omega (arith, z k c l)

-- THE LINES

pub lines_next : (f : Bytes → ℕ) {file : Bytes} {s e next : ℕ} → LineAt file s e next → sum_lines f (lines (drop s file)) ≡ f (part s e file) + sum_lines f (lines (drop next file))
unfolding sum_lines
lines_next f at = rw at.cut

pub lines_none : (f : Bytes → ℕ) (file : Bytes) (s : ℕ) → length file ≤ s → sum_lines f (lines (drop s file)) ≡ 0
unfolding sum_lines
lines_none f file s h = rw (lines_done file s h)

pub lines_alike : (f g : Bytes → ℕ) (ls : List Bytes) → ((l : Bytes) → f l ≡ g l) → sum_lines f ls ≡ sum_lines g ls
unfolding sum_lines
lines_alike f g [] h = refl
lines_alike f g (l ∷ ls) h = rw (h l, lines_alike f g ls h)

pub lines_both : (f g h : Bytes → ℕ) (ls : List Bytes) → ((l : Bytes) → h l ≡ f l + g l) → sum_lines h ls ≡ sum_lines f ls + sum_lines g ls
unfolding sum_lines
lines_both f g h [] e = refl
lines_both f g h (l ∷ ls) e = omega (arith, e l, lines_both f g h ls e)

-- how many pass a test
pub lines_count : (p : Bytes → Bool) (ls : List Bytes) → sum_lines (λ (l : Bytes). bit (p l)) ls ≡ count p ls
unfolding sum_lines count
lines_count p [] = refl
lines_count p (l ∷ ls) = go (p l) (lines_count p ls)
  where
    go : (t : Bool) → sum_lines (λ (x : Bytes). bit (p x)) ls ≡ count p ls → bit t + sum_lines (λ (x : Bytes). bit (p x)) ls ≡ cond t (suc (count p ls)) (count p ls)
    go true h = omega arith
    go false h = omega arith

-- where no line adds more than m
pub lines_most : (f : Bytes → ℕ) (m : ℕ) (ls : List Bytes) → ((l : Bytes) → f l ≤ m) → sum_lines f ls ≤ m * length ls
unfolding sum_lines
lines_most f m [] h = omega arith
lines_most f m (l ∷ ls) h = omega (arith, h l, lines_most f m ls h, mul-suc m (length ls))
