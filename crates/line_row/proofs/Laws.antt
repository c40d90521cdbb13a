-- Cell 1 of a row, the cells after it, and a cell that breaks nothing. Assumes nothing.
use mathlib.Core.Path.{◌≡◌, refl, subst}
use mathlib.Core.Bool.{Bool, true, false, not, ◌&&◌, ◌||◌}
use mathlib.Core.List.{List}
use Prim.Native.Nat.{ℕ, ◌+◌, ◌-◌, ◌≤◌, ◌<◌}
use native.Mathlib.Omega.{arith}
use lib.Dec.{eqb, leb}
use lib.ListN.{length, drop, get_or}
use borrow.Author.Tests.{leb-true, eqb-true, not-true, not-false}
use Rattle.text_bytes.specs.Bytes.{Bytes, is_empty}
use Rattle.text_bytes.proofs.Laws.Tests.{and_left, and_right}
use Rattle.text_bytes.proofs.Laws.Each.{split_some}
use Rattle.text.specs.Lines.{TAB, cells}
use Rattle.book_kinds.specs.Kinds.{cell_of_kind}
use Rattle.rules.specs.Breaks.{break_at, when}
use Rattle.scan.specs.Places.{CELLS_MOST, LINE_MOST, Lent, Puts}
use Rattle.scan.specs.Machine.{each_cell, plain_rest, kind_cell, row_cell, row_breaks, row_first}
use Rattle.scan.proofs.Laws.Putting.{puts2}

-- a cell that has not the first control byte, is not empty, and is of its kind
pub cell_good : (kind first n c : ℕ) (x : Bytes) (o : Lent) → not ((eqb first c || is_empty x) || not (cell_of_kind kind x)) ≡ true → Puts (kind_cell kind first n c x) 3 o o
cell_good kind first n c x o = go (eqb first c) (is_empty x) (cell_of_kind kind x)
  where
    go : (hit empty good : Bool) → not ((hit || empty) || not good) ≡ true
        → Puts (λ rest. when hit (break_at n c 1) (when empty (break_at n c 19) (when (not empty && not good) (break_at n c 20) rest))) 3 o o
    go false false true e = record { does = λ rest. refl; most = omega arith }
    go false false false e = absurd (let z : ◌≡◌ {A = ℕ} 0 1 = cc in omega arith)
    go false true good e = absurd (let z : ◌≡◌ {A = ℕ} 0 1 = cc in omega arith)
    go true empty good e = absurd (let z : ◌≡◌ {A = ℕ} 0 1 = cc in omega arith)

-- a line has at least one cell
pub cell_left : (l : List ℕ) → 0 < length (cells l)
cell_left l = omega (arith, split_some TAB l)

-- the kind of cell c stands at place c - 1
pub row_turn : (kinds : List ℕ) (first n i : ℕ) (x : Bytes) {o o' : Lent} → Puts (kind_cell (get_or kinds i 0) first n (i + 1) x) 3 o o' → Puts (row_cell kinds first n (i + 1) x) 3 o o'
row_turn kinds first n i x {o} {o'} p = let z : i ≡ i + 1 - 1 = omega arith in subst (λ (j : ℕ). Puts (kind_cell (get_or kinds j 0) first n (i + 1) x) 3 o o') z p

-- a row under its header has as many cells, at most 256
pub row_narrow : (t : Bool) (w v : ℕ) → not ((t && leb w 256) && eqb v w) ≡ false → v ≤ 256
row_narrow t w v h =
    let e = not-false ((t && leb w 256) && eqb v w) h in
    omega (arith, leb-true w 256 (and_right t (leb w 256) (and_left (t && leb w 256) (eqb v w) e)), eqb-true v w (and_right (t && leb w 256) (eqb v w) e))

-- cell 1, and the cells after it
module _ (h w : ℕ) (kinds : List ℕ) (section first n : ℕ) (xs : List Bytes) {o o₁ o₂ : Lent}
    (p : Puts (row_first (eqb h section) ((eqb h section && leb w 256) && not (eqb (length xs) w)) first n) 3 o o₁) where
  pub row_under : {m : ℕ} → not ((eqb h section && leb w 256) && eqb (length xs) w) ≡ false → Puts (each_cell (row_cell kinds first n) 2 (drop 1 xs)) m o₁ o₂ → m ≤ CELLS_MOST
      → Puts (row_breaks h w kinds section first n xs) LINE_MOST o o₂
  unfolding row_breaks
  row_under t q l = record { does = λ rest. rw (not-false ((eqb h section && leb w 256) && eqb (length xs) w) t) ((puts2 p q).does rest); most = omega arith }

  pub row_other : not ((eqb h section && leb w 256) && eqb (length xs) w) ≡ true → Puts (plain_rest first n) 1 o₁ o₂ → Puts (row_breaks h w kinds section first n xs) LINE_MOST o o₂
  unfolding row_breaks
  row_other t q = record { does = λ rest. rw (not-true ((eqb h section && leb w 256) && eqb (length xs) w) t) ((puts2 p q).does rest); most = omega arith }
