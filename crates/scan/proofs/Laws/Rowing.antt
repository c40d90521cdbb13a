-- From the rules at each cell by its number to the cells in a row, and where only rule 1 judges them. Assumes nothing.
use mathlib.Core.Path.{◌≡◌, refl, sym, ap, ◌∙◌}
use mathlib.Core.Bool.{Bool, true, false, cond}
use mathlib.Core.List.{List, [], ◌∷◌, ◌++◌, append_assoc}
use Prim.Native.Nat.{ℕ, suc, ◌+◌, ◌≤◌, ◌<◌}
use native.Mathlib.Omega.{arith}
use lib.Dec.{eqb, leb}
use lib.Seq.{get_or-drop, drop-drop}
use lib.ListN.{length, drop, get_or, length-drop}
use borrow.Author.Tests.{le-leb, lt-leb, leb-true, eqb-true, eqb-false}
use Rattle.text_bytes.specs.Bytes.{Bytes, any, on_first, split_on}
use Rattle.text_bytes.proofs.Laws.Firsts.{first_below}
use Rattle.text.specs.Lines.{cells, control, width}
use Rattle.rules.specs.Sorts.{control_cell}
use Rattle.rules.specs.Breaks.{Break, break_at, when, each}
use Rattle.scan.specs.Machine.{each_cell, control_at, plain_rest}

pub cells_some : (b : ℕ) (l : List ℕ) → split_on b l ≡ get_or (split_on b l) 0 [] ∷ drop 1 (split_on b l)
unfolding split_on on_first
cells_some b [] = refl
cells_some b (x ∷ xs) = go (eqb x b)
  where
    front : (ps : List Bytes) → on_first x ps ≡ get_or (on_first x ps) 0 [] ∷ drop 1 (on_first x ps)
    front [] = refl
    front (p ∷ ps) = refl

    go : (t : Bool) → cond t ([] ∷ split_on b xs) (on_first x (split_on b xs)) ≡ get_or (cond t ([] ∷ split_on b xs) (on_first x (split_on b xs))) 0 [] ∷ drop 1 (cond t ([] ∷ split_on b xs) (on_first x (split_on b xs)))
    go true = refl
    go false = front (split_on b xs)

module _ (G : ℕ → List Break) (F : ℕ → Bytes → List Break → List Break) (ys : List Bytes) where
  -- F says of each cell from cell i + 1 on what G says
  abbrev pub Says : ℕ → Type 0
  Says i = (j : ℕ) → i ≤ j → j < length ys → (rest : List Break) → G (suc j) ++ rest ≡ F (suc j) (get_or ys j []) rest

  pub each_cells : (i : ℕ) (xs : List Bytes) → drop i ys ≡ xs → Says i → (rest : List Break) → each (length xs) (suc i) G ++ rest ≡ each_cell F (suc i) xs rest
  unfolding each each_cell
  each_cells i [] e h rest = refl
  each_cells i (x ∷ xs) e h rest =
      let z : i ≡ i + 0 = omega arith in
      let w : suc i ≡ i + 1 = omega arith in
      let here : get_or ys i [] ≡ x = ap (λ (k : ℕ). get_or ys k []) z ∙ sym (get_or-drop i ys 0 []) ∙ ap (λ (q : List Bytes). get_or q 0 []) e in
      let next : drop (suc i) ys ≡ xs = ap (λ (k : ℕ). drop k ys) w ∙ sym (drop-drop 1 i ys) ∙ ap (λ (q : List Bytes). drop 1 q) e in
      append_assoc (G (suc i)) (each (length xs) (suc (suc i)) G) rest
      ∙ h i (omega arith) (omega (arith, length-drop i ys, ap length e)) (each (length xs) (suc (suc i)) G ++ rest)
      ∙ rw (here, each_cells (suc i) xs next (λ j l. h j (omega arith)) rest)

-- a line whose cell 1 is judged by `first`, and the cells after it by F
module _ (G : ℕ → List Break) (first : List Break → List Break) (F : ℕ → Bytes → List Break → List Break) (l : Bytes) where
  pub line_cells : ((rest : List Break) → G 1 ++ rest ≡ first rest) → Says G F (cells l) 1 → (rest : List Break) → each (width l) 1 G ++ rest ≡ first (each_cell F 2 (drop 1 (cells l)) rest)
  unfolding each
  line_cells h k rest =
      let m : length (cells l) ≡ suc (length (drop 1 (cells l))) = ap length (cells_some 9 l) in
      rw m (append_assoc (G 1) (each (length (drop 1 (cells l))) 2 G) rest
      ∙ h (each (length (drop 1 (cells l))) 2 G ++ rest)
      ∙ rw (each_cells G F (cells l) 1 (drop 1 (cells l)) refl k rest))

-- two tests that follow from each other
pub test_eq : (t u : Bool) → (t ≡ true → u ≡ true) → (u ≡ true → t ≡ true) → t ≡ u
test_eq true u f g = sym (f refl)
test_eq false true f g = g refl
test_eq false false f g = refl

-- ONLY RULE 1: one cell has the first control byte

unfoldable pub plain_cell : ℕ → ℕ → ℕ → Bytes → List Break → List Break
plain_cell cc n c x rest = control_at cc n c rest

plain_each : (cc n c : ℕ) (xs : List Bytes) (rest : List Break) → cc < c + length xs → each_cell (plain_cell cc n) c xs rest ≡ when (leb c cc) (break_at n cc 1) rest
unfolding each_cell plain_cell
plain_each cc n c [] rest h = rw (lt-leb c cc (omega arith))
plain_each cc n c (x ∷ xs) rest h = rw (plain_each cc n (suc c) xs rest (omega arith)) (go (eqb cc c) refl)
  where
    go : (t : Bool) → eqb cc c ≡ t → when t (break_at n c 1) (when (leb (suc c) cc) (break_at n cc 1) rest) ≡ when (leb c cc) (break_at n cc 1) rest
    go true e = let q : cc ≡ c = eqb-true cc c e in rw (q, lt-leb (suc c) c (omega arith), le-leb c c (omega arith))
    go false e = ap (λ (t : Bool). when t (break_at n cc 1) rest) (test_eq (leb (suc c) cc) (leb c cc) (λ h. le-leb c cc (omega (arith, leb-true (suc c) cc h)))
        (λ h. le-leb (suc c) cc (omega (arith, leb-true c cc h, eqb-false cc c e))))

pub plain_rest_lem : (n : ℕ) (l : Bytes) (rest : List Break) → each_cell (plain_cell (control_cell l) n) 2 (drop 1 (cells l)) rest ≡ plain_rest (control_cell l) n rest
plain_rest_lem n l rest = plain_each (control_cell l) n 2 (drop 1 (cells l)) rest (omega (arith, first_below (any control) 1 (cells l) (omega arith), ap length (cells_some 9 l)))
