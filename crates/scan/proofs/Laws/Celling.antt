-- The cells of a line, by positions, in loops that judge them one by one. Assumes nothing.
use mathlib.Core.Path.{◌≡◌, refl, sym, ap, ◌∙◌}
use mathlib.Core.Bool.{Bool, true, false, cond, ◌||◌, or-false}
use mathlib.Core.List.{List, [], ◌∷◌, ◌++◌}
use mathlib.Core.Logic.{⊎_elim}
use Prim.Native.Nat.{ℕ, suc, ◌+◌, ◌-◌, ◌≤◌, ◌<◌}
use native.Mathlib.Nat.{eq-or-lt_of_le}
use native.Mathlib.Numerals.{add-one}
use native.Mathlib.Omega.{arith}
use lib.Dec.{eqb}
use lib.Seq.{take_all, take-suc, take-nil, get_or-drop, drop-drop}
use lib.ListN.{length, take, drop, get_or, length-take, length-drop}
use Rattle.text_bytes.specs.Bytes.{Bytes, any, first_from, first_kept, on_first, split_on}
use Rattle.text_bytes.specs.Places.{Ends}
use Rattle.text.specs.Lines.{cells}
use Rattle.text_bytes.proofs.Laws.Each.{any_append}
use Rattle.text_bytes.proofs.Laws.Pieces.{piece_cut, piece_last}
use Rattle.text_bytes.proofs.Laws.Firsts.{first_more}
use Rattle.rules.specs.Breaks.{Break}
use Rattle.scan.specs.Places.{Lent, put_all, Puts}
use Rattle.scan.specs.Machine.{each_cell}
use Rattle.scan.proofs.Laws.Putting.{puts_none}

module _ {l : List ℕ} {s e : ℕ} (h : Ends 9 l s e) where
  -- the cell that ends at e, and those after it
  pub cell_here : cells (drop s l) ≡ take (e - s) (drop s l) ∷ drop 1 (cells (drop s l))
  cell_here = ⊎_elim (λ (q : e ≡ length l). rw (piece_last h q)) (λ (q : e < length l). rw (piece_cut h q)) (eq-or-lt_of_le h.within)

  pub cells_next : e < length l → drop 1 (cells (drop s l)) ≡ cells (drop (e + 1) l)
  cells_next lt = rw (piece_cut h lt)

  pub cells_last : e ≡ length l → drop 1 (cells (drop s l)) ≡ []
  cells_last q = rw (piece_last h q)

  -- ONE TURN OF A LOOP OVER CELLS: cell c was judged, and the cells after it are left
  module _ (F : ℕ → Bytes → List Break → List Break) (c : ℕ) {m : ℕ} {o o' : Lent} (p : Puts (F c (take (e - s) (drop s l))) m o o') (rest : List Break) where
    turn : put_all o' (each_cell F (suc c) (drop 1 (cells (drop s l))) rest) ≡ put_all o (each_cell F c (cells (drop s l)) rest)
    unfolding each_cell
    turn = rw (cell_here) (p.does (each_cell F (suc c) (drop 1 (cells (drop s l))) rest))

    pub turn_next : e < length l → put_all o' (each_cell F (c + 1) (cells (drop (e + 1) l)) rest) ≡ put_all o (each_cell F c (cells (drop s l)) rest)
    turn_next lt = rw (add-one c, ← cells_next lt) turn

    pub turn_last : e ≡ length l → put_all o' rest ≡ put_all o (each_cell F c (cells (drop s l)) rest)
    unfolding each_cell
    turn_last q = rw (cells_last q) at turn

-- nothing is put where there is no cell
pub each_none : (F : ℕ → Bytes → List Break → List Break) (c : ℕ) (xs : List Bytes) (o : Lent) → xs ≡ [] → Puts (each_cell F c xs) 0 o o
unfolding each_cell
each_none F c xs o e = rw e (puts_none o)

module _ (xs : List Bytes) {x : Bytes} {tail : List Bytes} (c : ℕ) (low : 2 ≤ c) (here : drop (c - 2) xs ≡ x ∷ tail) where
  pub column_here : get_or xs (c - 2) [] ≡ x
  column_here =
      let z : c - 2 + 0 ≡ c - 2 = omega arith in
      ap (λ (i : ℕ). get_or xs i []) (sym z) ∙ sym (get_or-drop (c - 2) xs 0 []) ∙ ap (λ (l : List Bytes). get_or l 0 []) here

  pub column_next : drop (c + 1 - 2) xs ≡ tail
  column_next =
      let z : c + 1 - 2 ≡ c - 2 + 1 = omega arith in
      rw (z, ← drop-drop 1 (c - 2) xs, here)

  pub column_count : length xs ≡ c - 1 + length tail
  column_count = omega (arith, length-drop (c - 2) xs, ap length here)

-- NAMES BEFORE

-- with one more
pub any_one_more : {A : Type 0} (f : A → Bool) (xs : List A) (x : A) → any f (xs ++ (x ∷ [])) ≡ (any f xs || f x)
unfolding any
any_one_more f xs x = any_append f xs (x ∷ []) ∙ ap (λ (t : Bool). any f xs || t) (or-false (f x))

-- one name more
pub any_more : (f : Bytes → Bool) (xs : List Bytes) {x : Bytes} {tail : List Bytes} (c : ℕ) → 2 ≤ c → drop (c - 2) xs ≡ x ∷ tail
    → (any f (take (c - 2) xs) || f x) ≡ any f (take (c + 1 - 2) xs)
any_more f xs {x} {tail} c low here =
    let z : c + 1 - 2 ≡ suc (c - 2) = omega arith in
    rw (z, take-suc xs (c - 2) [] (omega (arith, length-drop (c - 2) xs, ap length here)), column_here xs c low here) (sym (any_one_more f (take (c - 2) xs) x))

-- and where it stands first
pub first_more_name : (f : Bytes → Bool) (xs : List Bytes) {x : Bytes} {tail : List Bytes} (c : ℕ) → 2 ≤ c → drop (c - 2) xs ≡ x ∷ tail
    → first_kept (first_from 2 f (take (c - 2) xs)) (f x) c ≡ first_from 2 f (take (c + 1 - 2) xs)
first_more_name f xs {x} {tail} c low here =
    let z : c + 1 - 2 ≡ suc (c - 2) = omega arith in
    let w : 2 + length (take (c - 2) xs) ≡ c = omega (arith, length-take (c - 2) xs, length-drop (c - 2) xs, ap length here) in
    rw (z, take-suc xs (c - 2) [] (omega (arith, length-drop (c - 2) xs, ap length here)), column_here xs c low here)
    (sym (first_more f 2 (take (c - 2) xs) x (omega arith) ∙ ap (first_kept (first_from 2 f (take (c - 2) xs)) (f x)) w))

-- the first of `left` cells, by positions
module _ {l : List ℕ} {s e : ℕ} (h : Ends 9 l s e) (f : Bytes → Bool) (left : ℕ) (some : 0 < left) where
  any_cells : any f (take left (cells (drop s l))) ≡ (f (take (e - s) (drop s l)) || any f (take (left - 1) (drop 1 (cells (drop s l)))))
  unfolding any
  any_cells = let z : left ≡ suc (left - 1) = omega arith in
      ap (λ (k : ℕ). any f (take k (cells (drop s l)))) z ∙ ap (λ (q : List Bytes). any f (take (suc (left - 1)) q)) (cell_here h)

  pub any_hit : f (take (e - s) (drop s l)) ≡ true → any f (take left (cells (drop s l))) ≡ true
  any_hit t = any_cells ∙ rw t

  pub any_next : f (take (e - s) (drop s l)) ≡ false → e < length l → any f (take left (cells (drop s l))) ≡ any f (take (left - 1) (cells (drop (e + 1) l)))
  any_next t lt = any_cells ∙ rw (t, cells_next h lt)

  pub any_last : f (take (e - s) (drop s l)) ≡ false → e ≡ length l → any f (take left (cells (drop s l))) ≡ false
  unfolding any
  any_last t q = any_cells ∙ rw (t, cells_last h q, take-nil (left - 1))

cells_front : (b : ℕ) (l : List ℕ) → 1 ≤ length (split_on b l)
unfolding split_on on_first
cells_front b [] = omega arith
cells_front b (x ∷ xs) = go (eqb x b) (cells_front b xs)
  where
    on_firstd : (ps : List Bytes) → 1 ≤ length (on_first x ps)
    on_firstd [] = omega arith
    on_firstd (p ∷ ps) = omega arith

    go : (t : Bool) → 1 ≤ length (split_on b xs) → 1 ≤ length (cond t ([] ∷ split_on b xs) (on_first x (split_on b xs)))
    go true h = omega arith
    go false h = on_firstd (split_on b xs)

-- one cell is the whole text
on_first_one : (x : ℕ) (ps : List Bytes) → length (on_first x ps) ≡ 1 → length ps ≤ 1
unfolding on_first
on_first_one x [] h = omega arith
on_first_one x (p ∷ ps) h = omega arith

pub only : (l : List ℕ) → length (cells l) ≡ 1 → cells l ≡ l ∷ []
unfolding split_on on_first
only [] h = refl
only (x ∷ xs) h = go (eqb x 9) h (only xs) (cells_front 9 xs)
  where
    go : (t : Bool) → length (cond t ([] ∷ cells xs) (on_first x (cells xs))) ≡ 1 → (length (cells xs) ≡ 1 → cells xs ≡ xs ∷ []) → 1 ≤ length (cells xs) → cond t ([] ∷ cells xs) (on_first x (cells xs)) ≡ (x ∷ xs) ∷ []
    go true k ih s = absurd (omega arith)
    go false k ih s = rw (ih (omega (arith, on_first_one x (cells xs) k)))

-- three cells, by positions
module _ {l : List ℕ} {e f : ℕ} (h : Ends 9 l 0 e) (k : Ends 9 l (e + 1) f) (n : length (cells l) ≡ 3) where
  pub three_first : e < length l
  three_first = ⊎_elim (λ (q : e ≡ length l). absurd (omega (arith, ap length (cell_here h), ap length (cells_last h q)))) (λ (q : e < length l). q) (eq-or-lt_of_le h.within)

  pub three_second : f < length l
  three_second = ⊎_elim (λ (q : f ≡ length l). absurd (omega (arith, ap length (cell_here h), ap length (cells_next h three_first), ap length (cell_here k), ap length (cells_last k q)))) (λ (q : f < length l). q) (eq-or-lt_of_le k.within)

  pub three_cells : drop 1 (cells l) ≡ take (f - (e + 1)) (drop (e + 1) l) ∷ take (length l - (f + 1)) (drop (f + 1) l) ∷ []
  three_cells = cells_next h three_first ∙ cell_here k ∙ rw (cells_next k three_second) (ap (λ (q : List Bytes). take (f - (e + 1)) (drop (e + 1) l) ∷ q) last)
    where
      one : length (cells (drop (f + 1) l)) ≡ 1
      one = omega (arith, ap length (cell_here h), ap length (cells_next h three_first), ap length (cell_here k), ap length (cells_next k three_second))

      last : cells (drop (f + 1) l) ≡ take (length l - (f + 1)) (drop (f + 1) l) ∷ []
      last = only (drop (f + 1) l) one ∙ ap (λ (q : Bytes). q ∷ []) (sym (take_all (length l - (f + 1)) (drop (f + 1) l) (omega (arith, length-drop (f + 1) l))))

  pub three_key : get_or (cells l) 1 [] ≡ take (f - (e + 1)) (drop (e + 1) l)
  three_key = get_d_next (cells l) ∙ ap (λ (q : List Bytes). get_or q 0 []) three_cells
    where
      get_d_next : (ps : List Bytes) → get_or ps 1 [] ≡ get_or (drop 1 ps) 0 []
      get_d_next [] = refl
      get_d_next (p ∷ ps) = refl
