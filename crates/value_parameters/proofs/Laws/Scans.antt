-- The scans' machine, by positions: one byte more, one block more, and the bar that ends a part. Assumes nothing.
use mathlib.Core.Path.{◌≡◌, refl, sym, ap, ◌∙◌}
use mathlib.Core.Bool.{Bool, true, false, cond, ◌&&◌, and-false}
use mathlib.Core.List.{List, [], ◌∷◌, ◌++◌}
use mathlib.Core.Logic.{⊎_elim}
use Prim.Native.Nat.{ℕ, suc, ◌+◌, ◌-◌, ◌≤◌, ◌<◌}
use native.Mathlib.Nat.{eq-or-lt_of_le}
use native.Mathlib.Numerals.{add-one}
use native.Mathlib.Omega.{arith}
use borrow.Author.Tests.{eq-eqb, ne_eqb, eqb-true}
use lib.Dec.{eqb}
use lib.ListN.{length, take, drop, get_or, length-drop, take-append-drop, drop_of_length-le}
use lib.Seq.{drop-drop, take_all, length-take-le, get_or-take, get_or-drop}
use Rattle.text_bytes.specs.Bytes.{all, on_first}
use Rattle.text_bytes.specs.Places.{part}
use Rattle.text_bytes.proofs.Laws.Pieces.{drop_step}
use Rattle.value_parameters.specs.Parameters.{turn, separates, cut_outside}
use Rattle.value_parameters.specs.Scan.{state, start, one_more, held, step, run}
use Rattle.value_parameters.specs.declared.Scan.{Scan}

-- ONE BYTE MORE

pub part_none : (e : ℕ) (l : List ℕ) → part e e l ≡ []
part_none e l = let z : e - e ≡ 0 = omega arith in rw z

-- the last byte of a part
pub part_final : (l : List ℕ) (at e : ℕ) → at < e → get_or (part at e l) (e - at - 1) 0 ≡ get_or l (e - 1) 0
part_final l at e h =
    let z : at + (e - at - 1) ≡ e - 1 = omega arith in
    get_or-take (e - at) (drop at l) (e - at - 1) 0 (omega arith) ∙ get_or-drop at l (e - at - 1) 0 ∙ ap (λ (j : ℕ). get_or l j 0) z

pub run_none : (bars : Bool) (st : Scan) (e : ℕ) (l : List ℕ) → run bars st (part e e l) ≡ st
unfolding run
run_none bars st e l = rw (part_none e l)

module _ (bars : Bool) (l : List ℕ) (i e : ℕ) (h : i < e) (k : e ≤ length l) where
  part_next : part i e l ≡ get_or l i 0 ∷ part (i + 1) e l
  part_next = let z : e - i ≡ suc (e - (i + 1)) = omega arith in rw (drop_step l i (omega arith), z)

  run_next : (st : Scan) → run bars st (part i e l) ≡ cond (bars && separates 124 st.quoted (get_or l i 0)) st (run bars (step st (get_or l i 0)) (part (i + 1) e l))
  unfolding run
  run_next st = rw part_next

  -- inside a quotation, and at the mark that closes it
  pub run_inner : (n : ℕ) (f g : Bool) → (get_or l i 0 ≡ 34 → ⊥) → g ≡ held n f (get_or l i 0) → run bars (state i n true f) (part i e l) ≡ run bars (state (i + 1) n true g) (part (i + 1) e l)
  run_inner n f g b w = run_next (state i n true f) ∙ rw (and-false bars, ne_eqb (get_or l i 0) 34 b, w)

  pub run_closes : (n : ℕ) (f g : Bool) → get_or l i 0 ≡ 34 → g ≡ held n f (get_or l i 0) → run bars (state i n true f) (part i e l) ≡ run bars (state (i + 1) n false g) (part (i + 1) e l)
  run_closes n f g b w = run_next (state i n true f) ∙ rw (and-false bars, eq-eqb (get_or l i 0) 34 b, w)

  -- outside one, at the mark that opens it, and at a bar
  pub run_opens : (n : ℕ) (f g : Bool) → get_or l i 0 ≡ 34 → g ≡ held n f (get_or l i 0) → run bars (state i n false f) (part i e l) ≡ run bars (state (i + 1) n true g) (part (i + 1) e l)
  run_opens n f g b w =
      run_next (state i n false f)
      ∙ rw (ne_eqb (get_or l i 0) 124 (λ z. omega arith), and-false bars, ne_eqb (get_or l i 0) 44 (λ z. omega arith), eq-eqb (get_or l i 0) 34 b, w)

  pub run_stops : (n : ℕ) (f : Bool) → (bars && eqb (get_or l i 0) 124) ≡ true → run bars (state i n false f) (part i e l) ≡ state i n false f
  run_stops n f b = run_next (state i n false f) ∙ rw b

  pub run_outer :
      (n m : ℕ) (f g : Bool) → (get_or l i 0 ≡ 34 → ⊥) → (bars && eqb (get_or l i 0) 124) ≡ false → m ≡ cond (eqb (get_or l i 0) 44) (one_more n) n
      → g ≡ cond (eqb (get_or l i 0) 44) f (held n f (get_or l i 0)) → run bars (state i n false f) (part i e l) ≡ run bars (state (i + 1) m false g) (part (i + 1) e l)
  run_outer n m f g b s v w = run_next (state i n false f) ∙ rw (s, ne_eqb (get_or l i 0) 34 b, v, w)

  -- a comma, and a byte of a field
  pub run_comma :
      (n m : ℕ) (f : Bool) → (get_or l i 0 ≡ 34 → ⊥) → (bars && eqb (get_or l i 0) 124) ≡ false → get_or l i 0 ≡ 44 → m ≡ cond (eqb (get_or l i 0) 44) (one_more n) n
      → run bars (state i n false f) (part i e l) ≡ run bars (state (i + 1) m false f) (part (i + 1) e l)
  run_comma n m f b s c v = run_outer n m f f b s v (rw (eq-eqb (get_or l i 0) 44 c))

  pub run_field :
      (n : ℕ) (f g : Bool) → (get_or l i 0 ≡ 34 → ⊥) → (bars && eqb (get_or l i 0) 124) ≡ false → (get_or l i 0 ≡ 44 → ⊥) → g ≡ held n f (get_or l i 0)
      → run bars (state i n false f) (part i e l) ≡ run bars (state (i + 1) n false g) (part (i + 1) e l)
  run_field n f g b s c w = run_outer n n f g b s (rw (ne_eqb (get_or l i 0) 44 c)) (rw (ne_eqb (get_or l i 0) 44 c) w)

-- ONE BLOCK MORE

-- a run goes no further than its text
run_least : (bars : Bool) (st : Scan) (x : List ℕ) → st.at ≤ (run bars st x).at
unfolding run
run_least bars st [] = omega arith
run_least bars st (b ∷ x) = go (bars && separates 124 st.quoted b) (run_least bars (step st b) x)
  where
    go : (t : Bool) → st.at + 1 ≤ (run bars (step st b) x).at → st.at ≤ (cond t st (run bars (step st b) x)).at
    go true h = omega arith
    go false h = omega arith

run_most : (bars : Bool) (st : Scan) (x : List ℕ) → (run bars st x).at ≤ st.at + length x
unfolding run
run_most bars st [] = omega arith
run_most bars st (b ∷ x) = go (bars && separates 124 st.quoted b) (run_most bars (step st b) x)
  where
    go : (t : Bool) → (run bars (step st b) x).at ≤ st.at + 1 + length x → (cond t st (run bars (step st b) x)).at ≤ st.at + suc (length x)
    go true h = omega arith
    go false h = omega arith

-- one that reaches the end of its text goes on from there, and one that stops before has stopped
pub run_goes : (bars : Bool) (st : Scan) (x y : List ℕ) → (run bars st x).at ≡ st.at + length x → run bars st (x ++ y) ≡ run bars (run bars st x) y
unfolding run
run_goes bars st [] y h = refl
run_goes bars st (b ∷ x) y h = go (bars && separates 124 st.quoted b) h (run_goes bars (step st b) x y)
  where
    go : (t : Bool) → (cond t st (run bars (step st b) x)).at ≡ st.at + suc (length x)
        → ((run bars (step st b) x).at ≡ st.at + 1 + length x → run bars (step st b) (x ++ y) ≡ run bars (run bars (step st b) x) y)
        → cond t st (run bars (step st b) (x ++ y)) ≡ run bars (cond t st (run bars (step st b) x)) y
    go true k ih = absurd (omega arith)
    go false k ih = ih (omega arith)

run_stands : (bars : Bool) (st : Scan) (x y : List ℕ) → (run bars st x).at < st.at + length x → run bars st (x ++ y) ≡ run bars st x
unfolding run
run_stands bars st [] y h = absurd (omega arith)
run_stands bars st (b ∷ x) y h = go (bars && separates 124 st.quoted b) h (run_stands bars (step st b) x y)
  where
    go : (t : Bool) → (cond t st (run bars (step st b) x)).at < st.at + suc (length x)
        → ((run bars (step st b) x).at < st.at + 1 + length x → run bars (step st b) (x ++ y) ≡ run bars (step st b) x)
        → cond t st (run bars (step st b) (x ++ y)) ≡ cond t st (run bars (step st b) x)
    go true k ih = refl
    go false k ih = ih (omega arith)

-- one that stands where it began is as it was
run_same : (bars : Bool) (st : Scan) (x : List ℕ) → (run bars st x).at ≡ st.at → run bars st x ≡ st
unfolding run
run_same bars st [] h = refl
run_same bars st (b ∷ x) h = go (bars && separates 124 st.quoted b) h (run_least bars (step st b) x)
  where
    go : (t : Bool) → (cond t st (run bars (step st b) x)).at ≡ st.at → st.at + 1 ≤ (run bars (step st b) x).at → cond t st (run bars (step st b) x) ≡ st
    go true k m = refl
    go false k m = absurd (omega arith)

module _ (bars : Bool) (l : List ℕ) (st r : Scan) (e : ℕ) (h : st.at ≤ e) (k : e ≤ length l) (w : r ≡ run bars st (part st.at e l)) where
  long : length (part st.at e l) ≡ e - st.at
  long = length-take-le (e - st.at) (drop st.at l) (omega (arith, length-drop st.at l))

  block_part : part st.at e l ++ drop e l ≡ drop st.at l
  block_part =
      let z : st.at + (e - st.at) ≡ e = omega arith in
      ap (λ (j : ℕ). part st.at e l ++ drop j l) (sym z) ∙ ap (λ (x : List ℕ). part st.at e l ++ x) (sym (drop-drop (e - st.at) st.at l)) ∙ take-append-drop (e - st.at) (drop st.at l)

  reached : r.at ≡ (run bars st (part st.at e l)).at
  reached = ap (λ (x : Scan). x.at) w

  pub block_within : (st.at ≤ r.at) × (r.at ≤ e)
  block_within = (omega (arith, reached, run_least bars st (part st.at e l)), omega (arith, reached, long, run_most bars st (part st.at e l)))

  pub block_same : r.at ≡ st.at → r ≡ st
  block_same q = w ∙ run_same bars st (part st.at e l) (sym reached ∙ q)

  pub block_end : e ≤ r.at → r.at ≡ e
  block_end q = omega (arith, block_within.1)

  pub block_goes : e ≤ r.at → run bars st (drop st.at l) ≡ run bars r (drop r.at l)
  block_goes q =
      ap (run bars st) (sym block_part)
      ∙ run_goes bars st (part st.at e l) (drop e l) (omega (arith, reached, long, block_within.1))
      ∙ ap (λ (x : Scan). run bars x (drop e l)) (sym w)
      ∙ ap (λ (j : ℕ). run bars r (drop j l)) (sym (block_end q))

  pub block_stands : r.at < e → run bars st (drop st.at l) ≡ r
  block_stands q = ap (run bars st) (sym block_part) ∙ run_stands bars st (part st.at e l) (drop e l) (omega (arith, reached, long)) ∙ sym w

-- at the end of the text nothing is left
pub run_done : (bars : Bool) (l : List ℕ) (st : Scan) → length l ≤ st.at → run bars st (drop st.at l) ≡ st
unfolding run
run_done bars l st h = rw (drop_of_length-le l h)

-- THE BAR THAT ENDS A PART

-- how many bytes stand before the first bar outside marks; all where there is none
reach : Bool → List ℕ → ℕ
reach q [] = 0
reach q (b ∷ x) = cond (separates 124 q b) 0 (suc (reach (turn q b) x))

reach_le : (q : Bool) (x : List ℕ) → reach q x ≤ length x
unfolding reach
reach_le q [] = omega arith
reach_le q (b ∷ x) = go (separates 124 q b) (reach_le (turn q b) x)
  where
    go : (t : Bool) → reach (turn q b) x ≤ length x → cond t 0 (suc (reach (turn q b) x)) ≤ suc (length x)
    go true h = omega arith
    go false h = omega arith

-- where bars separate, the run is that over the part before the bar
run_part : (st : Scan) (x : List ℕ) → run true st x ≡ run false st (take (reach st.quoted x) x)
unfolding run reach
run_part st [] = refl
run_part st (b ∷ x) = go (separates 124 st.quoted b) (run_part (step st b) x)
  where
    m : ℕ
    m = reach (turn st.quoted b) x

    go : (t : Bool) → run true (step st b) x ≡ run false (step st b) (take m x) → cond t st (run true (step st b) x) ≡ run false st (take (cond t 0 (suc m)) (b ∷ x))
    go true ih = refl
    go false ih = ih

pub run_all : (st : Scan) (x : List ℕ) → (run false st x).at ≡ st.at + length x
unfolding run
run_all st [] = omega arith
run_all st (b ∷ x) = omega (arith, run_all (step st b) x)

-- a bar outside marks is no mark: no quotation is open after it
bar_outside : (q : Bool) (b : ℕ) → separates 124 q b ≡ true → turn q b ≡ false
bar_outside true b e = absurd (let z : ◌≡◌ {A = ℕ} 0 1 = cc in omega arith)
bar_outside false b e = rw (ne_eqb b 34 (λ z. omega (arith, eqb-true b 124 e)))

cut_bar : (q : Bool) (x : List ℕ) → reach q x < length x → cut_outside 124 q x ≡ take (reach q x) x ∷ cut_outside 124 false (drop (reach q x + 1) x)
unfolding cut_outside reach on_first
cut_bar q [] h = absurd (omega arith)
cut_bar q (b ∷ x) h = go (separates 124 q b) refl h (cut_bar (turn q b) x)
  where
    m : ℕ
    m = reach (turn q b) x

    go : (t : Bool) → separates 124 q b ≡ t → cond t 0 (suc m) < suc (length x)
        → (m < length x → cut_outside 124 (turn q b) x ≡ take m x ∷ cut_outside 124 false (drop (m + 1) x))
        → cond t ([] ∷ cut_outside 124 (turn q b) x) (on_first b (cut_outside 124 (turn q b) x)) ≡ take (cond t 0 (suc m)) (b ∷ x) ∷ cut_outside 124 false (drop (cond t 0 (suc m) + 1) (b ∷ x))
    go true e k ih = rw (bar_outside q b e)
    go false e k ih = rw (ih (omega arith), add-one m, add-one (suc m))

cut_last : (q : Bool) (x : List ℕ) → reach q x ≡ length x → cut_outside 124 q x ≡ x ∷ []
unfolding cut_outside reach on_first
cut_last q [] h = refl
cut_last q (b ∷ x) h = go (separates 124 q b) h (cut_last (turn q b) x)
  where
    m : ℕ
    m = reach (turn q b) x

    go : (t : Bool) → cond t 0 (suc m) ≡ suc (length x) → (m ≡ length x → cut_outside 124 (turn q b) x ≡ x ∷ [])
        → cond t ([] ∷ cut_outside 124 (turn q b) x) (on_first b (cut_outside 124 (turn q b) x)) ≡ (b ∷ x) ∷ []
    go true k ih = absurd (omega arith)
    go false k ih = rw (ih (omega arith))

-- A PART, by positions: the run from its start up to a bar outside marks, or to the end

module _ (l : List ℕ) (at : ℕ) (st : Scan) (h : at ≤ length l) where
  whole_place : st ≡ run false (start at) (drop at l) → st.at ≡ length l
  whole_place w = omega (arith, ap (λ (x : Scan). x.at) w, run_all (start at) (drop at l), length-drop at l)

  -- where bars separate nothing, it is all that is left
  pub whole_run : st ≡ run false (start at) (drop at l) → (st.at ≡ length l) × (st ≡ run false (start at) (part at st.at l))
  whole_run w =
      let z : st.at - at ≡ length l - at = omega (arith, whole_place w) in
      (whole_place w, w ∙ ap (run false (start at)) (sym (rw z (take_all (length l - at) (drop at l) (omega (arith, length-drop at l))))))

  module _ (w : st ≡ run true (start at) (drop at l)) where
    r : ℕ
    r = reach false (drop at l)

    bar_place : (st.at ≡ at + r) × (r ≤ length l - at)
    unfolding r
    bar_place =
        let k = reach_le false (drop at l) in
        let d = length-drop at l in
        let t = length-take-le (reach false (drop at l)) (drop at l) k in
        (omega (arith, ap (λ (x : Scan). x.at) (w ∙ run_part (start at) (drop at l)), run_all (start at) (take (reach false (drop at l)) (drop at l))), omega arith)

    pub bar_within : (at ≤ st.at) × (st.at ≤ length l)
    bar_within = omega (arith, bar_place)

    pub bar_run : st ≡ run false (start at) (part at st.at l)
    unfolding r
    bar_run = let z : st.at - at ≡ r = omega (arith, bar_place) in w ∙ run_part (start at) (drop at l) ∙ rw z

    bar_cut : st.at < length l → cut_outside 124 false (drop at l) ≡ part at st.at l ∷ cut_outside 124 false (drop (st.at + 1) l)
    unfolding r
    bar_cut lt =
        let z : st.at - at ≡ r = omega (arith, bar_place) in
        let j : st.at + 1 ≡ at + (r + 1) = omega (arith, bar_place) in
        rw (z, j, ← drop-drop (r + 1) at l) (cut_bar false (drop at l) (omega (arith, bar_place, length-drop at l)))

    bar_end : st.at ≡ length l → cut_outside 124 false (drop at l) ≡ part at st.at l ∷ []
    unfolding r
    bar_end q =
        rw (take_all (st.at - at) (drop at l) (omega (arith, length-drop at l))) (cut_last false (drop at l) (omega (arith, bar_place, length-drop at l)))

    module _ (p : List ℕ → Bool) where
      pub bar_good : st.at < length l → p (part at st.at l) ≡ true → all p (cut_outside 124 false (drop at l)) ≡ all p (cut_outside 124 false (drop (st.at + 1) l))
      unfolding all
      bar_good lt g = rw (bar_cut lt, g)

      pub bar_last : st.at ≡ length l → p (part at st.at l) ≡ true → all p (cut_outside 124 false (drop at l)) ≡ true
      unfolding all
      bar_last q g = rw (bar_end q, g)

      pub bar_bad : p (part at st.at l) ≡ false → all p (cut_outside 124 false (drop at l)) ≡ false
      unfolding all
      bar_bad g = ⊎_elim (λ (q : st.at ≡ length l). rw (bar_end q, g)) (λ (q : st.at < length l). rw (bar_cut q, g)) (eq-or-lt_of_le bar_within.1)
