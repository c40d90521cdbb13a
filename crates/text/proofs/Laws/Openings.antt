-- Lines passed over: a line end that no line of the byte follows is one line more. Assumes nothing.
use mathlib.Core.Path.{◌≡◌, refl, sym, ap, subst, ◌∙◌}
use mathlib.Core.Bool.{Bool, true, false, cond, ◌&&◌, ◌||◌}
use mathlib.Core.List.{List, [], ◌∷◌}
use Prim.Native.Nat.{ℕ, ◌+◌, ◌≤◌, ◌<◌}
use native.Mathlib.Nat.{eq-or-lt_of_le}
use native.Mathlib.Omega.{arith}
use mathlib.Core.Logic.{⊎_elim}
use lib.Dec.{eqb}
use lib.ListN.{length, drop, get_or, drop_of_length-le}
use borrow.Author.Tests.{eq-eqb, ne_eqb}
use Rattle.text_bytes.specs.Bytes.{Bytes, any, begins, on_first}
use Rattle.text_bytes.proofs.Laws.Pieces.{drop_step}
use Rattle.text_bytes.proofs.Laws.Tests.{absurd_bool, or_none}
use Rattle.text.specs.Lines.{LF, starts_lf, lines}
use Rattle.text.proofs.Laws.Lines.{lines_done}
use Rattle.text.specs.Openings.{below, Passed, none, more, Quiet, Passes, Reaches}

-- THE FIRST LINE of some bytes, and the lines below
first : Bytes → Bytes
first s = get_or (lines s) 0 []

first_below : (x : ℕ) (xs : Bytes) → lines (x ∷ xs) ≡ first (x ∷ xs) ∷ below (x ∷ xs)
unfolding first lines below starts_lf on_first
first_below x [] = go (eqb x 10) (eqb x 13)
  where
    go : (t u : Bool) → cond t ([] ∷ []) (cond (u && false) [] ((x ∷ []) ∷ [])) ≡ get_or (cond t ([] ∷ []) (cond (u && false) [] ((x ∷ []) ∷ []))) 0 [] ∷ cond t [] []
    go true u = refl
    go false true = refl
    go false false = refl
first_below x (y ∷ ys) = go (eqb x 10) (eqb x 13 && eqb y 10) (lines (y ∷ ys)) (first_below y ys)
  where
    go : (t u : Bool) (ls : List Bytes) → ls ≡ get_or ls 0 [] ∷ below (y ∷ ys) → cond t ([] ∷ ls) (cond u ls (on_first x ls)) ≡ get_or (cond t ([] ∷ ls) (cond u ls (on_first x ls))) 0 [] ∷ cond t ls (below (y ∷ ys))
    go true u ls e = refl
    go false true ls e = e
    go false false [] e = absurd (omega (arith, ap length e))
    go false false (l ∷ ls) e = ap (λ (r : List Bytes). (x ∷ l) ∷ drop 1 r) e

-- the first line begins with another byte where they do
first_other : (b x : ℕ) (xs : Bytes) → (x ≡ b → ⊥) → begins (b ∷ []) (first (x ∷ xs)) ≡ false
unfolding first lines starts_lf on_first begins
first_other b x [] ne = go (eqb x 10) (eqb x 13)
  where
    go : (t u : Bool) → begins (b ∷ []) (get_or (cond t ([] ∷ []) (cond (u && false) [] ((x ∷ []) ∷ []))) 0 []) ≡ false
    go true u = refl
    go false true = rw (ne_eqb b x (λ e. ne (sym e)))
    go false false = rw (ne_eqb b x (λ e. ne (sym e)))
first_other b x (y ∷ ys) ne = go (eqb x 10) (eqb x 13) (eqb y 10) refl (lines ys) (cond (eqb y 13 && starts_lf ys) (lines ys) (on_first y (lines ys)))
  where
    go : (t u v : Bool) → eqb y 10 ≡ v → (ls ms : List Bytes) → begins (b ∷ []) (get_or (cond t ([] ∷ cond v ([] ∷ ls) ms) (cond (u && v) (cond v ([] ∷ ls) ms) (on_first x (cond v ([] ∷ ls) ms)))) 0 []) ≡ false
    go true u v e ls ms = refl
    go false true true e ls ms = refl
    go false true false e ls [] = rw (ne_eqb b x (λ e. ne (sym e)))
    go false true false e ls (m ∷ ms) = rw (ne_eqb b x (λ e. ne (sym e)))
    go false false true e ls ms = rw (ne_eqb b x (λ e. ne (sym e)))
    go false false false e ls [] = rw (ne_eqb b x (λ e. ne (sym e)))
    go false false false e ls (m ∷ ms) = rw (ne_eqb b x (λ e. ne (sym e)))

-- PASSED: lines and lines again
pub passed_both : {b n : ℕ} {x y : List Bytes} {m : ℕ} {z : List Bytes} → Passed b x n y → Passed b y m z → Passed b x (n + m) z
passed_both {b} {n} {x} {y} {m} {z} p none = subst (λ (k : ℕ). Passed b x k z) (let e : n ≡ n + 0 = omega arith in e) p
passed_both {b} {n} {x} {y} {m} {z} p (more {n = k} l q o) = subst (λ (j : ℕ). Passed b x j z) (let e : n + k + 1 ≡ n + (k + 1) = omega arith in e) (more l (passed_both p q) o)

-- a test that no line of another byte passes is passed by one of the first lines just where it is by one of the rest
pub passed_any : {b : ℕ} {x : List Bytes} {n : ℕ} {y : List Bytes} (p : Bytes → Bool) → ((l : Bytes) → begins (b ∷ []) l ≡ false → p l ≡ false) → Passed b x n y → any p x ≡ any p y
unfolding any
passed_any p h none = refl
passed_any p h (more {rest = rest} l q o) = passed_any p h q ∙ ap (λ (t : Bool). t || any p rest) (h l o)

module _ (b : ℕ) (file : Bytes) (i : ℕ) where
  -- a line that begins at a place with another byte
  line_passed : i < length file → (get_or file i 0 ≡ b → ⊥) → Passed b (lines (drop i file)) 1 (below (drop i file))
  line_passed l ne = rw (drop_step file i l) (more {n = 0} (first (get_or file i 0 ∷ drop (i + 1) file)) (subst (λ (ls : List Bytes). Passed b (lines (get_or file i 0 ∷ drop (i + 1) file)) 0 ls) (first_below (get_or file i 0) (drop (i + 1) file)) none) (first_other b (get_or file i 0) (drop (i + 1) file) ne))

  -- a byte that ends no line
  step_other : i < length file → (get_or file i 0 ≡ LF → ⊥) → below (drop i file) ≡ below (drop (i + 1) file)
  unfolding below
  step_other l ne = rw (drop_step file i l, ne_eqb (get_or file i 0) 10 ne)

  -- and one that does
  step_end : i < length file → get_or file i 0 ≡ LF → below (drop i file) ≡ lines (drop (i + 1) file)
  unfolding below
  step_end l e = rw (drop_step file i l, eq-eqb (get_or file i 0) 10 e)

  -- the last byte
  step_last : length file ≡ i + 1 → below (drop i file) ≡ []
  unfolding below lines
  step_last e = rw (drop_step file i (omega (arith, e)), drop_of_length-le file (let l : length file ≤ i + 1 = omega (arith, e) in l)) (go (eqb (get_or file i 0) 10))
    where
      go : (t : Bool) → ◌≡◌ {A = List Bytes} (cond t [] []) []
      go true = refl
      go false = refl

-- a line end with another byte behind it: one line more
passed_next : (b : ℕ) (file : Bytes) (i : ℕ) {n : ℕ} {ls : List Bytes} → i + 1 < length file → get_or file i 0 ≡ LF → (get_or file (i + 1) 0 ≡ b → ⊥) → Passed b ls n (below (drop i file))
    → Passed b ls (n + 1) (below (drop (i + 1) file))
passed_next b file i {n} {ls} l e ne p = passed_both (subst (Passed b ls n) (step_end b file i (omega arith) e) p) (line_passed b file (i + 1) l ne)

-- A BLOCK: no LF stands before b among the first k bytes
abbrev pub Still : ℕ → Bytes → ℕ → ℕ → Type 0
Still b file at k = (j : ℕ) → j < k → get_or file (at + j) 0 ≡ LF → get_or file (at + j + 1) 0 ≡ b → ⊥

pub still_more : (b : ℕ) (file : Bytes) (at k : ℕ) (hit : Bool) → (hit ≡ false → Still b file at k) → (hit || (eqb (get_or file (at + k) 0) 10 && eqb (get_or file (at + k + 1) 0) b)) ≡ false → Still b file at (k + 1)
still_more b file at k hit h e j l p q =
    let o = or_none hit (eqb (get_or file (at + k) 0) 10 && eqb (get_or file (at + k + 1) 0) b) e in
    ⊎_elim (λ (s : j ≡ k). absurd_bool (sym o.1 ∙ rw (eq-eqb (get_or file (at + k) 0) 10 (rw s at p), eq-eqb (get_or file (at + k + 1) 0) b (rw s at q)) refl)) (λ (s : j < k). h o.0 j s p q) (eq-or-lt_of_le (omega arith))

-- so many lines are passed with its first k bytes
abbrev pub Counted : Bytes → ℕ → ℕ → ℕ → Type 0
Counted file at n k = (n ≤ k) × ((b : ℕ) → Quiet b file at → Passed b (below (drop at file)) n (below (drop (at + k) file)))

pub counted_none : (file : Bytes) (at : ℕ) → Counted file at 0 0
counted_none file at = (omega arith, λ b q. subst (λ (i : ℕ). Passed b (below (drop at file)) 0 (below (drop i file))) (let e : at ≡ at + 0 = omega arith in e) none)

module _ (file : Bytes) (at n k : ℕ) (few : k < 64) (room : at + 64 < length file) (c : Counted file at n k) where
  further : (m : ℕ) → ((b : ℕ) → Quiet b file at → Passed b (below (drop at file)) m (below (drop (at + k + 1) file))) → m ≤ k + 1 → Counted file at m (k + 1)
  further m p l = (l, λ b q. subst (λ (i : ℕ). Passed b (below (drop at file)) m (below (drop i file))) (let e : at + k + 1 ≡ at + (k + 1) = omega arith in e) (p b q))

  pub counted_end : get_or file (at + k) 0 ≡ LF → Counted file at (n + 1) (k + 1)
  counted_end e = further (n + 1) (λ b q. passed_next b file (at + k) (omega arith) e (q k few e) (c.1 b q)) (omega (arith, c.0))

  pub counted_other : (get_or file (at + k) 0 ≡ LF → ⊥) → Counted file at n (k + 1)
  counted_other ne = further n (λ b q. subst (Passed b (below (drop at file)) n) (step_other b file (at + k) (omega arith) ne) (c.1 b q)) (omega (arith, c.0))

-- FROM A PLACE to another
module _ {b : ℕ} {file : Bytes} {from : ℕ} where
  pub passes_none : from < length file → Passes b file from from 0
  passes_none l = record { on = omega arith; within = l; few = omega arith; passed = none }

  module _ {at n : ℕ} (p : Passes b file from at n) where
    -- a block
    pub passes_block : (m : ℕ) → at + 64 < length file → m ≤ 64 → Passed b (below (drop at file)) m (below (drop (at + 64) file)) → Passes b file from (at + 64) (n + m)
    passes_block m l few q = record { on = omega (arith, p.on); within = l; few = omega (arith, p.few); passed = passed_both p.passed q }

    -- a byte
    pub passes_end : at + 1 < length file → get_or file at 0 ≡ LF → (get_or file (at + 1) 0 ≡ b → ⊥) → Passes b file from (at + 1) (n + 1)
    passes_end l e ne = record { on = omega (arith, p.on); within = l; few = omega (arith, p.few); passed = passed_next b file at l e ne p.passed }

    pub passes_other : at + 1 < length file → (get_or file at 0 ≡ LF → ⊥) → Passes b file from (at + 1) n
    passes_other l ne =
        record { on = omega (arith, p.on); within = l; few = omega (arith, p.few); passed = subst (Passed b (below (drop from file)) n) (step_other b file at (omega arith) ne) p.passed }

    -- the line at the first place, and those below it
    reached : (get_or file from 0 ≡ b → ⊥) → {ls : List Bytes} → below (drop at file) ≡ ls → Passed b (lines (drop from file)) (n + 1) ls
    reached ne {ls} e =
        let q = passed_both (line_passed b file from (omega (arith, p.on, p.within)) ne) (subst (Passed b (below (drop from file)) n) e p.passed) in
        subst (λ (k : ℕ). Passed b (lines (drop from file)) k ls) (let s : 1 + n ≡ n + 1 = omega arith in s) q

    pub reaches_opening : (get_or file from 0 ≡ b → ⊥) → at + 1 < length file → get_or file at 0 ≡ LF → Reaches b file from (at + 1) (n + 1)
    reaches_opening ne l e = record { on = omega (arith, p.on); within = omega arith; few = omega (arith, p.few); passed = reached ne (step_end b file at (omega arith) e) }

    pub reaches_end : (get_or file from 0 ≡ b → ⊥) → length file ≤ at + 1 → Reaches b file from (length file) (n + 1)
    reaches_end ne l =
        let e : length file ≡ at + 1 = omega (arith, p.within) in
        record {
          on = omega (arith, p.on, e);
          within = omega arith;
          few = omega (arith, p.few, e);
          passed = reached ne (step_last b file at e ∙ sym (lines_done file (length file) (omega arith)));
        }
