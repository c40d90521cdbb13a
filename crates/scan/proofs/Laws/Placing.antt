-- What stands in the lent places after breaks were put: break i in the places 4 i to 4 i + 3 where those are there, and every other place as it
-- was. Assumes nothing.
use mathlib.Core.Path.{◌≡◌, refl, ap, ◌∙◌}
use mathlib.Core.Bool.{Bool, true, false, cond}
use mathlib.Core.List.{List, [], ◌∷◌}
use mathlib.Core.Logic.{◌⊎◌, inl, inr, ⊎_elim}
use Prim.Native.Nat.{ℕ, zero, suc, ◌+◌, ◌*◌, ◌≤◌, ◌<◌}
use native.Mathlib.Nat.{not-suc-le-zero}
use native.Mathlib.Omega.{arith}
use lib.Dec.{leb}
use lib.Seq.{get_or-set_same, get_or-set_other}
use lib.ListN.{length, get_or, set, length-set}
use borrow.Author.Tests.{le-leb, lt-leb, leb-true, leb-false}
use Rattle.rules.specs.Breaks.{Break, break_at}
use Rattle.scan.specs.Places.{Written, lent, four, put, put_all}

-- ONE BREAK

-- the places of a break are a to a + 3
four_other : (ys : List ℕ) (a : ℕ) (f : Break) (j : ℕ) → (j < a) ⊎ (a + 4 ≤ j) → get_or (four ys a f) j 0 ≡ get_or ys j 0
four_other ys a f j h =
    let apart : (i : ℕ) → a ≤ i → i < a + 4 → j ≡ i → ⊥ = λ i p q e. ⊎_elim (λ (u : j < a). omega arith) (λ (u : a + 4 ≤ j). omega arith) h in
    get_or-set_other (set (set (set ys a f.rule) (a + 1) f.line) (a + 2) f.cell) (a + 3) j f.first 0 (apart (a + 3) (omega arith) (omega arith))
    ∙ get_or-set_other (set (set ys a f.rule) (a + 1) f.line) (a + 2) j f.cell 0 (apart (a + 2) (omega arith) (omega arith))
    ∙ get_or-set_other (set ys a f.rule) (a + 1) j f.line 0 (apart (a + 1) (omega arith) (omega arith))
    ∙ get_or-set_other ys a j f.rule 0 (apart a (omega arith) (omega arith))

module _ (ys : List ℕ) (k : ℕ) (f : Break) where
  abbrev after : List ℕ
  after = cond (leb (4 * k + 4) (length ys)) (four ys (4 * k) f) ys

  after_length : length after ≡ length ys
  after_length = go (leb (4 * k + 4) (length ys))
    where
      go : (t : Bool) → length (cond t (four ys (4 * k) f) ys) ≡ length ys
      go true = simp length-set
      go false = refl

  after_other : (j : ℕ) → (j < 4 * k) ⊎ (4 * k + 4 ≤ j) → get_or after j 0 ≡ get_or ys j 0
  after_other j h = go (leb (4 * k + 4) (length ys))
    where
      go : (t : Bool) → get_or (cond t (four ys (4 * k) f) ys) j 0 ≡ get_or ys j 0
      go true = four_other ys (4 * k) f j h
      go false = refl

  after_full : length ys < 4 * k + 4 → after ≡ ys
  after_full h = rw (lt-leb (4 * k + 4) (length ys) h)

after_holds : (ys : List ℕ) (k : ℕ) (f : Break) → 4 * k + 4 ≤ length ys → Written (after ys k f) (4 * k) f
after_holds ys k f h =
    let a = 4 * k in
    let l₁ = length-set ys a f.rule in
    let l₂ = length-set (set ys a f.rule) (a + 1) f.line in
    let two = set (set ys a f.rule) (a + 1) f.line in
    let three = set two (a + 2) f.cell in
    let l₃ = length-set two (a + 2) f.cell in
    rw (le-leb (4 * k + 4) (length ys) h) (record {
      rule = get_or-set_other three (a + 3) a f.first 0 (λ e. omega arith)
          ∙ get_or-set_other two (a + 2) a f.cell 0 (λ e. omega arith)
          ∙ get_or-set_other (set ys a f.rule) (a + 1) a f.line 0 (λ e. omega arith) ∙ get_or-set_same ys a f.rule 0 (omega arith);
      line = get_or-set_other three (a + 3) (a + 1) f.first 0 (λ e. omega arith)
          ∙ get_or-set_other two (a + 2) (a + 1) f.cell 0 (λ e. omega arith)
          ∙ get_or-set_same (set ys a f.rule) (a + 1) f.line 0 (omega (arith, l₁));
      cell = get_or-set_other three (a + 3) (a + 2) f.first 0 (λ e. omega arith) ∙ get_or-set_same two (a + 2) f.cell 0 (omega (arith, l₁, l₂));
      first = get_or-set_same three (a + 3) f.first 0 (omega (arith, l₁, l₂, l₃));
    })

-- ALL BREAKS, from break k on

abbrev placed : List ℕ → ℕ → List Break → List ℕ
placed ys k fs = (put_all (lent ys k) fs).places

pub placed_length : (fs : List Break) (ys : List ℕ) (k : ℕ) → length (placed ys k fs) ≡ length ys
unfolding put_all put
placed_length [] ys k = refl
placed_length (f ∷ fs) ys k = placed_length fs (after ys k f) (k + 1) ∙ after_length ys k f

-- what was put before is kept
pub placed_below : (fs : List Break) (ys : List ℕ) (k j : ℕ) → j < 4 * k → get_or (placed ys k fs) j 0 ≡ get_or ys j 0
unfolding put_all put
placed_below [] ys k j h = refl
placed_below (f ∷ fs) ys k j h = placed_below fs (after ys k f) (k + 1) j (omega arith) ∙ after_other ys k f j (inl h)

-- past the last break nothing is written
pub placed_above : (fs : List Break) (ys : List ℕ) (k j : ℕ) → 4 * (k + length fs) ≤ j → get_or (placed ys k fs) j 0 ≡ get_or ys j 0
unfolding put_all put
placed_above [] ys k j h = refl
placed_above (f ∷ fs) ys k j h = placed_above fs (after ys k f) (k + 1) j (omega arith) ∙ after_other ys k f j (inr (omega arith))

-- where a break has not all of its places, nothing is written
pub placed_short : (fs : List Break) (ys : List ℕ) (k q j : ℕ) → length ys < 4 * q + 4 → 4 * q ≤ j → get_or (placed ys k fs) j 0 ≡ get_or ys j 0
unfolding put_all put
placed_short [] ys k q j h l = refl
placed_short (f ∷ fs) ys k q j h l = placed_short fs (after ys k f) (k + 1) q j (omega (arith, after_length ys k f)) l ∙ go (leb (suc k) q) refl
  where
    go : (t : Bool) → leb (suc k) q ≡ t → get_or (after ys k f) j 0 ≡ get_or ys j 0
    go true e = after_other ys k f j (inr (omega (arith, leb-true (suc k) q e)))
    go false e = ap (λ (l : List ℕ). get_or l j 0) (after_full ys k f (omega (arith, leb-false (suc k) q e)))

-- break i stands at its places, where they are there
pub placed_at : (fs : List Break) (ys : List ℕ) (k i : ℕ) → i < length fs → 4 * (k + i) + 4 ≤ length ys → Written (placed ys k fs) (4 * (k + i)) (get_or fs i (break_at 0 0 0))
unfolding put_all put
placed_at [] ys k i h l = absurd (not-suc-le-zero h)
placed_at (f ∷ fs) ys k zero h l =
    let z : k + 0 ≡ k = omega arith in
    let b = after_holds ys k f (omega arith) in
    rw z (record {
      rule = placed_below fs (after ys k f) (k + 1) (4 * k) (omega arith) ∙ b.rule;
      line = placed_below fs (after ys k f) (k + 1) (4 * k + 1) (omega arith) ∙ b.line;
      cell = placed_below fs (after ys k f) (k + 1) (4 * k + 2) (omega arith) ∙ b.cell;
      first = placed_below fs (after ys k f) (k + 1) (4 * k + 3) (omega arith) ∙ b.first;
    })
placed_at (f ∷ fs) ys k (suc i) h l =
    let z : k + suc i ≡ k + 1 + i = omega arith in
    rw z (placed_at fs (after ys k f) (k + 1) i (omega arith) (omega (arith, after_length ys k f)))
