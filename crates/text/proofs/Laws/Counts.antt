-- How many elements pass a test, and how many lines of a file do, line by line. Assumes nothing.
use mathlib.Core.Path.{◌≡◌}
use mathlib.Core.Bool.{Bool, true, false, cond, ◌&&◌}
use mathlib.Core.List.{List, [], ◌∷◌}
use Prim.Native.Nat.{ℕ, zero, suc, ◌+◌, ◌≤◌, ◌<◌}
use native.Mathlib.Omega.{arith}
use lib.Dec.{eqb}
use lib.ListN.{length, drop, get_or}
use Rattle.text_bytes.specs.Bytes.{Bytes, count, on_first}
use Rattle.text_bytes.specs.Places.{part}
use Rattle.text.specs.Lines.{lines, starts_lf}
use Rattle.text.specs.Places.{LineAt}
use Rattle.text_bytes.proofs.Laws.Pieces.{on_first_length}
use Rattle.text.proofs.Laws.Lines.{lines_done}

-- the line at s passes the test or does not; those after it are left
module _ (p : Bytes → Bool) {f : Bytes} {s e next : ℕ} (at : LineAt f s e next) where
  pub count_hit : p (part s e f) ≡ true → count p (lines (drop s f)) ≡ 1 + count p (lines (drop next f))
  unfolding count
  count_hit t = rw (at.cut, t) (omega arith)

  pub count_miss : p (part s e f) ≡ false → count p (lines (drop s f)) ≡ count p (lines (drop next f))
  unfolding count
  count_miss t = rw (at.cut, t)

-- no line is left
pub count_done : (p : Bytes → Bool) (f : Bytes) (s : ℕ) → length f ≤ s → count p (lines (drop s f)) ≡ 0
unfolding count
count_done p f s h = rw (lines_done f s h)

-- at most all
pub count_most : {A : Type 0} (p : A → Bool) (xs : List A) → count p xs ≤ length xs
unfolding count
count_most p [] = omega arith
count_most p (x ∷ xs) = go (p x) (count_most p xs)
  where
    go : (t : Bool) → count p xs ≤ length xs → cond t (suc (count p xs)) (count p xs) ≤ suc (length xs)
    go true h = omega arith
    go false h = omega arith

-- fewer than all where one does not pass
pub count_less : {A : Type 0} (p : A → Bool) (xs : List A) (d : A) (i : ℕ) → i < length xs → p (get_or xs i d) ≡ false → count p xs < length xs
unfolding count
count_less p [] d i h e = absurd (omega arith)
count_less p (x ∷ xs) d zero h e = rw e (omega (arith, count_most p xs))
count_less p (x ∷ xs) d (suc i) h e = go (p x) (count_less p xs d i (omega arith) e)
  where
    go : (t : Bool) → count p xs < length xs → cond t (suc (count p xs)) (count p xs) < suc (length xs)
    go true h = omega arith
    go false h = omega arith

-- a file has at most as many lines as bytes
pub lines_most : (b : Bytes) → length (lines b) ≤ length b
unfolding lines
lines_most [] = omega arith
lines_most (x ∷ xs) = go (eqb x 10) (eqb x 13 && starts_lf xs) (lines_most xs)
  where
    go : (t u : Bool) → length (lines xs) ≤ length xs → length (cond t ([] ∷ lines xs) (cond u (lines xs) (on_first x (lines xs)))) ≤ suc (length xs)
    go true u h = omega arith
    go false true h = omega arith
    go false false h = omega (arith, on_first_length x (lines xs))
