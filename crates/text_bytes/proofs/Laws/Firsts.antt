-- The first element that passes a test, by its number: how it goes on, and what stands there. Assumes nothing.
use Prim.Native.Nat.{ℕ, zero, suc, ◌+◌, ◌-◌, ◌≤◌, ◌<◌}
use mathlib.Core.Path.{◌≡◌, refl, ap, ◌∙◌}
use mathlib.Core.Bool.{Bool, true, false, cond, not, ◌||◌}
use mathlib.Core.List.{List, [], ◌∷◌, ◌++◌}
use native.Mathlib.Omega.{arith}
use lib.Dec.{eqb}
use lib.ListN.{length, get_or}
use borrow.Author.Tests.{ne_eqb}
use Rattle.text_bytes.specs.Bytes.{any, first_from, first_kept}
use Rattle.text_bytes.proofs.Laws.Tests.{absurd_bool}

-- an element that does not pass changes no first
pub kept_none : (first n : ℕ) → first ≡ first_kept first false n
kept_none zero n = refl
kept_none (suc f) n = rw (ne_eqb (suc f) 0 (λ e. omega arith))

-- two tests that agree on every element
pub first_alike : {A : Type 0} (p q : A → Bool) → ((x : A) → p x ≡ q x) → (n : ℕ) (xs : List A) → first_from n p xs ≡ first_from n q xs
unfolding first_from
first_alike p q h n [] = refl
first_alike p q h n (x ∷ xs) = rw (h x, first_alike p q h (suc n) xs)

module _ {A : Type 0} (p : A → Bool) where
  -- it is one of the elements' numbers, or 0
  pub first_below : (n : ℕ) (xs : List A) → 0 < n → first_from n p xs < n + length xs
  unfolding first_from
  first_below n [] h = omega arith
  first_below n (x ∷ xs) h = go (p x) (first_below (suc n) xs (omega arith))
    where
      go : (t : Bool) → first_from (suc n) p xs < suc n + length xs → cond t n (first_from (suc n) p xs) < n + suc (length xs)
      go true l = omega arith
      go false l = omega arith

  -- some element passes exactly where there is a first
  pub first_any : (n : ℕ) (xs : List A) → 0 < n → not (eqb (first_from n p xs) 0) ≡ any p xs
  unfolding first_from any
  first_any n [] h = refl
  first_any n (x ∷ xs) h = go (p x) (first_any (suc n) xs (omega arith))
    where
      go : (t : Bool) → not (eqb (first_from (suc n) p xs) 0) ≡ any p xs → not (eqb (cond t n (first_from (suc n) p xs)) 0) ≡ (t || any p xs)
      go true e = rw (ne_eqb n 0 (λ z. omega arith))
      go false e = e

  -- one element more
  pub first_more : (n : ℕ) (xs : List A) (x : A) → 0 < n → first_from n p (xs ++ (x ∷ [])) ≡ first_kept (first_from n p xs) (p x) (n + length xs)
  unfolding first_from
  first_more n [] x h = let z : n + 0 ≡ n = omega arith in rw z
  first_more n (y ∷ ys) x h = go (p y) (first_more (suc n) ys x (omega arith))
    where
      go : (t : Bool) → first_from (suc n) p (ys ++ (x ∷ [])) ≡ first_kept (first_from (suc n) p ys) (p x) (suc n + length ys)
          → cond t n (first_from (suc n) p (ys ++ (x ∷ []))) ≡ first_kept (cond t n (first_from (suc n) p ys)) (p x) (n + suc (length ys))
      go true e = rw (ne_eqb n 0 (λ z. omega arith))
      go false e = let z : suc n + length ys ≡ n + suc (length ys) = omega arith in e ∙ ap (first_kept (first_from (suc n) p ys) (p x)) z

  -- WHAT STANDS THERE: it passes, and none before it does
  pub record FirstAt (xs : List A) (d : A) (n f : ℕ) : Type 0 where
    pub low : n ≤ f
    pub high : f < n + length xs
    pub passes : p (get_or xs (f - n) d) ≡ true
    pub earliest : (i : ℕ) → n + i < f → p (get_or xs i d) ≡ false

  pub first_at : (n : ℕ) (xs : List A) (d : A) → any p xs ≡ true → FirstAt xs d n (first_from n p xs)
  unfolding first_from any
  first_at n [] d h = absurd_bool h
  first_at n (x ∷ xs) d h = go (p x) refl h (first_at (suc n) xs d)
    where
      go : (t : Bool) → p x ≡ t → (t || any p xs) ≡ true → (any p xs ≡ true → FirstAt xs d (suc n) (first_from (suc n) p xs)) → FirstAt (x ∷ xs) d n (cond t n (first_from (suc n) p xs))
      go true e m later = let z : n - n ≡ 0 = omega arith in record { low = omega arith; high = omega arith; passes = rw z e; earliest = λ i l. absurd (omega arith) }
      go false e m later =
          let f = later m in
          let z : first_from (suc n) p xs - n ≡ suc (first_from (suc n) p xs - suc n) = omega (arith, f.low) in
          record {
            low = omega (arith, f.low);
            high = omega (arith, f.high);
            passes = rw z f.passes;
            earliest = earlier f.earliest;
          }
        where
          earlier : ((i : ℕ) → suc n + i < first_from (suc n) p xs → p (get_or xs i d) ≡ false) → (i : ℕ) → n + i < first_from (suc n) p xs → p (get_or (x ∷ xs) i d) ≡ false
          earlier k zero l = e
          earlier k (suc i) l = k i (omega arith)
