-- Numbers in the order of remainders: where k are not more than n, exactly k of the n have fewer than k before them. Assumes nothing.
use Prim.Native.Nat.{ℕ, zero, suc, ◌+◌, ◌-◌, ◌*◌, ◌≤◌, ◌<◌}
use mathlib.Core.Path.{◌≡◌, refl, ap, ◌∙◌}
use mathlib.Core.Bool.{Bool, true, false, ◌&&◌, ◌||◌}
use native.Mathlib.Omega.{arith}
use lib.Dec.{eqb, ltb}
use borrow.Author.Tests.{eqb-true, eqb-false, ltb-true, ltb-false, lt-ltb, le-ltb}
use Rattle.fee_shares.specs.Sums.{sum_to, bit}
use Rattle.fee_shares.specs.Shares.{before, ahead}
use Rattle.fee_shares.proofs.Laws.Sums.{sum_same, sum_le, sum_lt, sum_most, bit_le, bit_most, ltb_same}

-- THE ORDER
module _ (r : ℕ → ℕ) where
  pub reads : (j i : ℕ) → before r j i ≡ true → (r i ≤ r j) × (r j ≤ r i → j < i)
  unfolding before
  reads j i e = go (ltb (r i) (r j)) refl (eqb (r j) (r i)) refl e
    where
      go :
          (a : Bool) → ltb (r i) (r j) ≡ a → (b : Bool) → eqb (r j) (r i) ≡ b → (a || (b && ltb j i)) ≡ true
          → (r i ≤ r j) × (r j ≤ r i → j < i)
      go true p b q e = omega (arith, ltb-true (r i) (r j) p)
      go false p true q e = (omega (arith, eqb-true (r j) (r i) q), λ h. ltb-true j i e)
      go false p false q e = absurd (let z : ◌≡◌ {A = ℕ} 0 1 = cc in omega arith)

  pub unreads : (j i : ℕ) → before r j i ≡ false → (r j ≤ r i) × (r i ≤ r j → i ≤ j)
  unfolding before
  unreads j i e = go (ltb (r i) (r j)) refl (eqb (r j) (r i)) refl e
    where
      go :
          (a : Bool) → ltb (r i) (r j) ≡ a → (b : Bool) → eqb (r j) (r i) ≡ b → (a || (b && ltb j i)) ≡ false
          → (r j ≤ r i) × (r i ≤ r j → i ≤ j)
      go true p b q e = absurd (let z : ◌≡◌ {A = ℕ} 0 1 = cc in omega arith)
      go false p true q e = (ltb-false (r i) (r j) p, λ h. ltb-false j i e)
      go false p false q e = let ne = eqb-false (r j) (r i) q in omega (arith, ltb-false (r i) (r j) p)

  pub makes : (j i : ℕ) → r i ≤ r j → (r j ≤ r i → j < i) → before r j i ≡ true
  makes j i h k = go (before r j i) refl
    where
      go : (b : Bool) → before r j i ≡ b → b ≡ true
      go true e = refl
      go false e = let u = unreads j i e in absurd (omega (arith, k u.0, u.1 h))

  pub self : (i : ℕ) → before r i i ≡ false
  self i = go (before r i i) refl
    where
      go : (b : Bool) → before r i i ≡ b → b ≡ false
      go false e = refl
      go true e = let u = reads i i e in absurd (omega (arith, u.1 u.0))

  pub trans : (j k i : ℕ) → before r j k ≡ true → before r k i ≡ true → before r j i ≡ true
  trans j k i p q =
      let u = reads j k p in
      let v = reads k i q in
      makes j i (omega arith) (λ h. omega (arith, u.1 (omega arith), v.1 (omega arith)))

  pub one_way : (j i : ℕ) → (j ≡ i → ⊥) → before r j i ≡ false → before r i j ≡ true
  one_way j i ne e = let u = unreads j i e in makes i j u.0 (λ h. omega (arith, u.1 h))

-- ONE NUMBER MORE, n after those below it
module _ (r : ℕ → ℕ) (n : ℕ) where
  behind : (i : ℕ) → before r n i ≡ true → ahead n r n ≤ ahead n r i
  behind i h =
      sum_le n (λ (j : ℕ). bit (before r j n)) (λ (j : ℕ). bit (before r j i))
      (λ j l. bit_le (before r j n) (before r j i) (λ e. trans r j n i e h))

  front : (i : ℕ) → i < n → before r n i ≡ false → ahead n r i < ahead n r n
  front i l h =
      let t : before r i n ≡ true = one_way r n i (λ e. omega arith) h in
      sum_lt n i (λ (j : ℕ). bit (before r j i)) (λ (j : ℕ). bit (before r j n))
      (λ j q. bit_le (before r j i) (before r j n) (λ e. trans r j i n e t)) l (rw (self r i, t) (omega arith))

  shift : (k i : ℕ) → i < n → ltb (ahead n r i + bit (before r n i)) k ≡ ltb (ahead n r i) (k - bit (ltb (ahead n r n) k))
  shift k i l = go (before r n i) refl (ltb (ahead n r n) k) refl
    where
      go :
          (a : Bool) → before r n i ≡ a → (b : Bool) → ltb (ahead n r n) k ≡ b
          → ltb (ahead n r i + bit a) k ≡ ltb (ahead n r i) (k - bit b)
      go true p true q = ltb_same (ahead n r i + 1) k (ahead n r i) (k - 1) (omega arith) (omega arith)
      go true p false q =
          let u = ltb-false (ahead n r n) k q in
          let v = behind i p in
          ltb_same (ahead n r i + 1) k (ahead n r i) (k - 0) (omega arith) (omega arith)
      go false p true q =
          let u = ltb-true (ahead n r n) k q in
          let v = front i l p in
          ltb_same (ahead n r i + 0) k (ahead n r i) (k - 1) (omega arith) (omega arith)
      go false p false q = ltb_same (ahead n r i + 0) k (ahead n r i) (k - 0) (omega arith) (omega arith)

last :
    (n k : ℕ) (r : ℕ → ℕ) → k ≤ suc n → ahead n r n ≤ n * 1 → (x : ℕ)
    → (k - bit (ltb (ahead n r n) k) ≤ n → x ≡ k - bit (ltb (ahead n r n) k)) → x + bit (ltb (ahead n r n + bit (before r n n)) k) ≡ k
last n k r h p x f = rw (self r n) (go (ltb (ahead n r n) k) refl f)
  where
    go : (b : Bool) → ltb (ahead n r n) k ≡ b → (k - bit b ≤ n → x ≡ k - bit b) → x + bit (ltb (ahead n r n + 0) k) ≡ k
    go true e f =
        let u = ltb-true (ahead n r n) k e in
        rw (lt-ltb (ahead n r n + 0) k (omega arith)) (omega (arith, f (omega arith)))
    go false e f =
        let u = ltb-false (ahead n r n) k e in
        rw (le-ltb (ahead n r n + 0) k (omega arith)) (omega (arith, f (omega arith)))

-- THE LAW
pub early : (n k : ℕ) (r : ℕ → ℕ) → k ≤ n → sum_to n (λ (i : ℕ). bit (ltb (ahead n r i) k)) ≡ k
unfolding sum_to
early zero k r h = omega arith
early (suc n) k r h =
    let p : ahead n r n ≤ n * 1 = sum_most n 1 (λ (j : ℕ). bit (before r j n)) (λ j l. bit_most (before r j n)) in
    let s =
    sum_same n (λ (i : ℕ). bit (ltb (ahead n r i + bit (before r n i)) k)) (λ (i : ℕ). bit (ltb (ahead n r i) (k - bit (ltb (ahead n r n) k))))
    (λ i l. ap bit (shift r n k i l)) in
    last n k r h p (sum_to n (λ (i : ℕ). bit (ltb (ahead n r i + bit (before r n i)) k)))
    (λ q. s ∙ early n (k - bit (ltb (ahead n r n) k)) r q)
