-- The shares of a fee add up to it, each within a cent of its proportion. Assumes nothing.
use Prim.Native.Nat.{ℕ, ◌+◌, ◌-◌, ◌*◌, ◌≤◌, ◌<◌}
use mathlib.Core.Path.{◌≡◌, refl}
use mathlib.Core.Bool.{Bool, true, false}
use mathlib.Core.List.{List}
use native.Mathlib.Omega.{arith}
use native.Mathlib.Nat.{div-add-mod, mod-lt, mul-sub, mul-zero, mul-le-mul_left, le_of_mul-le-mul_left, lt_of_mul-lt-mul_right}
use lib.Dec.{ltb}
use lib.ListN.{length}
use borrow.Author.Tests.{ltb-true, ltb-false}
use Rattle.fee_shares.specs.Sums.{sum_to, bit}
use Rattle.fee_shares.specs.Shares.{weight, total, floor, rest, left, before, ahead, share}
use Rattle.fee_shares.proofs.Laws.Sums.{sum_same, sum_le, sum_add, sum_times, sum_most, sum_part}
use Rattle.fee_shares.proofs.Laws.Ranks.{unreads, early}

left_times : (t f s r : ℕ) → s ≤ f → t * s + r ≡ f * t → t * (f - s) ≡ r
left_times t f s r h e = rw mul-sub (omega arith)

module _ (fee : ℕ) (ws : List ℕ) (some : 0 < total ws) where
  -- rounding down and the remainders make up the whole, over the first m
  pub made_up : (m : ℕ) → total ws * sum_to m (floor fee ws) + sum_to m (rest fee ws) ≡ fee * sum_to m (weight ws)
  made_up m =
      let a = sum_times m (total ws) (floor fee ws) in
      let b = sum_add m (λ (i : ℕ). total ws * floor fee ws i) (rest fee ws) in
      let c =
      sum_same m (λ (i : ℕ). total ws * floor fee ws i + rest fee ws i) (λ (i : ℕ). fee * weight ws i)
      (λ i h. div-add-mod (fee * weight ws i) (total ws)) in
      let d = sum_times m fee (weight ws) in
      omega arith

  pub floors_most : (m : ℕ) → m ≤ length ws → sum_to m (floor fee ws) ≤ fee
  floors_most m h =
      let p = mul-le-mul_left fee (sum_part (length ws) m (weight ws) h) in
      let e = made_up m in
      let q : total ws * sum_to m (floor fee ws) ≤ total ws * fee = omega arith in
      le_of_mul-le-mul_left q some

  pub left_is : total ws * left fee ws ≡ sum_to (length ws) (rest fee ws)
  left_is =
      left_times (total ws) fee (sum_to (length ws) (floor fee ws)) (sum_to (length ws) (rest fee ws))
      (floors_most (length ws) (omega arith)) (made_up (length ws))

  rest_small : (i : ℕ) → rest fee ws i < total ws
  rest_small i = mod-lt (fee * weight ws i) some

  pub left_most : left fee ws ≤ length ws
  left_most =
      let p = sum_most (length ws) (total ws) (rest fee ws) (λ i h. omega (arith, rest_small i)) in
      let q : total ws * left fee ws ≤ total ws * length ws = omega (arith, left_is) in
      le_of_mul-le-mul_left q some

  -- THE SHARES ADD UP
  pub shares_sum : sum_to (length ws) (share fee ws) ≡ fee
  shares_sum =
      let a = sum_add (length ws) (floor fee ws) (λ (i : ℕ). bit (ltb (ahead (length ws) (rest fee ws) i) (left fee ws))) in
      let b = early (length ws) (left fee ws) (rest fee ws) left_most in
      omega (arith, floors_most (length ws) (omega arith))

  -- no cent left over goes to a number without remainder
  pub none_over : (i : ℕ) → rest fee ws i ≡ 0 → left fee ws ≤ ahead (length ws) (rest fee ws) i
  none_over i z =
      let p =
      sum_le (length ws) (rest fee ws) (λ (j : ℕ). total ws * bit (before (rest fee ws) j i))
      (λ j h. one j (before (rest fee ws) j i) refl) in
      let q = sum_times (length ws) (total ws) (λ (j : ℕ). bit (before (rest fee ws) j i)) in
      let s : total ws * left fee ws ≤ total ws * ahead (length ws) (rest fee ws) i = omega (arith, left_is) in
      le_of_mul-le-mul_left s some
    where
      one : (j : ℕ) (b : Bool) → before (rest fee ws) j i ≡ b → rest fee ws j ≤ total ws * bit b
      one j true e = omega (arith, rest_small j)
      one j false e = omega (arith, (unreads (rest fee ws) j i e).0)

  more_only : (i : ℕ) (b : Bool) → ltb (ahead (length ws) (rest fee ws) i) (left fee ws) ≡ b → bit b ≤ rest fee ws i
  more_only i false e = omega arith
  more_only i true e = go (ltb 0 (rest fee ws i)) refl
    where
      go : (t : Bool) → ltb 0 (rest fee ws i) ≡ t → 1 ≤ rest fee ws i
      go true p = ltb-true 0 (rest fee ws i) p
      go false p = absurd (omega (arith, none_over i (omega (arith, ltb-false 0 (rest fee ws i) p)), ltb-true (ahead (length ws) (rest fee ws) i) (left fee ws) e))

  -- LESS THAN ONE CENT from the exact proportion
  pub near : (i : ℕ) → (share fee ws i * total ws < fee * weight ws i + total ws) × (fee * weight ws i < share fee ws i * total ws + total ws)
  near i = go (ltb (ahead (length ws) (rest fee ws) i) (left fee ws)) (more_only i (ltb (ahead (length ws) (rest fee ws) i) (left fee ws)) refl)
    where
      go :
          (b : Bool) → bit b ≤ rest fee ws i
          → ((floor fee ws i + bit b) * total ws < fee * weight ws i + total ws)
          × (fee * weight ws i < (floor fee ws i + bit b) * total ws + total ws)
      go true m = omega (arith, div-add-mod (fee * weight ws i) (total ws), rest_small i)
      go false m = omega (arith, div-add-mod (fee * weight ws i) (total ws), rest_small i)

  -- A ZERO WEIGHT gets nothing
  pub no_weight : (i : ℕ) → weight ws i ≡ 0 → share fee ws i ≡ 0
  no_weight i z =
      let e : fee * weight ws i ≡ 0 = rw z (mul-zero fee) in
      let q : share fee ws i * total ws < 1 * total ws = omega (arith, (near i).0) in
      omega (arith, lt_of_mul-lt-mul_right (total ws) q)
