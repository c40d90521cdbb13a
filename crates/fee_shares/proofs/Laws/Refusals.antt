-- The number of a call, case by case, and what the number 0 says of a fee and its weights. Assumes nothing.
use Prim.Native.Nat.{ℕ, zero, suc, ◌≤◌, ◌<◌}
use mathlib.Core.Path.{◌≡◌, refl}
use mathlib.Core.Bool.{Bool, true, false, not, cond, ◌&&◌, ◌||◌}
use mathlib.Core.List.{List, [], ◌∷◌}
use native.Mathlib.Omega.{arith}
use lib.Dec.{eqb, leb}
use lib.ListN.{length}
use borrow.Author.Tests.{eq-eqb, ne_eqb, eqb-true, eqb-false, le-leb, lt-leb, leb-true, leb-false}
use Rattle.numbers.specs.Numbers.{NOT_AS_MANY, TOO_LARGE, ALL_ZERO}
use Rattle.numbers.specs.Refusals.{number_of}
use Rattle.numbers.specs.declared.Refusal.{Refusal}
use Rattle.numbers.specs.declared.Refusal.TheVariants.{TooLong, NoSection, NoRow, NoCell, NoRoom, NotAccepted, BelowZero, Past64Bits, NoRecord, NotAsMany, TooLarge, AllZero}
use Rattle.fee_shares.specs.Sums.{at}
use Rattle.fee_shares.specs.Shares.{total}
use Rattle.fee_shares.specs.Refusals.{LIMIT, MOST_WEIGHTS, WEIGHT_END, as_many, any_large, refusal}
use Rattle.fee_shares.specs.Steps.{Granted}

-- a list with no weight too large
all_light : (ws : List ℕ) → any_large ws ≡ false → (i : ℕ) → at ws i < WEIGHT_END
unfolding any_large
all_light [] e i = omega arith
all_light (w ∷ ws) e i = go (leb WEIGHT_END w) refl e i (λ d k. all_light ws d k)
  where
    go :
        (b : Bool) → leb WEIGHT_END w ≡ b → (b || any_large ws) ≡ false → (i : ℕ) → (any_large ws ≡ false → (k : ℕ) → at ws k < WEIGHT_END)
        → at (w ∷ ws) i < WEIGHT_END
    go true p q i r = absurd (let z : ◌≡◌ {A = ℕ} 0 1 = cc in omega arith)
    go false p q zero r = leb-false WEIGHT_END w p
    go false p q (suc i) r = r q i

pub few_of : (n places : ℕ) → as_many n places ≡ true → n ≤ MOST_WEIGHTS
few_of n places e = go (leb 1 n) (leb n MOST_WEIGHTS) refl (eqb places n) e
  where
    go : (a b : Bool) → leb n MOST_WEIGHTS ≡ b → (d : Bool) → (a && (b && d)) ≡ true → n ≤ MOST_WEIGHTS
    go true true p d e = leb-true n MOST_WEIGHTS p
    go true false p d e = absurd (let z : ◌≡◌ {A = ℕ} 0 1 = cc in omega arith)
    go false b p d e = absurd (let z : ◌≡◌ {A = ℕ} 0 1 = cc in omega arith)

-- THE REFUSALS, in their order
module _ (fee : ℕ) (ws : List ℕ) (places : ℕ) where
  pub not_as_many : as_many (length ws) places ≡ false → NOT_AS_MANY ≡ refusal fee ws places
  unfolding refusal
  not_as_many e = rw e

  module _ (c : as_many (length ws) places ≡ true) where
    pub fee_large : LIMIT < fee → TOO_LARGE ≡ refusal fee ws places
    unfolding refusal
    fee_large h = rw (c, lt-leb fee LIMIT h)

    module _ (h : fee ≤ LIMIT) where
      pub weight_large : any_large ws ≡ true → TOO_LARGE ≡ refusal fee ws places
      unfolding refusal
      weight_large e = rw (c, le-leb fee LIMIT h, e)

      pub all_zero : any_large ws ≡ false → total ws ≡ 0 → ALL_ZERO ≡ refusal fee ws places
      unfolding refusal
      all_zero e z = rw (c, le-leb fee LIMIT h, e, eq-eqb (total ws) 0 z)

      pub not_refused : any_large ws ≡ false → (total ws ≡ 0 → ⊥) → 0 ≡ refusal fee ws places
      unfolding refusal
      not_refused e z = rw (c, le-leb fee LIMIT h, e, ne_eqb (total ws) 0 z)

  -- a call that is not refused
  pub granted : refusal fee ws places ≡ 0 → Granted fee ws × (places ≡ length ws)
  unfolding refusal
  granted e =
      go (leb 1 (length ws)) (leb (length ws) MOST_WEIGHTS) refl (eqb places (length ws)) refl (leb fee LIMIT) refl (any_large ws) refl (eqb (total ws) 0) refl e
    where
      go :
          (a b : Bool) → leb (length ws) MOST_WEIGHTS ≡ b → (d : Bool) → eqb places (length ws) ≡ d → (f : Bool) → leb fee LIMIT ≡ f → (g : Bool)
          → any_large ws ≡ g → (h : Bool) → eqb (total ws) 0 ≡ h
          → ◌≡◌ {A = ℕ} (cond (a && (b && d)) (cond (f && not g) (cond h ALL_ZERO 0) TOO_LARGE) NOT_AS_MANY) 0 → Granted fee ws × (places ≡ length ws)
      go true true pb true pd true pf false pg false ph e =
          let ne = eqb-false (total ws) 0 ph in (
            record {
              few = leb-true (length ws) MOST_WEIGHTS pb;
              small = leb-true fee LIMIT pf;
              light = all_light ws pg;
              some = omega arith;
            },
            eqb-true places (length ws) pd,
          )
      go true true pb true pd true pf false pg true ph e = absurd (omega arith)
      go true true pb true pd true pf true pg h ph e = absurd (omega arith)
      go true true pb true pd false pf g pg h ph e = absurd (omega arith)
      go true true pb false pd f pf g pg h ph e = absurd (omega arith)
      go true false pb d pd f pf g pg h ph e = absurd (omega arith)
      go false b pb d pd f pf g pg h ph e = absurd (omega arith)

-- a refusal has a number
pub refused_some : (e : Refusal) → number_of e ≡ 0 → ⊥
refused_some TooLong z = omega arith
refused_some NoSection z = omega arith
refused_some NoRow z = omega arith
refused_some NoCell z = omega arith
refused_some NoRoom z = omega arith
refused_some NotAccepted z = omega arith
refused_some BelowZero z = omega arith
refused_some Past64Bits z = omega arith
refused_some NoRecord z = omega arith
refused_some NotAsMany z = omega arith
refused_some TooLarge z = omega arith
refused_some AllZero z = omega arith
