-- What fills a list of `Cents`: the shares of the plain places, each in its place, are what the split over `Cents` leaves. Assumes nothing.
use Prim.Native.Nat.{ℕ, ◌<◌}
use mathlib.Core.Path.{◌≡◌, refl, ap, sym, ◌∙◌}
use mathlib.Core.Bool.{Bool, true, false, ◌&&◌}
use mathlib.Core.List.{List, ◌++◌}
use native.Mathlib.Omega.{arith}
use lib.Dec.{eqb, leb}
use lib.ListN.{length, get_or-append}
use lib.Seq.{ext_get_or}
use borrow.Author.Tests.{eqb-true, leb-true}
use Rattle.fee.specs.declared.Cents.{Cents}
use Rattle.fee_shares.specs.Sums.{list_to, at}
use Rattle.fee.specs.Places.{plain, cents}
use Rattle.fee_shares.specs.Shares.{share}
use Rattle.numbers.specs.Numbers.{NOT_AS_MANY}
use Rattle.fee_shares.specs.Refusals.{MOST_WEIGHTS, refusal}
use Rattle.fee.specs.Split.{Outcome, outcome, split_of}
use Rattle.fee.specs.Steps.{Leaves, Holds}
use Rattle.fee_shares.proofs.Laws.Refusals.{not_as_many, granted}
use Rattle.fee.proofs.Laws.Calls.{refused, shared, numbered}
use Rattle.fee.proofs.Laws.Theorems.{list_length, list_at, listed}

-- MORE PLACES than there can be weights
pub too_many : (fee : ℕ) (ws : List ℕ) (cap : ℕ) → MOST_WEIGHTS < cap → NOT_AS_MANY ≡ refusal fee ws cap
too_many fee ws cap h = not_as_many fee ws cap (go (leb 1 (length ws)) (leb (length ws) MOST_WEIGHTS) refl (eqb cap (length ws)) refl)
  where
    go : (a b : Bool) → leb (length ws) MOST_WEIGHTS ≡ b → (d : Bool) → eqb cap (length ws) ≡ d → (a && (b && d)) ≡ false
    go false b pb d pd = refl
    go true false pb d pd = refl
    go true true pb false pd = refl
    go true true pb true pd = absurd (omega (arith, leb-true (length ws) MOST_WEIGHTS pb, eqb-true cap (length ws) pd))

-- A REFUSED CALL leaves the list
pub fills_none : (fee : ℕ) (ws : List ℕ) (places : ℕ) {n : ℕ} → n ≡ refusal fee ws places → (n ≡ 0 → ⊥) → Leaves fee ws places n
fills_none fee ws places e z ys l = refused cents fee ws ys (e ∙ ap (refusal fee ws) (sym l)) z

-- its number is that of the split into plain places
pub number_is : (fee : ℕ) (ws : List ℕ) (places : ℕ) (ps : List ℕ) → length ps ≡ places → {n : ℕ} {zs : List ℕ} → outcome n zs ≡ split_of plain fee ws ps → n ≡ refusal fee ws places
number_is fee ws places ps l e = ap (λ (o : Outcome ℕ). o.number) e ∙ numbered plain fee ws ps ∙ ap (refusal fee ws) l

-- A GRANTED CALL has the shares of the plain places
module _ (fee : ℕ) (ws : List ℕ) (places : ℕ) (ps : List ℕ) (l : length ps ≡ places) {zs : List ℕ} (e : outcome 0 zs ≡ split_of plain fee ws ps) where
  none : 0 ≡ refusal fee ws places
  none = number_is fee ws places ps l e

  as_weights : places ≡ length ws
  as_weights = (granted fee ws places (sym none)).1

  zs_are : zs ≡ list_to (length ws) (share fee ws)
  zs_are = ap (λ (o : Outcome ℕ). o.shares) e ∙ sym (listed plain fee ws ps (sym (ap (λ (o : Outcome ℕ). o.number) e)))

  module _ (more : List ℕ) where
    zs_at : (i : ℕ) → i < length ws → at (zs ++ more) i ≡ share fee ws i
    zs_at i h =
        get_or-append zs more 0 i (omega (arith, ap length zs_are, list_length (length ws) (share fee ws)))
        ∙ ap (λ (s : List ℕ). at s i) zs_are ∙ list_at (length ws) (share fee ws) 0 i h

    pub fills_all : Holds fee ws places (zs ++ more)
    fills_all = record {
      few = omega (arith, (granted fee ws places (sym none)).0.few, as_weights);
      lays = λ ys xs k m h.
          let f : ℕ → Cents = λ (i : ℕ). cents.held (share fee ws i) in
          shared cents fee ws ys (none ∙ ap (refusal fee ws) (sym k)) refl
          (ext_get_or (cents.held 0) xs (list_to (length ws) f) (m ∙ as_weights ∙ sym (list_length (length ws) f))
          (λ i q.
          let w : i < length ws = omega (arith, as_weights) in
          h i (omega arith) ∙ ap cents.held (zs_at i w) ∙ sym (list_at (length ws) f (cents.held 0) i w)));
    }
