-- One turn of each loop, and what an amount leaves of the limit. Assumes nothing.
use Prim.Native.Nat.{ℕ, zero, suc, ◌+◌, ◌-◌, ◌*◌, ◌/◌, ◌%◌, ◌^◌, ◌≤◌, ◌<◌}
use mathlib.Core.Path.{◌≡◌, refl, ap, sym, ◌∙◌}
use mathlib.Core.Bool.{Bool, true, false, ◌&&◌, ◌||◌}
use mathlib.Core.List.{List, [], ◌∷◌}
use native.Mathlib.Omega.{arith}
use native.Mathlib.Numerals.{add-one}
use native.Mathlib.Nat.{div-le_self, mul-le-mul, le_of_lt, lt_of_le_of_lt}
use lib.Dec.{eqb, leb, ltb, lit<}
use lib.ListN.{length, take, set}
use lib.Seq.{take_all, length-take-le, take-suc-set, get_or-set_same, get_or-set_other}
use borrow.Author.Tests.{eqb-true, eqb-false, le-leb, lt-leb, leb-true, leb-false}
use Rattle.std.specs.Prelude.{sum}
use Rattle.std.specs.Int.{from_bool}
use Rattle.std.specs.List.{list_any}
use Rattle.std.proofs.lemmas.List.{get_or-take}
use Rattle.std.proofs.lemmas.List.Sums.{sum_by_more}
use Rattle.fee_shares.specs.Sums.{sum_to, list_to, at, bit}
use Rattle.fee_shares.specs.Shares.{total, floor, rest, left, before, ahead, share}
use Rattle.fee_shares.specs.Refusals.{LIMIT, WEIGHT_END, any_large}
use Rattle.fee_shares.specs.Steps.{Granted, Rests}
use Rattle.fee_shares.proofs.Laws.Sums.{sum_same}
use Rattle.fee_shares.proofs.Laws.Halves.{floors_most}

pub sum_next : (i : ℕ) (f : ℕ → ℕ) → sum_to (i + 1) f ≡ sum_to i f + f i
unfolding sum_to
sum_next i f = rw add-one

-- a list of which one more place is written
pub list_next :
    (i : ℕ) (f : ℕ → ℕ) (s : List ℕ) (v : ℕ) → i < length s → take i s ≡ list_to i f → v ≡ f i → take (i + 1) (set s i v) ≡ list_to (i + 1) f
unfolding list_to
list_next i f s v h e d = rw (add-one, take-suc-set s i v h, e, d)

pub places_next :
    (i : ℕ) (f : ℕ → ℕ) (s : List ℕ) (v : ℕ) → i < length s → ((k : ℕ) → k < i → at s k ≡ f k) → v ≡ f i
    → (k : ℕ) → k < i + 1 → at (set s i v) k ≡ f k
places_next i f s v h e d k l = go (eqb k i) refl
  where
    go : (b : Bool) → eqb k i ≡ b → at (set s i v) k ≡ f k
    go true q = let p = eqb-true k i q in rw p (get_or-set_same s i v 0 h ∙ d)
    go false q = let ne = eqb-false k i q in get_or-set_other s i k v 0 ne ∙ e k (omega arith)

pub product_fits : (a w : ℕ) → a ≤ LIMIT → w < WEIGHT_END → a * w < 2 ^ 63
product_fits a w h k = lt_of_le_of_lt (mul-le-mul h (le_of_lt k)) (lit< tt)

-- what the first amount leaves of the limit
pub room_left : (a b : ℕ) → a ≤ LIMIT → leb b (LIMIT - a) ≡ leb (a + b) LIMIT
room_left a b h = go (leb (a + b) LIMIT) refl
  where
    go : (t : Bool) → leb (a + b) LIMIT ≡ t → leb b (LIMIT - a) ≡ t
    go true e = le-leb b (LIMIT - a) (omega (arith, leb-true (a + b) LIMIT e))
    go false e = lt-leb b (LIMIT - a) (omega (arith, leb-false (a + b) LIMIT e))

-- one number more is looked at
pub ahead_next :
    (rs : List ℕ) (i j count one : ℕ) (b : Bool) → one ≡ bit b → b ≡ (ltb (at rs i) (at rs j) || (eqb (at rs j) (at rs i) && ltb j i))
    → count ≡ ahead j (at rs) i → count + one ≡ ahead (j + 1) (at rs) i
unfolding before
ahead_next rs i j count one b e d h = let s = sum_next j (λ (k : ℕ). bit (before (at rs) k i)) in rw (e, d) (omega arith)

-- one weight more is divided
module _ {fee : ℕ} {ws : List ℕ} (is : Granted fee ws) {all : ℕ} (e : all ≡ total ws) (i : ℕ) where
  pub floor_at : {cents : ℕ} → cents ≡ fee * at ws i / all → cents ≡ floor fee ws i
  floor_at d = d ∙ ap (λ (t : ℕ). fee * at ws i / t) e

  pub rest_at : {over : ℕ} → over ≡ fee * at ws i % all → over ≡ rest fee ws i
  rest_at d = d ∙ ap (λ (t : ℕ). fee * at ws i % t) e

  pub floor_small : {cents : ℕ} → cents ≡ fee * at ws i / all → cents < 2 ^ 63
  floor_small d = omega (arith, product_fits fee (at ws i) is.small (is.light i), div-le_self (fee * at ws i) all)

  module _ {given cents : ℕ} (h : i < length ws) (g : given ≡ sum_to i (floor fee ws)) (d : cents ≡ fee * at ws i / all) where
    pub floors_next : given + cents ≡ sum_to (i + 1) (floor fee ws)
    floors_next = omega (arith, sum_next i (floor fee ws), floor_at d)

    pub floors_fit : given + cents ≤ LIMIT
    floors_fit = omega (arith, floors_next, floors_most fee ws is.some (i + 1) (omega arith), is.small)

-- ONE SHARE
ahead_same :
    (n : ℕ) (r s : ℕ → ℕ) (i : ℕ) → ((j : ℕ) → j < n → r j ≡ s j) → i < n → ahead n r i ≡ ahead n s i
unfolding before
ahead_same n r s i h k =
    sum_same n (λ (j : ℕ). bit (before r j i)) (λ (j : ℕ). bit (before s j i)) (λ j l. rw (h j l, h i k))

-- as many remainders as weights are taken
pub rests_taken : {fee : ℕ} {ws rs : List ℕ} → Granted fee ws → Rests fee ws rs → length (take (length ws) rs) ≡ length ws
rests_taken {fee} {ws} {rs} is has = length-take-le (length ws) rs (omega (arith, is.few, has.long))

pub ahead_taken : {fee : ℕ} {ws rs : List ℕ} → Granted fee ws → Rests fee ws rs → (i : ℕ) → i < length ws → ahead (length (take (length ws) rs)) (at (take (length ws) rs)) i ≡ ahead (length ws) (at rs) i
ahead_taken {fee} {ws} {rs} is has i h =
    ap (λ (n : ℕ). ahead n (at (take (length ws) rs)) i) (rests_taken is has)
    ∙ ahead_same (length ws) (at (take (length ws) rs)) (at rs) i (λ j l. get_or-take (length ws) rs j 0 l) h

pub share_at_lem :
    {fee : ℕ} {ws rs : List ℕ} → Rests fee ws rs → (i : ℕ) → i < length ws → {cents count over one : ℕ} → cents ≡ floor fee ws i
    → count ≡ ahead (length ws) (at rs) i → over ≡ left fee ws → one ≡ bit (ltb count over) → cents + one ≡ share fee ws i
share_at_lem {fee} {ws} {rs} is i h a b d e =
    let p = ahead_same (length ws) (at rs) (rest fee ws) i is.rests h in
    rw (e, a, b, d, p)

-- THE TESTS AND SUMS of the library are those of the definitions
pub large_any : (ws : List ℕ) → list_any (leb WEIGHT_END) ws ≡ any_large ws
unfolding any_large
large_any [] = refl
large_any (w ∷ ws) = ap (λ (b : Bool). leb WEIGHT_END w || b) (large_any ws)

sum_first : (ws : List ℕ) (i : ℕ) → i ≤ length ws → sum (take i ws) ≡ sum_to i (at ws)
unfolding sum_to
sum_first ws zero h = refl
sum_first ws (suc i) h =
    let one : suc i ≡ i + 1 = omega arith in
    let e : sum (take (suc i) ws) ≡ sum (take (i + 1) ws) = ap (λ (k : ℕ). sum (take k ws)) one in
    omega (arith, sum_by_more (λ x. x) ws i 0 (omega arith), sum_first ws i (omega arith))

pub total_sum : (ws : List ℕ) → sum ws ≡ total ws
total_sum ws = ap sum (sym (take_all (length ws) ws (omega arith))) ∙ sum_first ws (length ws) (omega arith)

pub bit_from : (b : Bool) → from_bool b ≡ bit b
bit_from true = refl
bit_from false = refl

pub bit_low : (b : Bool) → from_bool b ≤ 1
bit_low true = omega arith
bit_low false = omega arith
