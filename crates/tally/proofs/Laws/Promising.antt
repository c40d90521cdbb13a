-- The promises of `add`, from what it ensures: when it is refused, and what it gives. Assumes nothing.
use mathlib.Core.Path.{◌≡◌, refl, ap, ◌∙◌}
use mathlib.Core.Bool.{Bool, true, false}
use Prim.Native.Nat.{ℕ}
use native.Mathlib.Omega.{arith}
use Rattle.numbers.specs.Numbers.{PAST_64_BITS}
use Rattle.text_bytes.specs.Bytes.{any}
use Rattle.tally.specs.Tally.{totals, tally_of, zero, is_past, Within, sums, outcome, added, add_once}
use Rattle.tally.specs.declared.Tally.{Tally}
use Rattle.tally.proofs.Laws.Adding.{add_past}

-- where no sum passes 64 bits the outcome has all eight
add_all : (a b : Tally) → any is_past (sums (totals a) (totals b)) ≡ false → outcome 0 (tally_of (sums (totals a) (totals b))) ≡ added a b
unfolding added
add_all a b h = rw h

-- the tally with the eight sums has them as its totals
sums_placed : (a b : Tally) → totals (tally_of (sums (totals a) (totals b))) ≡ sums (totals a) (totals b)
unfolding sums
sums_placed a b = refl

pub add_refused : (a b : Tally) {n : ℕ} {t : Tally} → any is_past (sums (totals a) (totals b)) ≡ true → outcome n t ≡ added a b → (n ≡ PAST_64_BITS) × (t ≡ zero)
add_refused a b h call = add_once a b call (add_past a b h)

pub add_granted : (a b : Tally) {n : ℕ} {t : Tally} → any is_past (sums (totals a) (totals b)) ≡ false → outcome n t ≡ added a b → (n ≡ 0) × (totals t ≡ sums (totals a) (totals b)) × Within t
add_granted a b h call =
    let is = add_once a b call (add_all a b h) in
    let has = ap totals is.1 ∙ sums_placed a b in
    (is.0, has, ap (any is_past) has ∙ h)

-- where the number is 0 no sum passed 64 bits
pub add_done : (a b : Tally) {n : ℕ} {t : Tally} → n ≡ 0 → outcome n t ≡ added a b → any is_past (sums (totals a) (totals b)) ≡ false
add_done a b z call = go (any is_past (sums (totals a) (totals b))) refl
  where
    go : (past : Bool) → any is_past (sums (totals a) (totals b)) ≡ past → past ≡ false
    go true e = absurd (omega (arith, (add_refused a b e call).0, z))
    go false e = refl
