-- The promises of `tally`, from what it ensures: when it is refused and by which number, and what it gives. Assumes nothing.
use mathlib.Core.Path.{◌≡◌, refl, ap, ◌∙◌}
use mathlib.Core.Bool.{Bool, true, false, cond}
use Prim.Native.Nat.{ℕ, ◌≤◌, ◌<◌}
use lib.ListN.{length}
use borrow.Author.Tests.{le-ltb, eq-eqb, ne_eqb}
use Rattle.numbers.specs.Numbers.{TOO_LONG, NOT_ACCEPTED, BELOW_ZERO}
use Rattle.text_bytes.specs.Bytes.{Bytes}
use Rattle.text.specs.Lines.{LIMIT}
use Rattle.rules.specs.Rules.{is_accepted}
use Rattle.tally.specs.declared.Tally.{Tally}
use Rattle.tally.specs.Tally.{totals, tally_of, zero, Outcome, outcome}
use Rattle.tally_files.specs.Tallied.{below_of, totals_of, refusal, tallied, tally_once}
use Rattle.tally_files.proofs.Laws.Refusing.{refuse_long}

-- THE OUTCOME where a file is not too long: that it is accepted or not decides, and then whether a count is below zero

broken : (file : Bytes) → length file ≤ LIMIT → is_accepted file ≡ false → outcome NOT_ACCEPTED zero ≡ tallied file
unfolding tallied refusal
broken file h e = rw (le-ltb LIMIT (length file) h, e)

below : (file : Bytes) → length file ≤ LIMIT → is_accepted file ≡ true → (below_of file ≡ 0 → ⊥) → outcome BELOW_ZERO zero ≡ tallied file
unfolding tallied refusal
below file h e ne = rw (le-ltb LIMIT (length file) h, e, ne_eqb (below_of file) 0 ne)

whole : (file : Bytes) → length file ≤ LIMIT → is_accepted file ≡ true → below_of file ≡ 0 → outcome 0 (tally_of (totals_of file)) ≡ tallied file
unfolding tallied refusal
whole file h e b = rw (le-ltb LIMIT (length file) h, e, eq-eqb (below_of file) 0 b)

-- the tally with the eight totals has them
totals_placed : (file : Bytes) → totals (tally_of (totals_of file)) ≡ totals_of file
unfolding totals_of
totals_placed file = refl

-- THE PROMISES

pub tally_long : (file : Bytes) {n : ℕ} {t : Tally} → LIMIT < length file → outcome n t ≡ tallied file → (n ≡ TOO_LONG) × (t ≡ zero)
tally_long file h call = tally_once file call (refuse_long file h)

pub tally_broken : (file : Bytes) {n : ℕ} {t : Tally} → length file ≤ LIMIT → is_accepted file ≡ false → outcome n t ≡ tallied file → (n ≡ NOT_ACCEPTED) × (t ≡ zero)
tally_broken file h e call = tally_once file call (broken file h e)

pub tally_below : (file : Bytes) {n : ℕ} {t : Tally} → length file ≤ LIMIT → is_accepted file ≡ true → (below_of file ≡ 0 → ⊥) → outcome n t ≡ tallied file → (n ≡ BELOW_ZERO) × (t ≡ zero)
tally_below file h e ne call = tally_once file call (below file h e ne)

pub tally_granted : (file : Bytes) {n : ℕ} {t : Tally} → length file ≤ LIMIT → is_accepted file ≡ true → below_of file ≡ 0 → outcome n t ≡ tallied file → (n ≡ 0) × (totals t ≡ totals_of file)
tally_granted file h e b call = let is = tally_once file call (whole file h e b) in (is.0, ap totals is.1 ∙ totals_placed file)

-- whatever the refusal is, no total is given
pub tally_refused : (file : Bytes) {n : ℕ} {t : Tally} → (n ≡ 0 → ⊥) → outcome n t ≡ tallied file → t ≡ zero
unfolding tallied
tally_refused file ne call =
    let number = ap (λ (o : Outcome). o.number) call in
    ap (λ (o : Outcome). o.tally) call ∙ ap (λ (b : Bool). cond b (tally_of (totals_of file)) zero) (ne_eqb (refusal file) 0 (λ z. ne (number ∙ z)))
