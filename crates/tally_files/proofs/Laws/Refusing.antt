-- The outcome of a call, case by case. Assumes nothing.
use mathlib.Core.Path.{◌≡◌, refl, ◌∙◌}
use mathlib.Core.Bool.{Bool, true, false}
use mathlib.Core.List.{List, []}
use Prim.Native.Nat.{ℕ, ◌≤◌, ◌<◌}
use native.Mathlib.Omega.{arith}
use lib.Dec.{eqb, ltb}
use lib.ListN.{length}
use borrow.Author.Tests.{lt-ltb, le-ltb, eq-eqb, ne_eqb, ltb-true, ltb-false}
use Rattle.numbers.specs.Numbers.{TOO_LONG, NOT_ACCEPTED, BELOW_ZERO}
use Rattle.text_bytes.specs.Bytes.{Bytes}
use Rattle.text.specs.Lines.{LIMIT}
use Rattle.rules.specs.Rules.{breaks}
use Rattle.rules.proofs.Laws.Accepted.{accepted_none}
use Rattle.judged.specs.Judged.{outcome as judgedAs, judged}
use Rattle.judged.proofs.Laws.Judging.{judge_places_refused, judge_places_lists, judged_count}
use Rattle.tally.specs.declared.Tally.{Tally}
use Rattle.tally.specs.Tally.{zero, tally_of, outcome}
use Rattle.tally_files.specs.Tallied.{below_of, totals_of, refusal, tallied}

-- what the number of a judging call says of the file's length
judged_long : (file : Bytes) (ys : List ℕ) {zs : List ℕ} {n k : ℕ} → judgedAs n k zs ≡ judged file ys → (n ≡ 0 → ⊥) → (LIMIT < length file) × (n ≡ TOO_LONG)
judged_long file ys {n = n} e ne = go (ltb LIMIT (length file)) refl
  where
    go : (t : Bool) → ltb LIMIT (length file) ≡ t → (LIMIT < length file) × (n ≡ TOO_LONG)
    go true p = let l = ltb-true LIMIT (length file) p in (l, (judge_places_refused file ys e l).number)
    go false p = absurd (ne (judge_places_lists file ys e (ltb-false LIMIT (length file) p)).number)

pub judged_fits : (file : Bytes) (ys : List ℕ) {zs : List ℕ} {k : ℕ} → judgedAs 0 k zs ≡ judged file ys → length file ≤ LIMIT
judged_fits file ys e = go (ltb LIMIT (length file)) refl
  where
    go : (t : Bool) → ltb LIMIT (length file) ≡ t → length file ≤ LIMIT
    go true p = absurd (omega (arith, (judge_places_refused file ys e (ltb-true LIMIT (length file) p)).number))
    go false p = ltb-false LIMIT (length file) p

module _ (file : Bytes) where
  pub refuse_long : LIMIT < length file → outcome TOO_LONG zero ≡ tallied file
  unfolding tallied refusal
  refuse_long h = rw (lt-ltb LIMIT (length file) h)

  pub refuse_judged : (ys : List ℕ) {zs : List ℕ} {n k : ℕ} → judgedAs n k zs ≡ judged file ys → (n ≡ 0 → ⊥) → outcome n zero ≡ tallied file
  refuse_judged ys e ne = let l = judged_long file ys e ne in rw l.1 (refuse_long l.0)

  module _ (fits : length file ≤ LIMIT) (ys : List ℕ) {zs : List ℕ} {n k : ℕ} (e : judgedAs n k zs ≡ judged file ys) where
    counted : k ≡ length (breaks file)
    counted = judged_count file ys fits e

    pub refuse_broken : (k ≡ 0 → ⊥) → outcome NOT_ACCEPTED zero ≡ tallied file
    unfolding tallied refusal
    refuse_broken ne = rw (le-ltb LIMIT (length file) fits, ne_eqb (length (breaks file)) 0 (λ z. ne (counted ∙ z)))

    module _ (z : k ≡ 0) where
      accepted : eqb (length (breaks file)) 0 ≡ true
      accepted = eq-eqb (length (breaks file)) 0 (omega (arith, counted))

      pub kept : breaks file ≡ []
      kept = accepted_none file accepted

      pub refuse_below : (below_of file ≡ 0 → ⊥) → outcome BELOW_ZERO zero ≡ tallied file
      unfolding tallied refusal
      refuse_below ne = rw (le-ltb LIMIT (length file) fits, accepted, ne_eqb (below_of file) 0 ne)

      pub given_tally : below_of file ≡ 0 → {t : Tally} → t ≡ tally_of (totals_of file) → outcome 0 t ≡ tallied file
      unfolding tallied refusal
      given_tally b q = rw (le-ltb LIMIT (length file) fits, accepted, eq-eqb (below_of file) 0 b, q)
