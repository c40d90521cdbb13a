-- The number of a call, case by case, and what it says of the list. Assumes nothing.
use mathlib.Core.Path.{◌≡◌, refl, sym, ◌∙◌}
use mathlib.Core.Bool.{Bool, true, false, cond}
use mathlib.Core.List.{List, []}
use Prim.Native.Nat.{ℕ, suc, ◌+◌, ◌≤◌, ◌<◌}
use native.Mathlib.Omega.{arith}
use lib.Dec.{eqb, ltb}
use lib.ListN.{length, get_or}
use lib.Seq.{ext_get_or}
use borrow.Author.Tests.{lt-ltb, le-ltb, eq-eqb, ne_eqb, eqb-true, ltb-true, ltb-false}
use Rattle.numbers.specs.Numbers.{TOO_LONG, NOT_ACCEPTED, NOT_AS_MANY}
use Rattle.text_bytes.specs.Bytes.{Bytes}
use Rattle.text.specs.Lines.{LIMIT, lines}
use Rattle.rows.specs.Rows.{header_of}
use Rattle.rules.specs.Rules.{breaks, is_accepted}
use Rattle.rules.proofs.Laws.Accepted.{accepted_none}
use Rattle.judged.specs.Judged.{outcome as judgedAs, judged}
use Rattle.judged.proofs.Laws.Judging.{judge_places_refused, judge_places_lists, judged_count}
use Rattle.fee.proofs.Laws.Theorems.{list_length, list_at}
use Rattle.weight_counts.specs.Variables.{PROTEIN, VARIABLES}
use Rattle.weights.specs.Weights.{weight_of, weights_of, refusal, outcome, weighed}
use Rattle.weight_counts.specs.Counts.{lines_add, Room, Raises}
use Rattle.weight_marks.specs.Marks.{Marked}
use Rattle.column_marks.specs.declared.Marks.{Marks}
use Rattle.weights.proofs.Laws.Weighing.{weighed_lines, weight_most}

-- what the number of a judging call says of the file's length
judged_long : (file : Bytes) (ys : List ℕ) {zs : List ℕ} {n k : ℕ} → judgedAs n k zs ≡ judged file ys → (n ≡ 0 → ⊥) → (LIMIT < length file) × (n ≡ TOO_LONG)
judged_long file ys {n = n} e ne = go (ltb LIMIT (length file)) refl
  where
    go : (t : Bool) → ltb LIMIT (length file) ≡ t → (LIMIT < length file) × (n ≡ TOO_LONG)
    go true p = let l = ltb-true LIMIT (length file) p in (l, (judge_places_refused file ys e l).number)
    go false p = absurd (ne (judge_places_lists file ys e (ltb-false LIMIT (length file) p)).number)

pub judged_fits : (file : Bytes) (ys : List ℕ) {zs : List ℕ} {k : ℕ} → judgedAs 0 k zs ≡ judged file ys → length file ≤ LIMIT
judged_fits file ys e = go (ltb LIMIT (length file)) refl
  where
    go : (t : Bool) → ltb LIMIT (length file) ≡ t → length file ≤ LIMIT
    go true p = absurd (omega (arith, (judge_places_refused file ys e (ltb-true LIMIT (length file) p)).number))
    go false p = ltb-false LIMIT (length file) p

-- THE NUMBER

module _ (file : Bytes) (places : ℕ) where
  pub refuse_long : LIMIT < length file → TOO_LONG ≡ refusal file places
  unfolding refusal
  refuse_long h = rw (lt-ltb LIMIT (length file) h)

  pub refuse_judged : (ys : List ℕ) {zs : List ℕ} {n k : ℕ} → judgedAs n k zs ≡ judged file ys → (n ≡ 0 → ⊥) → n ≡ refusal file places
  refuse_judged ys e ne = let l = judged_long file ys e ne in l.1 ∙ refuse_long l.0

  module _ (fits : length file ≤ LIMIT) (ys : List ℕ) {zs : List ℕ} {n k : ℕ} (e : judgedAs n k zs ≡ judged file ys) where
    counted : k ≡ length (breaks file)
    counted = judged_count file ys fits e

    pub refuse_broken : (k ≡ 0 → ⊥) → NOT_ACCEPTED ≡ refusal file places
    unfolding refusal
    refuse_broken ne = rw (le-ltb LIMIT (length file) fits, ne_eqb (length (breaks file)) 0 (λ z. ne (counted ∙ z)))

    module _ (z : k ≡ 0) where
      kept : eqb (length (breaks file)) 0 ≡ true
      kept = eq-eqb (length (breaks file)) 0 (omega (arith, counted))

      pub refuse_places : (places ≡ 64 → ⊥) → NOT_AS_MANY ≡ refusal file places
      unfolding refusal
      refuse_places ne = rw (le-ltb LIMIT (length file) fits, kept, ne_eqb places 64 ne)

      pub refuse_none : places ≡ 64 → 0 ≡ refusal file places
      unfolding refusal
      refuse_none q = rw (le-ltb LIMIT (length file) fits, kept, eq-eqb places 64 q)

  -- what is known of a file that is not refused
  pub granted : refusal file places ≡ 0 → (length file ≤ LIMIT) × (breaks file ≡ []) × (places ≡ VARIABLES)
  unfolding refusal
  granted e = go (ltb LIMIT (length file)) refl (is_accepted file) refl (eqb places VARIABLES) refl e
    where
      go : (a : Bool) → ltb LIMIT (length file) ≡ a → (b : Bool) → is_accepted file ≡ b → (d : Bool) → eqb places VARIABLES ≡ d
          → ◌≡◌ {A = ℕ} (cond a TOO_LONG (cond b (cond d 0 NOT_AS_MANY) NOT_ACCEPTED)) 0 → (length file ≤ LIMIT) × (breaks file ≡ []) × (places ≡ VARIABLES)
      go true pa b pb d pd z = absurd (omega arith)
      go false pa true pb true pd z = (ltb-false LIMIT (length file) pa, accepted_none file pb, eqb-true places VARIABLES pd)
      go false pa true pb false pd z = absurd (omega arith)
      go false pa false pb d pd z = absurd (omega arith)

-- THE LIST

module _ (file : Bytes) (ys : List ℕ) where
  pub list_kept : {n : ℕ} → n ≡ refusal file (length ys) → (n ≡ 0 → ⊥) → outcome n ys ≡ weighed file ys
  unfolding weighed
  list_kept e ne = rw (← e, ne_eqb _ 0 ne)

  pub list_given : {n : ℕ} {ws : List ℕ} → n ≡ refusal file (length ys) → n ≡ 0 → ws ≡ weights_of file → outcome n ws ≡ weighed file ys
  unfolding weighed
  list_given e z w = rw (← e, eq-eqb _ 0 z, w)

-- from zeros on, what the lines add makes the weights, and there is room for it
module _ (file : Bytes) (fits : length file ≤ LIMIT) (kept : breaks file ≡ []) {m : Marks} (is : Marked (header_of file PROTEIN) m) (zs : List ℕ) (long : length zs ≡ VARIABLES) (zeros : (i : ℕ) → get_or zs i 0 ≡ 0) where
  added : (i : ℕ) → i < VARIABLES → get_or zs i 0 + lines_add m.of (suc i) (lines file) ≡ weight_of file (suc i)
  added i h = omega (arith, zeros i, weighed_lines file kept is (suc i) (omega arith) (omega arith))

  pub weights_room : Room (λ (i : ℕ). lines_add m.of i (lines file)) zs
  weights_room = record { long = long; fits = λ i h. omega (arith, added i h, weight_most file (suc i)) }

  pub weights_all : {ws : List ℕ} → Raises (λ (i : ℕ). lines_add m.of i (lines file)) zs ws → ws ≡ weights_of file
  weights_all {ws} a =
      ext_get_or 0 ws (weights_of file) (a.long ∙ long ∙ sym (list_length VARIABLES (λ (i : ℕ). weight_of file (suc i))))
      (λ i h.
      let l : i < VARIABLES = omega (arith, a.long) in
      a.each i l ∙ added i l ∙ sym (list_at VARIABLES (λ (j : ℕ). weight_of file (suc j)) 0 i l))
