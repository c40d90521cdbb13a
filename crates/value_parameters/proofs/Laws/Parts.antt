-- The parts of a value, each walked from behind its `[`: what the walk says of the part, and of all of them. Assumes nothing.
use mathlib.Core.Path.{◌≡◌, refl, sym, ap, ◌∙◌}
use mathlib.Core.Bool.{Bool, true, false, cond, ◌&&◌, and-true, and-false}
use mathlib.Core.List.{List, [], ◌∷◌}
use Prim.Native.Nat.{ℕ, ◌+◌, ◌-◌, ◌≤◌, ◌<◌}
use native.Mathlib.Omega.{arith}
use borrow.Author.Tests.{eqb-true, eqb-false, ltb-true, ltb-false}
use lib.Dec.{eqb, ltb}
use lib.ListN.{length, drop, get_or, length-drop}
use lib.Seq.{take_all, get_or-drop}
use Rattle.text_bytes.specs.Bytes.{all, on_first}
use Rattle.text_bytes.specs.Places.{part}
use Rattle.text_bytes.proofs.Laws.Pieces.{drop_step}
use Rattle.value_parameters.specs.Parameters.{separates, turn, cut_outside, is_parameter, is_parameters}
use Rattle.value_parameters.specs.Scan.{start, run, good}
use Rattle.value_parameters.specs.declared.Scan.{Scan}
use Rattle.value_parameters.proofs.Laws.Scans.{whole_run, bar_within, bar_run, bar_good, bar_last, bar_bad}
use Rattle.value_parameters.proofs.Laws.Walks.{past, shut, shut_at, shut_on}
use Rattle.value_parameters.proofs.Laws.Fields.{first_not, part_last, part_is}

-- the parts: between the bars outside marks or, where bars separate nothing, the whole
unfoldable pub parts : Bool → List ℕ → List (List ℕ)
parts true x = cut_outside 124 false x
parts false x = x ∷ []

pub all_whole : (bars : Bool) (x : List ℕ) → cond bars (is_parameters x) (is_parameter x) ≡ all is_parameter (parts bars x)
unfolding parts is_parameters all
all_whole true x = refl
all_whole false x = sym (and-true (is_parameter x))

-- A PART THAT DOES NOT BEGIN WITH `[`

unopened : (bars : Bool) (x : List ℕ) → (get_or x 0 0 ≡ 91 → ⊥) → all is_parameter (parts bars x) ≡ false
unfolding parts all cut_outside on_first
unopened false x n = rw (first_not x n)
unopened true [] n = rw (first_not [] n)
unopened true (b ∷ x) n = go (separates 124 false b) (cut_outside 124 (turn false b) x)
  where
    go : (t : Bool) (ps : List (List ℕ)) → all is_parameter (cond t ([] ∷ ps) (on_first b ps)) ≡ false
    go true ps = rw (first_not [] (λ z. omega arith))
    go false [] = rw (first_not (b ∷ []) n)
    go false (p ∷ ps) = rw (first_not (b ∷ p) n)

pub not_begun : (bars : Bool) (l : List ℕ) (at : ℕ) → eqb (get_or l at 0) 91 ≡ false → all is_parameter (parts bars (drop at l)) ≡ false
not_begun bars l at n =
    let z : at + 0 ≡ at = omega arith in
    unopened bars (drop at l) (λ q. eqb-false (get_or l at 0) 91 n (ap (λ (j : ℕ). get_or l j 0) (sym z) ∙ sym (get_or-drop at l 0 0) ∙ q))

-- A PART THAT DOES

pub begun : (l : List ℕ) (at : ℕ) → get_or l at 0 ≡ 91 → at < length l
begun l at b = go (ltb at (length l)) refl
  where
    go : (t : Bool) → ltb at (length l) ≡ t → at < length l
    go true e = ltb-true at (length l) e
    go false e = absurd (omega (arith, past l at (ltb-false at (length l) e)))

-- the bracket changes nothing
bracket : (bars : Bool) (l : List ℕ) (at : ℕ) → get_or l at 0 ≡ 91 → run bars (start at) (drop at l) ≡ run bars (start (at + 1)) (drop (at + 1) l)
unfolding run
bracket bars l at b = rw (drop_step l at (begun l at b), b, and-false bars)

-- where a run over a part stands, and that it is the run over it alone
part_run : (bars : Bool) (l : List ℕ) (at : ℕ) (st : Scan) → at ≤ length l → st ≡ run bars (start at) (drop at l)
    → (at ≤ st.at) × (st.at ≤ length l) × (st ≡ run false (start at) (part at st.at l))
part_run true l at st h w = ((bar_within l at st h w).0, (bar_within l at st h w).1, bar_run l at st h w)
part_run false l at st h w = let v = whole_run l at st h w in (omega (arith, v.0), omega (arith, v.0), v.1)

module _ (bars : Bool) (l : List ℕ) (at : ℕ) (b : get_or l at 0 ≡ 91) (st : Scan) (w : st ≡ run bars (start (at + 1)) (drop (at + 1) l)) where
  pub part_from : st ≡ run bars (start at) (drop at l)
  part_from = w ∙ sym (bracket bars l at b)

  pub part_within : (at < st.at) × (st.at ≤ length l)
  part_within = let v = part_run bars l (at + 1) st (omega (arith, begun l at b)) w in (omega (arith, v.0), v.1)

  open_bad : st.quoted ≡ true → good st ≡ false
  open_bad o = rw (o, and-false (eqb st.commas 3))

  -- whether the part is a parameter: what the walk found in it, and the `]`
  pub part_judged : (x : Bool) → (st.quoted ≡ false → x ≡ shut l (at + 1) st.at) → is_parameter (part at st.at l) ≡ (x && good st)
  part_judged x c = go (eqb (get_or l (st.at - 1) 0) 93) refl st.quoted refl
    where
      v : (at < st.at) × (st.at ≤ length l)
      v = part_within

      run_is : st ≡ run false (start at) (part at st.at l)
      run_is = (part_run bars l at st (omega (arith, begun l at b)) part_from).2

      last : st.quoted ≡ false → x ≡ eqb (get_or l (st.at - 1) 0) 93
      last o = c o ∙ shut_on l at at st.at (omega arith) v.0 (λ z. omega arith) ∙ shut_at l at st.at v.0

      go : (t : Bool) → eqb (get_or l (st.at - 1) 0) 93 ≡ t → (q : Bool) → st.quoted ≡ q → is_parameter (part at st.at l) ≡ (x && good st)
      go false e true o = part_last l at st.at v.0 v.1 (eqb-false (get_or l (st.at - 1) 0) 93 e) ∙ sym (rw (open_bad o) (and-false x))
      go false e false o = part_last l at st.at v.0 v.1 (eqb-false (get_or l (st.at - 1) 0) 93 e) ∙ sym (rw (last o, e))
      go true e true o = part_is l at st.at v.0 v.1 st b (eqb-true (get_or l (st.at - 1) 0) 93 e) run_is ∙ open_bad o ∙ sym (rw (open_bad o) (and-false x))
      go true e false o = part_is l at st.at v.0 v.1 st b (eqb-true (get_or l (st.at - 1) 0) 93 e) run_is ∙ sym (rw (last o, e))

-- ALL OF THEM, from one that was walked on

whole : (l : List ℕ) (at : ℕ) (st : Scan) → at ≤ length l → st ≡ run false (start at) (drop at l) → part at st.at l ≡ drop at l
whole l at st h w = take_all (st.at - at) (drop at l) (omega (arith, length-drop at l, (whole_run l at st h w).0))

module _ (p : List ℕ → Bool) where
  pub parts_bad : (bars : Bool) (l : List ℕ) (at : ℕ) (st : Scan) → at ≤ length l → st ≡ run bars (start at) (drop at l) → p (part at st.at l) ≡ false
      → all p (parts bars (drop at l)) ≡ false
  unfolding parts all
  parts_bad true l at st h w g = bar_bad l at st h w p g
  parts_bad false l at st h w g = rw (sym (ap p (whole l at st h w)) ∙ g)

  pub parts_last : (bars : Bool) (l : List ℕ) (at : ℕ) (st : Scan) → at ≤ length l → st ≡ run bars (start at) (drop at l) → st.at ≡ length l
      → p (part at st.at l) ≡ true → all p (parts bars (drop at l)) ≡ true
  unfolding parts all
  parts_last true l at st h w e g = bar_last l at st h w p e g
  parts_last false l at st h w e g = rw (sym (ap p (whole l at st h w)) ∙ g)

  pub parts_good : (bars : Bool) (l : List ℕ) (at : ℕ) (st : Scan) → at ≤ length l → st ≡ run bars (start at) (drop at l) → st.at < length l
      → p (part at st.at l) ≡ true → all p (parts bars (drop at l)) ≡ all p (parts bars (drop (st.at + 1) l))
  unfolding parts
  parts_good true l at st h w e g = bar_good l at st h w p e g
  parts_good false l at st h w e g = absurd (omega (arith, (whole_run l at st h w).0))
