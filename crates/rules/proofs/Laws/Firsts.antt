-- The fourth number of a break is where what it repeats stands first: above or before it, and equal; 0 for all rules but 6, 9 and 13. Assumes nothing.
use mathlib.Core.Path.{◌≡◌, refl, sym, ap, ◌∙◌}
use mathlib.Core.Bool.{Bool, true, false, not, ◌&&◌}
use mathlib.Core.List.{List, [], ◌∷◌}
use mathlib.Core.Logic.{inl, inr}
use Prim.Native.Nat.{ℕ, ◌+◌, ◌-◌, ◌≤◌, ◌<◌}
use native.Mathlib.Omega.{arith}
use lib.Dec.{eqb, leb}
use lib.ListN.{length, get_or, take, drop, length-take}
use lib.Seq.{get_or-take, get_or-drop}
use borrow.Author.Tests.{eqb-false}
use Rattle.text_bytes.specs.Bytes.{Bytes, same, any, first_from}
use Rattle.text_bytes.proofs.Laws.Tests.{absurd_bool, and_right}
use Rattle.text_bytes.proofs.Laws.Same.{same_equal, same_self}
use Rattle.text_bytes.proofs.Laws.Firsts.{FirstAt, first_at}
use Rattle.text.specs.Lines.{cells, cell, is_meta, is_three}
use Rattle.book.specs.Book.{Book}
use Rattle.book.specs.Keys.{is_colunit}
use Rattle.book_names.specs.Names.{is_known}
use Rattle.rules.specs.Sorts.{header, is_header}
use Rattle.rules.specs.Breaks.{Spot, spot_at, Rule, Broken}
use Rattle.rules.specs.Rules.{key_found, same_key, of_section, names_before, is_judged, rules, end_rules}
use Rattle.rules.specs.Promised.{FirstLine, FirstName, FirstOf, IsBrokenBy}

third : (a b c : Bool) → (a && (b && c)) ≡ true → c ≡ true
third a b c h = and_right b c (and_right a (b && c) h)

-- OF THE LINES ABOVE line n, the first that passes
module _ (file : List Bytes) (n : ℕ) (p : Bytes → Bool) where
  line_first : any p (take (n - 1) file) ≡ true → FirstLine p file n (first_from 1 p (take (n - 1) file))
  line_first h =
      let f = first_from 1 p (take (n - 1) file) in
      let s : FirstAt p (take (n - 1) file) [] 1 f = first_at p 1 (take (n - 1) file) [] h in
      let l = length-take (n - 1) file in
      record {
        low = s.low;
        above = omega (arith, s.high, l);
        equal = sym (ap p (get_or-take (n - 1) file (f - 1) [] (omega (arith, s.high, l, s.low)))) ∙ s.passes;
        earliest = λ i a b. sym (ap p (get_or-take (n - 1) file (i - 1) [] (omega (arith, s.high, l)))) ∙ s.earliest (i - 1) (omega arith);
      }

-- OF THE NAMES BEFORE cell c, the first that is equal
module _ (l : Bytes) (c : ℕ) where
  -- name i, from 0, stands in cell i + 2
  name_cell_lem : (i : ℕ) → i < c - 2 → get_or (names_before l c) i [] ≡ cell (i + 2) l
  unfolding cell
  name_cell_lem i h =
      let z : 1 + i ≡ i + 2 - 1 = omega arith in
      get_or-take (c - 2) (drop 1 (cells l)) i [] h ∙ get_or-drop 1 (cells l) i [] ∙ ap (λ (k : ℕ). get_or (cells l) k []) z

  name_first : any (same (cell c l)) (names_before l c) ≡ true → FirstName l c (first_from 2 (same (cell c l)) (names_before l c))
  name_first h =
      let f = first_from 2 (same (cell c l)) (names_before l c) in
      let s : FirstAt (same (cell c l)) (names_before l c) [] 2 f = first_at (same (cell c l)) 2 (names_before l c) [] h in
      let m = length-take (c - 2) (drop 1 (cells l)) in
      let z : f - 2 + 2 ≡ f = omega (arith, s.low) in
      record {
        low = s.low;
        before = omega (arith, s.high, m);
        equal = ap (λ (k : ℕ). cell k l) (sym z) ∙ sym (name_cell_lem (f - 2) (omega (arith, s.high, m, s.low))) ∙ sym (same_equal (cell c l) (get_or (names_before l c) (f - 2) []) s.passes);
        earliest = λ i a b e. earlier i a b e (s.earliest (i - 2) (omega arith)) (omega (arith, s.high, m, b));
      }
    where
      earlier : (i : ℕ) → 2 ≤ i → i < first_from 2 (same (cell c l)) (names_before l c) → cell i l ≡ cell c l → same (cell c l) (get_or (names_before l c) (i - 2) []) ≡ false → i - 2 < c - 2 → ⊥
      earlier i a b e q m =
          let z : i - 2 + 2 ≡ i = omega arith in
          let w : get_or (names_before l c) (i - 2) [] ≡ cell c l = name_cell_lem (i - 2) m ∙ ap (λ (k : ℕ). cell k l) z ∙ e in
          absurd_bool (sym q ∙ ap (same (cell c l)) w ∙ same_self (cell c l))

-- WHAT HOLDS of each rule of a list where it is broken holds of a rule that is broken
abbrev Each : (ℕ → ℕ → Type 0) → Spot → ℕ → List Rule → Type 0
Each P p c [] = Unit
Each P p c (r ∷ rs) = (r.broken p c ≡ true → P r.number (r.first p c)) × Each P p c rs

next : {A B : Type 0} → A → B → A × B
next a b = (a, b)

of_each : (P : ℕ → ℕ → Type 0) (p : Spot) (c k f : ℕ) (rs : List Rule) → Each P p c rs → Broken rs p c k f → P k f
of_each P p c k f [] h b = absurd b
of_each P p c k f (r ∷ rs) h (inl b) = rw (b.0, b.1) (h.0 b.2)
of_each P p c k f (r ∷ rs) h (inr b) = of_each P p c k f rs h.1 b

module _ (b : Book) (file : List Bytes) where
  -- a rule that is not of what comes again
  plain : (n c k : ℕ) → eqb k 6 ≡ false → eqb k 9 ≡ false → eqb k 13 ≡ false → FirstOf b file n c k 0
  plain n c k a d e = record { key = λ q. absurd (eqb-false k 6 a q); header_line = λ q. absurd (eqb-false k 9 d q); name = λ q. absurd (eqb-false k 13 e q); none = λ u v w. refl }

  module _ (n c : ℕ) where
    abbrev here : Bytes
    here = get_or file (n - 1) []

    of_key : any (same_key here) (take (n - 1) file) ≡ true → FirstOf b file n c 6 (first_from 1 (same_key here) (take (n - 1) file))
    of_key h = record { key = λ q. line_first file n (same_key here) h; header_line = λ q. absurd (omega arith); name = λ q. absurd (omega arith); none = λ u v w. absurd (u refl) }

    of_header : any (of_section b (header b here)) (take (n - 1) file) ≡ true → FirstOf b file n c 9 (first_from 1 (of_section b (header b here)) (take (n - 1) file))
    of_header h = record { key = λ q. absurd (omega arith); header_line = λ q. line_first file n (of_section b (header b here)) h; name = λ q. absurd (omega arith); none = λ u v w. absurd (v refl) }

    of_name : any (same (cell c here)) (names_before here c) ≡ true → FirstOf b file n c 13 (first_from 2 (same (cell c here)) (names_before here c))
    of_name h = record { key = λ q. absurd (omega arith); header_line = λ q. absurd (omega arith); name = λ q. name_first here c h; none = λ u v w. absurd (w refl) }

    abbrev p : Spot
    p = spot_at file n

    plainly : (k : ℕ) → eqb k 6 ≡ false → eqb k 9 ≡ false → eqb k 13 ≡ false → {A : Type 0} → A → FirstOf b file n c k 0
    plainly k a d e h = plain n c k a d e

    in_rules : Each (FirstOf b file n c) p c (rules b)
    unfolding rules
    in_rules =
        next (plainly 1 refl refl refl)
        (next (plainly 2 refl refl refl)
        (next (plainly 3 refl refl refl)
        (next (plainly 4 refl refl refl)
        (next (plainly 5 refl refl refl)
        (next (λ h. of_key (third (is_known (key_found b here)) (not (is_colunit (cell 2 here))) _ (third (eqb c 2) (is_three here) _ (and_right (is_meta here) _ h))))
        (next (plainly 7 refl refl refl)
        (next (plainly 8 refl refl refl)
        (next (λ h. of_header (third (eqb c 1) (is_header b here) _ h))
        (next (plainly 10 refl refl refl)
        (next (plainly 11 refl refl refl)
        (next (plainly 12 refl refl refl)
        (next (λ h. of_name (third (leb 2 c) (is_judged b p) _ h))
        (next (plainly 14 refl refl refl)
        (next (plainly 15 refl refl refl)
        (next (plainly 16 refl refl refl)
        (next (plainly 17 refl refl refl)
        (next (plainly 18 refl refl refl)
        (next (plainly 19 refl refl refl)
        (next (plainly 20 refl refl refl)
        (next (plainly 23 refl refl refl)
        (next (plainly 24 refl refl refl) tt)))))))))))))))))))))

  in_ends : (n c : ℕ) → Each (FirstOf b file n c) (spot_at file (length file + 1)) c (end_rules b)
  unfolding end_rules
  in_ends n c = next (plainly n c 21 refl refl refl) (next (plainly n c 22 refl refl refl) tt)

  pub first_of : {n c k f : ℕ} → IsBrokenBy b file n c k f → FirstOf b file n c k f
  first_of {n} {c} {k} {f} (inl h) = of_each (FirstOf b file n c) (spot_at file n) c k f (rules b) (in_rules n c) h.broken
  first_of {n} {c} {k} {f} (inr h) = of_each (FirstOf b file n c) (spot_at file (length file + 1)) c k f (end_rules b) (in_ends n c) h.broken
