-- What an accepted file gives to whoever walks its rows: where the list of breaks is empty, each line keeps each rule. Assumes nothing.
use mathlib.Core.Path.{◌≡◌, refl, sym, subst, ◌∙◌}
use mathlib.Core.Bool.{Bool, true, false, not, ◌&&◌, ◌||◌}
use mathlib.Core.List.{List, [], ◌∷◌}
use mathlib.Core.Option.{some}
use mathlib.Core.Logic.{inl, inr}
use Prim.Native.Nat.{ℕ, zero, suc, ◌+◌, ◌-◌, ◌≤◌, ◌<◌}
use native.Mathlib.Omega.{arith}
use lib.Dec.{ltb}
use lib.ListN.{length, get_or, take, drop, get_elem?, length-take, length-drop}
use lib.Seq.{get_or-take, get_or-drop}
use borrow.Author.Tests.{ltb-false, le-leb, eqb-true}
use Rattle.text_bytes.specs.Bytes.{Bytes, bytes, same, is_empty, any, split_on}
use Rattle.text.specs.Lines.{lines, cells, coded, cell, width}
use Rattle.text_bytes.proofs.Laws.Same.{same_equal}
use Rattle.text_bytes.proofs.Laws.Each.{split_some}
use Rattle.book.specs.Book.{Book, is_section, section_of, header_code, coded_from, mz_tab, book_of}
use Rattle.book.proofs.Laws.Directing.{section_within}
use Rattle.rules.specs.Sorts.{code_sort, sort_of, header_in, is_header, is_silent}
use Rattle.rules.specs.Breaks.{Break, Spot, spot_at, Rule, Broken}
use Rattle.rules.specs.Rules.{rules, breaks, is_accepted, is_wide}
use Rattle.rules.specs.declared.sorts.Sort.{Sort}
use Rattle.rules.specs.declared.sorts.Sort.TheVariants.{Silent, Unknown, Meta, Header, Row}
use Rattle.rules.proofs.Laws.Sorting.{silent_in, silent_sort}
use Rattle.rules.proofs.Laws.Promises.{accepted_whole}

-- the test of a call and the empty list
pub accepted_none : (file : Bytes) → is_accepted file ≡ true → breaks file ≡ []
accepted_none file e = none (breaks file) (eqb-true (length (breaks file)) 0 e)
  where
    none : (bs : List Break) → length bs ≡ 0 → bs ≡ []
    none [] z = refl
    none (b ∷ bs) z = absurd (omega arith)

-- a rule of a list that is broken
nth_broken : (rs : List Rule) (p : Spot) (c j : ℕ) (r : Rule) → get_elem? rs j ≡ some r → r.broken p c ≡ true → Broken rs p c r.number (r.first p c)
nth_broken [] p c j r e t = absurd (let z : ◌≡◌ {A = ℕ} 0 1 = cc in omega arith)
nth_broken (x ∷ rs) p c zero r e t =
    let a : x ≡ r = cc in
    inl (subst (λ (y : Rule). (r.number ≡ y.number) × (r.first p c ≡ y.first p c) × (y.broken p c ≡ true)) (sym a) (refl, refl, t))
nth_broken (x ∷ rs) p c (suc j) r e t = inr (nth_broken rs p c j r e t)

-- a header is judged
header_loud : (s : Sort) → ltb 0 (header_in s) ≡ true → silent_in s ≡ false
header_loud (Header h) e = refl
header_loud (Row r) e = refl
header_loud Silent e = absurd (let z : ◌≡◌ {A = ℕ} 0 1 = cc in omega arith)
header_loud Unknown e = refl
header_loud Meta e = refl

-- what both tests need, the second is left
second_fails : (a b : Bool) → a ≡ true → (a && b) ≡ false → b ≡ false
second_fails a b t e = rw t at e

any_fails : {A : Type 0} (p : A → Bool) (xs : List A) (d : A) (i : ℕ) → any p xs ≡ false → i < length xs → p (get_or xs i d) ≡ false
unfolding any
any_fails p [] d i e h = absurd (omega arith)
any_fails p (x ∷ xs) d i e h = go (p x) refl i h e (λ k f l. any_fails p xs d k f l)
  where
    go : (t : Bool) → p x ≡ t → (i : ℕ) → i < suc (length xs) → (t || any p xs) ≡ false → ((k : ℕ) → any p xs ≡ false → k < length xs → p (get_or xs k d) ≡ false)
        → p (get_or (x ∷ xs) i d) ≡ false
    go true q i l f r = absurd (let z : ◌≡◌ {A = ℕ} 0 1 = cc in omega arith)
    go false q zero l f r = q
    go false q (suc i) l f r = r i f (omega arith)

module _ (file : Bytes) (kept : breaks file ≡ []) (n : ℕ) (low : 1 ≤ n) (high : n ≤ length (lines file)) where
  abbrev here : Bytes
  here = get_or (lines file) (n - 1) []

  abbrev book : Book
  book = book_of (lines file)

  -- rule j of the list is not broken at a cell of a line that is judged
  accepted_rule :
      is_silent here ≡ false → (c : ℕ) → 1 ≤ c → c ≤ width here → (j : ℕ) (r : Rule) → get_elem? (rules book) j ≡ some r
      → r.broken (spot_at (lines file) n) c ≡ false
  accepted_rule loud c lo hi j r e = go (r.broken (spot_at (lines file) n) c) refl
    where
      go : (t : Bool) → r.broken (spot_at (lines file) n) c ≡ t → t ≡ false
      go true b =
          absurd
          (accepted_whole file {k = r.number} kept
          (inl (record { line_low = low; line_high = high; judged = loud; cell_low = lo; cell_high = hi; broken = nth_broken (rules book) (spot_at (lines file) n) c j r e b })))
      go false b = refl

  module _ (head : is_header book here ≡ true) where
    loud : is_silent here ≡ false
    loud = silent_sort book here ∙ header_loud (sort_of book here) head

    some_cell : 1 ≤ width here
    some_cell = let f = split_some 9 here in omega arith

    narrow : is_wide here ≡ false
    unfolding rules
    narrow = second_fails (is_header book here) (is_wide here) head (accepted_rule loud 1 (omega arith) some_cell 10 _ refl)

    -- rule 11: a header has at most 256 cells
    pub accepted_width : width here ≤ 256
    accepted_width = ltb-false 256 (width here) narrow

    -- rule 13: no two columns of a header have one name
    pub accepted_apart : (a b : ℕ) → 1 ≤ a → a < b → b < width here → same (get_or (cells here) b []) (get_or (cells here) a []) ≡ false
    unfolding rules cell
    accepted_apart a b la ab bw =
        let q = accepted_rule loud (suc b) (omega arith) (omega arith) 12 _ refl in
        let t = second_fails _ _ (le-leb 2 (suc b) (omega arith)) q in
        let w : suc b - 1 ≡ b = omega arith in
        let u : any (same (get_or (cells here) (suc b - 1) [])) (take (suc b - 2) (drop 1 (cells here))) ≡ false = second_fails (is_header book here && not (is_wide here)) _ (rw (head, narrow)) t in
        let z : 1 + (a - 1) ≡ a = omega arith in
        let v = any_fails (same (get_or (cells here) (suc b - 1) [])) (take (suc b - 2) (drop 1 (cells here))) [] (a - 1) u (rw (length-take, length-drop) (omega arith)) in
        rw (get_or-take (suc b - 2) (drop 1 (cells here)) (a - 1) [] (omega arith), get_or-drop 1 (cells here) (a - 1) [], z, w) at v

-- a line with a header's code is a header of that section, computed
module _ (file : List Bytes) where
  code_sort_lem : (section : ℕ) → is_section (book_of file) section ≡ true → code_sort (book_of file) (header_code (book_of file) section) ≡ Header section
  unfolding code_sort coded_from book_of mz_tab is_section section_of bytes same
  code_sort_lem zero e = absurd (let z : ◌≡◌ {A = ℕ} 0 1 = cc in omega arith)
  code_sort_lem (suc zero) e = refl
  code_sort_lem (suc (suc zero)) e = refl
  code_sort_lem (suc (suc (suc zero))) e = refl
  code_sort_lem (suc (suc (suc (suc zero)))) e = refl
  code_sort_lem (suc (suc (suc (suc (suc s))))) e = absurd (omega (arith, section_within (book_of file) (suc (suc (suc (suc (suc s))))) e))

  no_code : (section : ℕ) → is_section (book_of file) section ≡ true → same [] (header_code (book_of file) section) ≡ true → ⊥
  unfolding book_of mz_tab is_section section_of bytes same
  no_code zero e q = let z : ◌≡◌ {A = ℕ} 0 1 = cc in omega arith
  no_code (suc zero) e q = let z : ◌≡◌ {A = ℕ} 0 1 = cc in omega arith
  no_code (suc (suc zero)) e q = let z : ◌≡◌ {A = ℕ} 0 1 = cc in omega arith
  no_code (suc (suc (suc zero))) e q = let z : ◌≡◌ {A = ℕ} 0 1 = cc in omega arith
  no_code (suc (suc (suc (suc zero)))) e q = let z : ◌≡◌ {A = ℕ} 0 1 = cc in omega arith
  no_code (suc (suc (suc (suc (suc s))))) e q = omega (arith, section_within (book_of file) (suc (suc (suc (suc (suc s))))) e)

  pub header_coded : (section : ℕ) (l : Bytes) → is_section (book_of file) section ≡ true → coded (header_code (book_of file) section) l ≡ true → sort_of (book_of file) l ≡ Header section
  unfolding sort_of coded cell is_empty split_on
  header_coded section [] s e = absurd (no_code section s e)
  header_coded section (x ∷ xs) s e = rw (same_equal (get_or (cells (x ∷ xs)) 0 []) (header_code (book_of file) section) e) (code_sort_lem section s)
