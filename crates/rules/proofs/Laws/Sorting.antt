-- What a line code says in a book, by the tests that lead to each answer. Assumes nothing.
use mathlib.Core.Path.{◌≡◌, refl, sym, subst}
use mathlib.Core.Bool.{Bool, true, false, cond, ◌||◌}
use mathlib.Core.List.{List, [], ◌∷◌}
use Prim.Native.Nat.{ℕ, suc, ◌+◌, ◌≤◌, ◌<◌}
use native.Mathlib.Omega.{arith}
use lib.Dec.{eqb, ltb}
use lib.ListN.{length}
use borrow.Author.Tests.{lt-ltb, le-ltb, ltb-true, ne_eqb}
use Rattle.text_bytes.specs.Bytes.{Bytes, bytes, same, is, is_empty, split_on}
use Rattle.text.specs.Lines.{cell, coded, is_meta}
use Rattle.text_bytes.proofs.Laws.Same.{same_equal}
use Rattle.book.specs.Book.{SECTIONS, Section, Book, is_section, code_in, coded_from, section_by}
use Rattle.book.proofs.Laws.Sized.{Sized}
use Rattle.book.proofs.Laws.Directing.{section_here, section_within}
use Rattle.rules.specs.Sorts.{code_sort, sort_of, is_silent}
use Rattle.rules.specs.declared.sorts.Sort.{Sort}
use Rattle.rules.specs.declared.sorts.Sort.TheVariants.{Silent, Unknown, Meta, Header, Row}

module _ (b : Book) (code : Bytes) where
  pub sort_silent : is code "COM" ≡ true → Silent ≡ code_sort b code
  unfolding code_sort
  sort_silent t = rw t

  module _ (loud : is code "COM" ≡ false) where
    pub sort_meta : is code "MTD" ≡ true → Meta ≡ code_sort b code
    unfolding code_sort
    sort_meta t = rw (loud, t)

    module _ (no : is code "MTD" ≡ false) (r : ℕ) (er : r ≡ section_by b true code) where
      pub sort_row : 0 < r → Row r ≡ code_sort b code
      unfolding code_sort
      sort_row p = rw (loud, no, ← er, lt-ltb 0 r p)

      module _ (none : r ≤ 0) (h : ℕ) (eh : h ≡ section_by b false code) where
        pub sort_header : 0 < h → Header h ≡ code_sort b code
        unfolding code_sort
        sort_header p = rw (loud, no, ← er, le-ltb 0 r none, ← eh, lt-ltb 0 h p)

        pub sort_unknown : h ≤ 0 → Unknown ≡ code_sort b code
        unfolding code_sort
        sort_unknown p = rw (loud, no, ← er, le-ltb 0 r none, ← eh, le-ltb 0 h p)

-- SILENT LINES AND METADATA, in every book
abbrev pub silent_in : Sort → Bool
silent_in (Header s) = false
silent_in (Row s) = false
silent_in Silent = true
silent_in Unknown = false
silent_in Meta = false

abbrev pub meta_in : Sort → Bool
meta_in (Header s) = false
meta_in (Row s) = false
meta_in Silent = false
meta_in Unknown = false
meta_in Meta = true

either_silent : (t u : Bool) (r h : ℕ) → silent_in (cond t Meta (cond u (Row r) (cond (ltb 0 h) (Header h) Unknown))) ≡ false
either_silent true u r h = refl
either_silent false true r h = refl
either_silent false false r h = go (ltb 0 h)
  where
    go : (v : Bool) → silent_in (cond v (Header h) Unknown) ≡ false
    go true = refl
    go false = refl

pub silent_sort : (b : Book) (l : Bytes) → is_silent l ≡ silent_in (sort_of b l)
unfolding is_silent sort_of code_sort
silent_sort b l = go (is_empty l) (is (cell 1 l) "COM")
  where
    go : (t u : Bool)
        → (t || u) ≡ silent_in (cond t Silent (cond u Silent (cond (is (cell 1 l) "MTD") Meta (cond (ltb 0 (section_by b true (cell 1 l))) (Row (section_by b true (cell 1 l))) (cond (ltb 0 (section_by b false (cell 1 l))) (Header (section_by b false (cell 1 l))) Unknown)))))
    go true u = refl
    go false true = refl
    go false false = sym (either_silent (is (cell 1 l) "MTD") (ltb 0 (section_by b true (cell 1 l))) (section_by b true (cell 1 l)) (section_by b false (cell 1 l)))

either_meta : (u : Bool) (r h : ℕ) → meta_in (cond u (Row r) (cond (ltb 0 h) (Header h) Unknown)) ≡ false
either_meta true r h = refl
either_meta false r h = go (ltb 0 h)
  where
    go : (v : Bool) → meta_in (cond v (Header h) Unknown) ≡ false
    go true = refl
    go false = refl

-- a line without a byte, and a comment, is no metadata line
empty_meta : (l : Bytes) → is_empty l ≡ true → is_meta l ≡ false
unfolding is_empty coded cell bytes same split_on
empty_meta [] e = refl
empty_meta (x ∷ l) e = absurd (let z : ◌≡◌ {A = ℕ} 0 1 = cc in omega arith)

comment_meta : (code : Bytes) → is code "COM" ≡ true → is code "MTD" ≡ false
unfolding bytes same
comment_meta code e = rw (same_equal code (bytes "COM") e)

pub meta_sort : (b : Book) (l : Bytes) → is_meta l ≡ meta_in (sort_of b l)
unfolding coded cell sort_of code_sort
meta_sort b l = go (is_empty l) refl (is (cell 1 l) "COM") refl
  where
    go : (t : Bool) → is_empty l ≡ t → (u : Bool) → is (cell 1 l) "COM" ≡ u
        → is_meta l ≡ meta_in (cond t Silent (cond u Silent (cond (is (cell 1 l) "MTD") Meta (cond (ltb 0 (section_by b true (cell 1 l))) (Row (section_by b true (cell 1 l))) (cond (ltb 0 (section_by b false (cell 1 l))) (Header (section_by b false (cell 1 l))) Unknown)))))
    go true e u f = empty_meta l e
    go false e true f = comment_meta (cell 1 l) f
    go false e false f = last (is (cell 1 l) "MTD")
      where
        last : (v : Bool) → v ≡ meta_in (cond v Meta (cond (ltb 0 (section_by b true (cell 1 l))) (Row (section_by b true (cell 1 l))) (cond (ltb 0 (section_by b false (cell 1 l))) (Header (section_by b false (cell 1 l))) Unknown)))
        last true = refl
        last false = sym (either_meta (ltb 0 (section_by b true (cell 1 l))) (section_by b true (cell 1 l)) (section_by b false (cell 1 l)))

-- EMPTY

pub empty_nil : (l : Bytes) → length l ≡ 0 → is_empty l ≡ true
unfolding is_empty
empty_nil [] h = refl
empty_nil (x ∷ xs) h = absurd (omega arith)

pub empty_some : (l : Bytes) → (length l ≡ 0 → ⊥) → is_empty l ≡ false
unfolding is_empty
empty_some [] h = absurd (h refl)
empty_some (x ∷ xs) h = refl

pub empty_test : (l : Bytes) → eqb (length l) 0 ≡ is_empty l
unfolding is_empty
empty_test [] = refl
empty_test (x ∷ xs) = ne_eqb (suc (length xs)) 0 (λ e. omega arith)

-- THE SECTION of a header and of a row is one of the book's
InBook : Book → Sort → Type 0
InBook b (Header h) = is_section b h ≡ true
InBook b (Row r) = is_section b r ≡ true
InBook b Silent = Unit
InBook b Unknown = Unit
InBook b Meta = Unit

either_in : (b : Book) (t : Bool) (x y : Sort) → (t ≡ true → InBook b x) → InBook b y → InBook b (cond t x y)
either_in b true x y p q = p refl
either_in b false x y p q = q

coded_within : (row : Bool) (n : ℕ) (ss : List Section) (code : Bytes) → 0 < coded_from row n ss code → (n ≤ coded_from row n ss code) × (coded_from row n ss code < n + length ss)
unfolding coded_from
coded_within row n [] code h = absurd (omega arith)
coded_within row n (s ∷ ss) code h = go (is code (code_in row s)) h (coded_within row (n + 1) ss code)
  where
    later : ℕ
    later = coded_from row (n + 1) ss code

    go : (t : Bool) → 0 < cond t n later → (0 < later → (n + 1 ≤ later) × (later < n + 1 + length ss)) → (n ≤ cond t n later) × (cond t n later < n + suc (length ss))
    go true q f = (omega arith, omega arith)
    go false q f = let r = f q in (omega arith, omega arith)

module _ (b : Book) where
  section_is : (row : Bool) (code : Bytes) → ltb 0 (section_by b row code) ≡ true → is_section b (section_by b row code) ≡ true
  section_is row code e =
      let w = coded_within row b.first b.sections code (ltb-true 0 (section_by b row code) e) in
      section_here b (section_by b row code) w.0 (omega (arith, w.0, w.1))

  sort_section : (l : Bytes) → InBook b (sort_of b l)
  unfolding sort_of code_sort InBook
  sort_section l =
      let c = cell 1 l in
      either_in b (is_empty l) _ _ (λ e. tt)
      (either_in b (is c "COM") _ _ (λ e. tt)
      (either_in b (is c "MTD") _ _ (λ e. tt)
      (either_in b (ltb 0 (section_by b true c)) _ _ (section_is true c)
      (either_in b (ltb 0 (section_by b false c)) (Header (section_by b false c)) Unknown (section_is false c) tt))))

  pub header_is : (l : Bytes) (h : ℕ) → sort_of b l ≡ Header h → is_section b h ≡ true
  unfolding InBook
  header_is l h e = subst (InBook b) e (sort_section l)

  pub row_is : (l : Bytes) (r : ℕ) → sort_of b l ≡ Row r → is_section b r ≡ true
  unfolding InBook
  row_is l r e = subst (InBook b) e (sort_section l)

  module _ (k : Sized b) where
    -- so it is from 1 on and below SECTIONS
    pub section_in : (s : ℕ) → is_section b s ≡ true → (0 < s) × (s < SECTIONS)
    section_in s e = let w = section_within b s e in (omega (arith, w.0, k.low), omega (arith, w.0, w.1, k.high))

    pub header_section : (l : Bytes) (h : ℕ) → sort_of b l ≡ Header h → (0 < h) × (h < SECTIONS)
    header_section l h e = section_in h (header_is l h e)

    pub row_section_lem : (l : Bytes) (r : ℕ) → sort_of b l ≡ Row r → (0 < r) × (r < SECTIONS)
    row_section_lem l r e = section_in r (row_is l r e)
