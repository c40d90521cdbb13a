-- What a directory says: which numbers are sections, their line codes and their columns; and that the directory of the book is one. Assumes nothing.
use Prim.Native.Nat.{ℕ, suc, ◌+◌, ◌*◌, ◌-◌, ◌≤◌, ◌<◌}
use mathlib.Core.Path.{◌≡◌, refl, ap, sym, ◌∙◌}
use mathlib.Core.Bool.{Bool, true, false, cond, not}
use native.Mathlib.Omega.{arith}
use native.Mathlib.Numerals.{add-one}
use lib.Dec.{eqb, leb, ltb}
use lib.ListN.{length, get_or, drop, drop_of_length-le}
use lib.Seq.{drop-cons}
use borrow.Author.Tests.{leb-true, ltb-true, le-leb, lt-leb, le-ltb, lt-ltb}
use Rattle.text_bytes.specs.Bytes.{Bytes, bytes, same}
use Rattle.text_bytes.specs.Places.{part}
use Rattle.text_bytes.proofs.Laws.Tests.{and_both}
use Rattle.book_names.specs.Names.{lookup_in}
use Rattle.book_names.specs.Table.{entries}
use Rattle.book_names.specs.Links.{Linked}
use Rattle.book.specs.Book.{Section, Book, no_section, is_section, section_of, code_for, code_in, coded_from, entries_of, column_entries}
use Rattle.book.specs.Text.{rows_at, links_at, rows_of, code_at, IsDirectory, IsTable, IsText}

-- A SECTION'S NUMBER
module _ (b : Book) (s : ℕ) where
  pub section_below : s < b.first → is_section b s ≡ false
  unfolding is_section
  section_below h = rw (lt-leb b.first s h)

  pub section_from : b.first ≤ s → is_section b s ≡ ltb s (b.first + length b.sections)
  unfolding is_section
  section_from h = rw (le-leb b.first s h)

  pub section_past : b.first ≤ s → length b.sections ≤ s - b.first → is_section b s ≡ false
  section_past h k = section_from h ∙ le-ltb s (b.first + length b.sections) (omega arith)

  pub section_here : b.first ≤ s → s - b.first < length b.sections → is_section b s ≡ true
  section_here h k = section_from h ∙ lt-ltb s (b.first + length b.sections) (omega arith)

  pub section_within : is_section b s ≡ true → (b.first ≤ s) × (s - b.first < length b.sections)
  unfolding is_section
  section_within h =
      let p = and_both (leb b.first s) (ltb s (b.first + length b.sections)) h in
      (leb-true b.first s p.0, omega (arith, leb-true b.first s p.0, ltb-true s (b.first + length b.sections) p.1))

  pub section_at : is_section b s ≡ true → section_of b s ≡ get_or b.sections (s - b.first) no_section
  unfolding section_of
  section_at h = rw h

-- LINE CODES: the place of a section's, from that of the first's
code_step : (row : Bool) (j : ℕ) → code_at row 0 + 12 * j ≡ code_at row j
code_step true j = omega arith
code_step false j = omega arith

code_high : (row : Bool) → code_at row 0 ≤ 17
code_high true = omega arith
code_high false = omega arith

module _ {b : Book} {t : Bytes} (d : IsDirectory b t) (row : Bool) (from j : ℕ) (at : from ≡ code_at row 0) (h : j < length b.sections) where
  pub code_fits : from + 12 * j + 3 ≤ length t
  code_fits = omega (arith, code_high row, d.size)

  code_part : part (from + 12 * j) (from + 12 * j + 3) t ≡ bytes (code_in row (get_or b.sections j no_section))
  code_part = rw (at, code_step row j) (d.codes row j h)

-- row 0 has the code of headers
code_for_lem : (b : Book) (s row : ℕ) (u : Section) → section_of b s ≡ u → bytes (code_in (not (eqb row 0)) u) ≡ code_for b s row
unfolding code_for
code_for_lem b s row u e = rw e (go (eqb row 0))
  where
    go : (z : Bool) → bytes (code_in (not z) u) ≡ cond z (bytes u.header) (bytes u.row)
    go true = refl
    go false = refl

pub code_of_section : {b : Book} {t : Bytes} → IsDirectory b t → (s row from j : ℕ) → is_section b s ≡ true → from ≡ code_at (not (eqb row 0)) 0 → j ≡ s - b.first
    → part (from + 12 * j) (from + 12 * j + 3) t ≡ code_for b s row
code_of_section {b} d s row from j h at e =
    let w = section_within b s h in
    code_part d (not (eqb row 0)) from j at (omega arith) ∙ code_for_lem b s row (get_or b.sections j no_section) (section_at b s h ∙ ap (λ (i : ℕ). get_or b.sections i no_section) (sym e))

-- THE SECTION OF A LINE CODE: that of number j, a later one's, and none
module _ {b : Book} {t : Bytes} (d : IsDirectory b t) (row : Bool) (from j : ℕ) (code : Bytes) (at : from ≡ code_at row 0) (h : j < length b.sections) where
  coded_split : coded_from row (b.first + j) (drop j b.sections) code
      ≡ cond (same code (part (from + 12 * j) (from + 12 * j + 3) t)) (b.first + j) (coded_from row (b.first + j + 1) (drop (suc j) b.sections) code)
  unfolding coded_from
  coded_split = rw (drop-cons b.sections j no_section h, code_part d row from j at h)

  pub coded_here : same code (part (from + 12 * j) (from + 12 * j + 3) t) ≡ true → coded_from row (b.first + j) (drop j b.sections) code ≡ b.first + j
  coded_here e = rw (coded_split, e)

  pub coded_next : same code (part (from + 12 * j) (from + 12 * j + 3) t) ≡ false
      → coded_from row (b.first + j) (drop j b.sections) code ≡ coded_from row (b.first + (j + 1)) (drop (j + 1) b.sections) code
  coded_next e = let n : b.first + j + 1 ≡ b.first + (j + 1) = omega arith in coded_split ∙ rw (e, n, add-one)

pub coded_none : (b : Book) (row : Bool) (j : ℕ) (code : Bytes) → length b.sections ≤ j → coded_from row (b.first + j) (drop j b.sections) code ≡ 0
unfolding coded_from
coded_none b row j code h = rw (drop_of_length-le b.sections h)

-- A TABLE, by the places that the directory has
pub table_linked : {t : Bytes} {k from to links end : ℕ} → IsTable t k → from ≡ rows_at t k → to ≡ rows_at t (k + 1) → links ≡ links_at t k → end ≡ links_at t (k + 1)
    → Linked 0 (entries (part from to t)) (part links end t)
table_linked h f e l m = rw (f, e, l, m) h.linked

pub table_rows : {from to : ℕ} (t : Bytes) (k : ℕ) (name : Bytes) → from ≡ rows_at t k → to ≡ rows_at t (k + 1)
    → lookup_in (entries (part from to t)) name ≡ lookup_in (entries (rows_of t k)) name
table_rows t k name f e = rw (f, e)

-- COLUMNS: those of a section stand in its table
pub columns_at : {b : Book} {t : Bytes} → IsText b t → (s k : ℕ) → b.first ≤ s → k ≡ s - b.first → k < length b.sections → entries (rows_of t (k + 1)) ≡ column_entries b s
columns_at {b} {t} d s k l e h =
    (d.columns k h).rows
    ∙ ap (λ (u : Section). entries_of u.columns) (ap (λ (i : ℕ). get_or b.sections i no_section) e ∙ sym (section_at b s (section_here b s l (omega arith))))
