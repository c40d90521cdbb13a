-- A test over the columns of every section; columns that need no look-up: a name that begins `opt_`, and one of fewer than three bytes, which no table has. Assumes nothing.
use Prim.Native.Nat.{ℕ, zero, suc, ◌-◌, ◌≤◌, ◌<◌}
use mathlib.Core.Path.{◌≡◌, refl, ◌∙◌}
use mathlib.Core.Bool.{Bool, true, false, cond}
use mathlib.Core.List.{List, [], ◌∷◌}
use native.Mathlib.Omega.{arith}
use lib.ListN.{length, get_or}
use borrow.Author.Tests.{lt-ltb, le-ltb}
use Rattle.std.specs.Prelude.{Err}
use Rattle.text_bytes.specs.Bytes.{Bytes, bytes, all}
use Rattle.text_bytes.proofs.Laws.Begins.{begins_short}
use Rattle.text_bytes.proofs.Laws.Tests.{and_both}
use Rattle.book_names.specs.Names.{Entry, pieces_from, entry_of, first_of, lookup_in, known_as}
use Rattle.value_references.specs.declared.index.Flaw.TheVariants.{Form}
use Rattle.book_names.proofs.Laws.Lengths.{text_of, is_long, first_short}
use Rattle.book.specs.Columns.{protein_columns, peptide_columns, psm_columns, molecule_columns}
use Rattle.book.specs.Book.{Section, Book, no_section, is_section, section_of, entries_of, is_opt, opt_of, column_entries, column_of, mz_tab}
use Rattle.book.specs.Text.{book_in}

-- EVERY TABLE: a test that the columns of each section pass, and no columns, is passed by those of any number
module _ (p : List Entry → Bool) where
  abbrev pub on_columns : Section → Bool
  on_columns s = p (entries_of s.columns)

  every_at : (ss : List Section) (i : ℕ) → all on_columns ss ≡ true → p [] ≡ true → on_columns (get_or ss i no_section) ≡ true
  unfolding all
  every_at [] i h z = z
  every_at (s ∷ ss) zero h z = (and_both (on_columns s) (all on_columns ss) h).0
  every_at (s ∷ ss) (suc i) h z = every_at ss i (and_both (on_columns s) (all on_columns ss) h).1 z

  pub every_section : (b : Book) (n : ℕ) → all on_columns b.sections ≡ true → p [] ≡ true → p (column_entries b n) ≡ true
  unfolding section_of
  every_section b n h z = go (is_section b n)
    where
      go : (t : Bool) → on_columns (cond t (get_or b.sections (n - b.first) no_section) no_section) ≡ true
      go true = every_at b.sections (n - b.first) h z
      go false = z

-- OPT
module _ (b : Book) (section : ℕ) (name : List ℕ) where
  pub column_table : is_opt name ≡ false → column_of b section name ≡ lookup_in (column_entries b section) name
  unfolding column_of
  column_table h = rw h

  pub column_bare : is_opt name ≡ true → length name ≤ 4 → column_of b section name ≡ Err Form
  unfolding column_of opt_of
  column_bare h l = rw (h, le-ltb 4 (length name) l)

  pub column_opt : is_opt name ≡ true → 4 < length name → column_of b section name ≡ known_as 255 84 45 0 0
  unfolding column_of opt_of
  column_opt h l = rw (h, lt-ltb 4 (length name) l)

-- SHORT NAMES: no column's name has fewer than three bytes, computed
columns_long : (t : Bytes) (s : ℕ) → all is_long (column_entries (book_in t) s) ≡ true
unfolding is_long text_of all bytes book_in mz_tab protein_columns peptide_columns psm_columns molecule_columns entry_of pieces_from
columns_long t s = every_section (λ es. all is_long es) (book_in t) s refl refl

pub column_short : (t : Bytes) (section : ℕ) (name : List ℕ) → length name < 3 → column_of (book_in t) section name ≡ Err Form
unfolding is_opt bytes
column_short t section name h =
    column_table (book_in t) section name (begins_short (bytes "opt_") name (omega arith)) ∙ first_short 0 (column_entries (book_in t) section) name (columns_long t section) h

-- NO SECTION has no columns
pub columns_none : (b : Book) (s : ℕ) (name : List ℕ) → is_section b s ≡ false → lookup_in (column_entries b s) name ≡ Err Form
unfolding section_of first_of
columns_none b s name h = rw h
