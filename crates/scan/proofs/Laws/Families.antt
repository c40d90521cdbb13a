-- A column that names an id names one of the four families, by an index of 1 to 64: computed once over the tables. Assumes nothing.
use mathlib.Core.Path.{◌≡◌, refl, subst}
use mathlib.Core.Bool.{Bool, true, false, cond, not, ◌&&◌, ◌||◌}
use mathlib.Core.List.{List, []}
use Prim.Native.Nat.{ℕ, ◌≤◌, ◌<◌}
use native.Mathlib.Omega.{arith}
use lib.Dec.{eqb, ltb}
use lib.ListN.{length}
use borrow.Author.Tests.{ltb-true, eqb-false, ne_eqb}
use Rattle.std.specs.Prelude.{Ok, Err}
use Rattle.text_bytes.specs.Bytes.{Bytes, bytes, all}
use Rattle.text_bytes.proofs.Laws.Tests.{and_both}
use Rattle.text_bytes.proofs.Laws.Each.{all_at}
use Rattle.book.specs.Letters.{NONE}
use Rattle.book_names.specs.declared.Known.{Known}
use Rattle.book_names.specs.Names.{Entry, entry, entry_of, family_of, form_of, pieces_from, lookup_in, Found, known_as}
use Rattle.book_kinds.specs.Kinds.{family_number}
use Rattle.value_references.specs.declared.index.Flaw.TheVariants.{Form}
use Rattle.book_names.proofs.Laws.Known.{holes, nth, Shape, known}
use Rattle.rules.specs.Rules.{last_index, is_undeclared, column_undeclared}
use Rattle.scan.specs.Machine.{Ids, column_in, Within, Declares}
use Rattle.book.specs.Book.{is_opt, opt_of, column_entries, column_of, mz_tab}
use Rattle.book.specs.Columns.{protein_columns, peptide_columns, psm_columns, molecule_columns}
use Rattle.book.specs.Text.{book_in}
use Rattle.book.proofs.Laws.Columns.{every_section}

-- a line with the letter of a family has a place for an index
abbrev has_place : Entry → Bool
has_place x = eqb (family_of x) NONE || (ltb (family_number (family_of x)) 4 && ltb 0 (holes (form_of x)))

tables_have : (t : Bytes) (section : ℕ) → all has_place (column_entries (book_in t) section) ≡ true
unfolding all book_in mz_tab protein_columns peptide_columns psm_columns molecule_columns bytes entry_of pieces_from holes family_number
tables_have t section = every_section (λ es. all has_place es) (book_in t) section refl refl

last_within : (h i j : ℕ) → 0 < h → Shape h i j → (1 ≤ last_index i j) × (last_index i j ≤ 64)
last_within h i j l s = go (eqb j 0) refl
  where
    go : (t : Bool) → eqb j 0 ≡ t → (1 ≤ cond t i j) × (cond t i j ≤ 64)
    go true e = (omega (arith, s.i_least), omega (arith, s.i_high))
    go false e = let n = eqb-false j 0 e in (omega arith, omega (arith, s.j_most, s.few))

found_within : (t : Bytes) (section : ℕ) (name : Bytes) (r : Found) → lookup_in (column_entries (book_in t) section) name ≡ r → Within r
found_within t section name (Err w) h = tt
found_within t section name (Ok k) h =
    λ none.
    let a = known (column_entries (book_in t) section) name k.entry k.kind k.family k.i k.j h in
    let x = nth (column_entries (book_in t) section) k.entry in
    let named : eqb (family_of x) NONE ≡ false = rw a.family at none in
    let u : (ltb (family_number (family_of x)) 4 && ltb 0 (holes (form_of x))) ≡ true = rw named at (all_at has_place (column_entries (book_in t) section) (entry 0 0 []) k.entry (tables_have t section) a.inside) in
    let q = and_both (ltb (family_number (family_of x)) 4) (ltb 0 (holes (form_of x))) u in
    let w = last_within (holes (form_of x)) k.i k.j (ltb-true 0 (holes (form_of x)) q.1) a.shape in
    (rw a.family (ltb-true (family_number (family_of x)) 4 q.0), w.0, w.1)

-- THE LAW, over any name
pub column_within : (t : Bytes) (section : ℕ) (name : Bytes) → Within (column_of (book_in t) section name)
unfolding column_of opt_of
column_within t section name = go (is_opt name) (ltb 4 (length name)) (found_within t section name (lookup_in (column_entries (book_in t) section) name) refl)
  where
    go : (v u : Bool) → Within (lookup_in (column_entries (book_in t) section) name) → Within (cond v (cond u (known_as 255 84 45 0 0) (Err Form)) (lookup_in (column_entries (book_in t) section) name))
    go true true w = λ h. absurd (let z : ◌≡◌ {A = ℕ} 0 1 = cc in omega arith)
    go true false w = tt
    go false u w = w

-- what a found column says of ids
module _ {k : Known} (r : Found) (q : r ≡ Ok k) where
  pub within_named : Within r → (k.family ≡ NONE → ⊥) → (family_number k.family < 4) × (1 ≤ last_index k.i k.j) × (last_index k.i k.j ≤ 64)
  within_named w ne = subst Within q w (ne_eqb k.family NONE ne)

  pub column_none : (ids : Ids) → k.family ≡ NONE → column_in ids r ≡ false
  column_none ids n = rw (q, n)

  pub column_named_lem : (ids : Ids) → (k.family ≡ NONE → ⊥) → column_in ids r ≡ not (ids (family_number k.family) (last_index k.i k.j))
  column_named_lem ids ne = rw (q, ne_eqb k.family NONE ne)

-- RULE 15, by the ids that are carried
module _ (t : Bytes) (file : List Bytes) (ids : Ids) (d : Declares (book_in t) file ids) where
  pub undeclared_is : (f i : ℕ) → f < 4 → 1 ≤ i → i ≤ 64 → is_undeclared (book_in t) file f i ≡ not (ids f i)
  unfolding is_undeclared
  undeclared_is f i h lo hi = rw (d f i h lo hi)

  pub column_ids : (section : ℕ) (x : Bytes) → column_undeclared (book_in t) file (column_of (book_in t) section x) ≡ column_in ids (column_of (book_in t) section x)
  column_ids section x = go (column_of (book_in t) section x) (column_within t section x)
    where
      go : (r : Found) → Within r → column_undeclared (book_in t) file r ≡ column_in ids r
      go (Err z) w = refl
      go (Ok k) w = none (eqb k.family 45) refl
        where
          none : (v : Bool) → eqb k.family 45 ≡ v → (not v && is_undeclared (book_in t) file (family_number k.family) (last_index k.i k.j)) ≡ (not v && not (ids (family_number k.family) (last_index k.i k.j)))
          none true n = refl
          none false n = let r = w n in undeclared_is (family_number k.family) (last_index k.i k.j) r.0 r.1 r.2
