-- Whether all wanted names are among others: the wanted ones by positions in one text, and the required columns. Assumes nothing.
use mathlib.Core.Path.{◌≡◌, refl, sym, ap, subst⁻¹, ◌∙◌}
use mathlib.Core.Bool.{Bool, true, false, not, ◌&&◌}
use mathlib.Core.List.{List, [], ◌∷◌, map}
use Prim.Native.Nat.{ℕ, ◌+◌, ◌-◌, ◌≤◌, ◌<◌}
use Prim.Native.String.{String}
use native.Mathlib.Omega.{arith}
use lib.Seq.{take_all}
use lib.Dec.{eqb}
use lib.ListN.{length, take, drop, get_or}
use borrow.Author.Tests.{eqb-true}
use Rattle.text.specs.Lines.{cells}
use Rattle.rules.specs.Rules.{has_column, lacks_column}
use Rattle.scan.specs.Machine.{Asked}
use Rattle.scan.proofs.Laws.Celling.{cell_here, cells_next, cells_last}
use Rattle.line_head_required.specs.Wanted.{is_line}
use Rattle.text_bytes.specs.Bytes.{Bytes, bytes, any, all}
use Rattle.text_bytes.specs.Places.{part, Ends}
use Rattle.text_bytes.proofs.Laws.Each.{all_at}
use Rattle.text_bytes.proofs.Laws.Tests.{absurd_bool, and_both}
use Rattle.book.specs.Letters.{ALWAYS}
use Rattle.book_facts.specs.Asked.{asks, asked_by}
use Rattle.book_facts.specs.declared.Asking.{Asking}
use Rattle.book.specs.Book.{Section, Book, no_section, is_section, section_of, mz_tab}
use Rattle.book.specs.Columns.{protein_required, peptide_required, psm_required, molecule_required}
use Rattle.book.specs.Text.{wanted_at, Wants, IsText, book_in, IsBook}
use Rattle.book.proofs.Laws.Directing.{section_within, section_at}

-- the first of these is asked of every file
abbrev opens : List String → Bool
opens [] = false
opens (r ∷ rs) = eqb (get_or (bytes r) 0 0) ALWAYS

-- the first of the cells, by positions
module _ {l : List ℕ} {s e : ℕ} (h : Ends 9 l s e) (f : Bytes → Bool) where
  all_cells : all f (cells (drop s l)) ≡ (f (take (e - s) (drop s l)) && all f (drop 1 (cells (drop s l))))
  unfolding all
  all_cells = ap (λ (q : List Bytes). all f q) (cell_here h)

  pub all_miss : not (f (take (e - s) (drop s l))) ≡ true → not (all f (cells (drop s l))) ≡ true
  all_miss t = rw all_cells (go (f (take (e - s) (drop s l))) t)
    where
      go : (t : Bool) → not t ≡ true → not (t && all f (drop 1 (cells (drop s l)))) ≡ true
      go true n = absurd (let z : ◌≡◌ {A = ℕ} 0 1 = cc in omega arith)
      go false n = refl

  all_hit : not (f (take (e - s) (drop s l))) ≡ false → all f (cells (drop s l)) ≡ all f (drop 1 (cells (drop s l)))
  all_hit t = all_cells ∙ go (f (take (e - s) (drop s l))) t
    where
      go : (t : Bool) → not t ≡ false → (t && all f (drop 1 (cells (drop s l)))) ≡ all f (drop 1 (cells (drop s l)))
      go true n = refl
      go false n = absurd (let z : ◌≡◌ {A = ℕ} 0 1 = cc in omega arith)

  pub all_next : not (f (take (e - s) (drop s l))) ≡ false → e < length l → all f (cells (drop s l)) ≡ all f (cells (drop (e + 1) l))
  all_next t lt = all_hit t ∙ rw (cells_next h lt)

  pub all_last : not (f (take (e - s) (drop s l))) ≡ false → e ≡ length l → all f (cells (drop s l)) ≡ true
  unfolding all
  all_last t q = all_hit t ∙ rw (cells_last h q)

  -- the first of them, and those after it, are such
  pub all_here : all f (cells (drop s l)) ≡ true → f (take (e - s) (drop s l)) ≡ true
  all_here t = (and_both (f (take (e - s) (drop s l))) (all f (drop 1 (cells (drop s l)))) (sym all_cells ∙ t)).0

  pub all_after : all f (cells (drop s l)) ≡ true → e < length l → all f (cells (drop (e + 1) l)) ≡ true
  all_after t lt = rw (← cells_next h lt) (and_both (f (take (e - s) (drop s l))) (all f (drop 1 (cells (drop s l)))) (sym all_cells ∙ t)).1

-- rule 16: the required columns of a section, as one text
module _ {b : Book} {t : Bytes} (d : IsText b t) (s k from to : ℕ) (here : is_section b s ≡ true) (e : k ≡ s - b.first) (at : from ≡ wanted_at t (k + 1)) (end : to ≡ wanted_at t (k + 1 + 1)) where
  wants : Wants t (k + 1) (section_of b s).required
  wants =
      let w = section_within b s here in
      subst⁻¹ (λ (u : Section). Wants t (k + 1) u.required) (section_at b s here ∙ ap (λ (i : ℕ). get_or b.sections i no_section) (sym e)) (d.wanted k (omega (arith, w.1)))

  pub wanted_within : (from ≤ to) × (to ≤ length t)
  wanted_within = (rw (at, end) wants.starts, rw end wants.ends)

  pub lacks_wanted : (asked : Asked) (names : List Bytes) → length names ≤ 255 → not (all (has_column asked (take 255 names)) (cells (part from to t))) ≡ lacks_column b asked s names
  unfolding lacks_column
  lacks_wanted asked names few = rw (at, end, wants.wanted, take_all 255 names few)

-- what holds of the required columns of all sections holds of one's
section_all : (p : List String → Bool) (t : Bytes) (s : ℕ) → is_section (book_in t) s ≡ true → all (λ (u : Section). p u.required) (book_in t).sections ≡ true → p (section_of (book_in t) s).required ≡ true
section_all p t s h e =
    let b = book_in t in
    rw (section_at b s h) (all_at (λ (u : Section). p u.required) b.sections no_section (s - b.first) e (section_within b s h).1)

-- each has a letter and a space, computed
have_letters : (t : Bytes) → all (λ (s : Section). all is_line (map bytes s.required)) (book_in t).sections ≡ true
unfolding book_in mz_tab all bytes protein_required peptide_required psm_required molecule_required
have_letters t = refl

pub wanted_lines : {t : Bytes} (d : IsBook t) (s k from to : ℕ) → is_section (book_in t) s ≡ true → k ≡ s - (book_in t).first → from ≡ wanted_at t (k + 1) → to ≡ wanted_at t (k + 1 + 1)
    → all is_line (cells (part from to t)) ≡ true
wanted_lines {t} d s k from to here e at end =
    rw (at, end, (wants d s k from to here e at end).wanted) (section_all (λ (rs : List String). all is_line (map bytes rs)) t s here (have_letters t))

-- a header of no names lacks one: every section requires some of every file, computed
requires_some : (t : Bytes) → all (λ (s : Section). opens s.required) (book_in t).sections ≡ true
unfolding book_in mz_tab all bytes protein_required peptide_required psm_required molecule_required
requires_some t = refl

none_lacks : (a : Asking) (rs : List String) → opens rs ≡ true → not (all (has_column (asked_by a) []) (map bytes rs)) ≡ true
unfolding all any asks
none_lacks a [] h = absurd_bool h
none_lacks a (r ∷ rs) h = rw (eqb-true (get_or (bytes r) 0 0) ALWAYS h)

pub lacks_none : (t : Bytes) (a : Asking) (s : ℕ) → is_section (book_in t) s ≡ true → lacks_column (book_in t) (asked_by a) s [] ≡ true
unfolding lacks_column
lacks_none t a s h = none_lacks a (section_of (book_in t) s).required (section_all opens t s h (requires_some t))
