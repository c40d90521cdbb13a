-- The rules are local: of other lines they know codes, metadata and headers, never what a row's cells hold. So an edit of a row's cell changes the breaks of
-- that line alone. Assumes nothing.
use mathlib.Core.Path.{◌≡◌, refl, sym, ap, ◌∙◌}
use mathlib.Core.Bool.{Bool, true, false, cond, not, ◌&&◌}
use mathlib.Core.List.{List, [], ◌∷◌, ◌++◌, map, append_assoc, append-nil}
use Prim.Native.Nat.{ℕ, ◌+◌, ◌-◌, ◌≤◌}
use native.Mathlib.Omega.{arith}
use lib.Dec.{eqb, ltb}
use lib.ListN.{length, get_or, take, set, length-set}
use lib.Seq.{get_or-set_same, get_or-set_other}
use borrow.Author.Tests.{lt-ltb, le-ltb, eqb-false}
use Rattle.std.specs.Prelude.{Ok, Err}
use Rattle.book_names.specs.Names.{Found}
use Rattle.text_bytes.specs.Bytes.{Bytes, bytes, any, all, is_empty, same, split_on, on_first}
use Rattle.text_bytes.proofs.Laws.Tests.{absurd_bool}
use Rattle.text.specs.Lines.{lines, cells, cell}
use Rattle.text.specs.Edits.{Edit, edited_line, edited_file}
use Rattle.text.proofs.Laws.Splicing.{edited_cells, edited_some, edited_lines}
use Rattle.value_references.specs.Index.{MOST}
use Rattle.book.specs.Letters.{ASSAYS}
use Rattle.book.specs.Book.{Book, Demand, Want, want, section_of, up_from, book_of, mz_tab, coded_from}
use Rattle.book_kinds.specs.Kinds.{family_number}
use Rattle.book_ids.specs.Ids.{declares}
use Rattle.book_facts.specs.Facts.{mode_in, type_in, mode_of, type_of}
use Rattle.book_facts.specs.Asked.{is_declared, asked_of}
use Rattle.rules.specs.Sorts.{sort_of, code_sort, row_in, header, is_row}
use Rattle.rules.specs.declared.sorts.Sort.{Sort}
use Rattle.rules.specs.declared.sorts.Sort.TheVariants.{Silent, Unknown, Meta, Header, Row}
use Rattle.rules.specs.Breaks.{Break, spot, spot_at, Rule, rule, each, at_cell, at_line, in_lines, at_end}
use Rattle.rules.specs.Rules.{is_undeclared, last_index, named_in, names_undeclared, column_undeclared, has_column, lacks_column, flaw_at, is_present, is_asked, is_unmet, is_broken_at, rules, end_rules, ends, breaks_by, breaks}
use Rattle.rules.specs.Edited.{others, renewed, of_line, Alike, rows, Alikes, done, next, Local}
use Rattle.rules.proofs.Laws.Renewing.{listed, kept_all, each_same, each_renewed}
use Rattle.rules.proofs.Laws.Alike.{alikes_set, alike_code, spot_alike, spot_same, end_alike, any_blind, first_blind, nearest_alike, earliest_alike, table_blind, section_blind, later_blind, in_section_blind, same_key_blind, has_key_blind, declares_blind}

-- tests that agree on every element
any_same : {A : Type 0} (p q : A → Bool) → ((x : A) → p x ≡ q x) → (xs : List A) → any p xs ≡ any q xs
unfolding any
any_same p q h [] = refl
any_same p q h (x ∷ xs) = rw (h x, any_same p q h xs)

all_same : {A : Type 0} (p q : A → Bool) → ((x : A) → p x ≡ q x) → (xs : List A) → all p xs ≡ all q xs
unfolding all
all_same p q h [] = refl
all_same p q h (x ∷ xs) = rw (h x, all_same p q h xs)

-- WHAT IS ASKED OF THE WHOLE FILE

module _ (b : Book) {file file' : List Bytes} (f : Alikes b file file') where
  undeclared_alike : (k i : ℕ) → is_undeclared b file k i ≡ is_undeclared b file' k i
  unfolding is_undeclared
  undeclared_alike k i = rw (any_blind b (declares_blind b k i) f)

  names_alike : (o : Found) (v : Bytes) → names_undeclared b file o v ≡ names_undeclared b file' o v
  names_alike (Err w) v = refl
  names_alike (Ok k) v = rw (any_same (is_undeclared b file (family_number k.family)) (is_undeclared b file' (family_number k.family)) (undeclared_alike (family_number k.family)) (named_in k.kind k.family v))

  column_alike : (o : Found) → column_undeclared b file o ≡ column_undeclared b file' o
  column_alike (Err w) = refl
  column_alike (Ok k) = rw (undeclared_alike (family_number k.family) (last_index k.i k.j))

  declared_alike : (n : ℕ) → is_declared b file n ≡ is_declared b file' n
  declared_alike n = any_same (λ i. any (declares b n i) file) (λ i. any (declares b n i) file') (λ i. any_blind b (declares_blind b n i) f) (up_from MOST 1)

  mode_alike : mode_of file ≡ mode_of file'
  unfolding mode_of
  mode_alike = earliest_alike b mode_in 1 (λ k l h. rw h) f

  type_alike : type_of file ≡ type_of file'
  unfolding type_of
  type_alike = earliest_alike b type_in 1 (λ k l h. rw h) f

  asked_alike : (letter : ℕ) → asked_of b file letter ≡ asked_of b file' letter
  asked_alike letter = rw (mode_alike, type_alike, declared_alike ASSAYS)

  lacks_alike : (section : ℕ) (ns : List Bytes) → lacks_column b (asked_of b file) section ns ≡ lacks_column b (asked_of b file') section ns
  unfolding lacks_column
  lacks_alike section ns = rw (all_same (has_column (asked_of b file) ns) (has_column (asked_of b file') ns) (λ line. rw (asked_alike (get_or line 0 0))) (map bytes (section_of b section).required))

  present_alike : (s : ℕ) → is_present b file s ≡ is_present b file' s
  unfolding is_present
  present_alike s = rw (any_blind b (in_section_blind b s) f)

  unmet_alike : (w : Want) → is_unmet b file w ≡ is_unmet b file' w
  unfolding is_unmet is_asked
  unmet_alike w = rw (asked_alike w.demand.asked, present_alike w.demand.section, any_blind b (declares_blind b w.demand.each w.index) f, any_blind b (has_key_blind b w) f)

  broken_alike : (k c : ℕ) (ds : List Demand) → any (is_broken_at b file k c) ds ≡ any (is_broken_at b file' k c) ds
  broken_alike k c ds = any_same (is_broken_at b file k c) (is_broken_at b file' k c) (λ d. rw (unmet_alike (want d (c - d.cell)))) ds

-- THE RULES

-- the flaw of an index is the line's own
flaw_alike : (b : Book) (here : Bytes) (c : ℕ) (above above' file file' : List Bytes) → flaw_at b (spot above here file) c ≡ flaw_at b (spot above' here file') c
unfolding flaw_at
flaw_alike b here c above above' file file' = refl

-- rules 4, 6, 9 and 10 look at the lines above, 17 to 20 at the nearest header, 8, 15 and 16 at the metadata of the file; the others at their own line alone
pub rules_local : (b : Book) → Local b (rules b)
unfolding rules at_cell
rules_local b here n c above above' file file' a f = rw (
  any_blind b (table_blind b) a,
  any_blind b (same_key_blind b here) a,
  first_blind b 1 (same_key_blind b here) a,
  any_blind b (section_blind b (header b here)) a,
  first_blind b 1 (section_blind b (header b here)) a,
  any_blind b (later_blind b (header b here)) a,
  nearest_alike b [] a,
  names_alike b f,
  column_alike b f,
  lacks_alike b f,
  flaw_alike b here c above above' file file',
)

-- rules 21 and 22 look at the metadata of the file, and at which sections it has
pub end_rules_local : (b : Book) → Local b (end_rules b)
unfolding end_rules at_cell
end_rules_local b here n c above above' file file' a f = rw (broken_alike b f 21 c b.demands, broken_alike b f 22 c b.demands)

-- ONE LINE EDITED, for any local rules

module _ (b : Book) (rs es : List Rule) (w : ℕ) (g : Local b rs) (h : Local b es) where
  module _ (file : List Bytes) (n : ℕ) (low : 1 ≤ n) (high : n ≤ length file) (line : Bytes) (a : Alike b (get_or file (n - 1) []) line) where
    abbrev edited : List Bytes
    edited = set file (n - 1) line

    other : (i : ℕ) → 1 ≤ i → (i ≡ n → ⊥) → at_line rs (spot_at edited i) i ≡ at_line rs (spot_at file i) i
    other i p ne = spot_same b rs g (alikes_set b file (n - 1) line a) i (get_or-set_other file (n - 1) (i - 1) line [] (λ e. ne (omega arith)))

    -- the part of the line itself, under the old file's lines
    pub afresh : at_line rs (spot_at edited n) n ≡ at_line rs (spot (take (n - 1) file) line file) n
    afresh = spot_alike b rs g (alikes_set b file (n - 1) line a) n ∙ rw (get_or-set_same file (n - 1) line [] (omega arith))

    -- all breaks on other lines, line N + 1 included, are the same
    pub edit_others : others n (listed rs es w edited) ≡ others n (listed rs es w file)
    edit_others =
        kept_all rs es w edited (λ i. not (eqb i n))
        ∙ rw (
          length-set file (n - 1) line,
          end_alike b es h (alikes_set b file (n - 1) line a) w,
          each_same (length file) 1 (λ i. cond (not (eqb i n)) (at_line rs (spot_at edited i) i) []) (λ i. cond (not (eqb i n)) (at_line rs (spot_at file i) i) []) (λ i p q. go i p (eqb i n) refl),
        )
        (sym (kept_all rs es w file (λ i. not (eqb i n))))
      where
        go : (i : ℕ) → 1 ≤ i → (t : Bool) → eqb i n ≡ t → cond (not t) (at_line rs (spot_at edited i) i) [] ≡ cond (not t) (at_line rs (spot_at file i) i) []
        go i p true e = refl
        go i p false e = other i p (eqb-false i n e)

    -- and the whole list is the old one with that line's part worked out afresh
    pub edit_renewed : listed rs es w edited ≡ renewed n (at_line rs (spot_at edited n) n) (listed rs es w file)
    unfolding in_lines
    edit_renewed =
        let f : ℕ → List Break = λ i. at_line rs (spot_at file i) i in
        let f' : ℕ → List Break = λ i. at_line rs (spot_at edited i) i in
        let lo = each (length file) 1 (λ i. cond (ltb i n) (f i) []) in
        let hi = each (length file) 1 (λ i. cond (ltb n i) (f i) []) in
        let e = at_end es w file in
        rw (
          length-set file (n - 1) line,
          end_alike b es h (alikes_set b file (n - 1) line a) w,
          each_renewed n f f' (length file) 1 low (omega arith) (λ i p q ne. other i p ne),
          kept_all rs es w file (λ i. ltb i n),
          kept_all rs es w file (λ i. ltb n i),
          le-ltb (length file + 1) n (omega arith),
          lt-ltb n (length file + 1) (omega arith),
          append-nil lo,
          append_assoc lo (f' n ++ hi) e,
          append_assoc (f' n) hi e,
        )

-- A CELL OF A ROW, in the bytes of a file

pub row_sort : (b : Book) (l : Bytes) → is_row b l ≡ true → (s : ℕ) × (sort_of b l ≡ Row s)
row_sort b l = go (sort_of b l) refl
  where
    go : (o : Sort) → sort_of b l ≡ o → ltb 0 (row_in o) ≡ true → (s : ℕ) × (sort_of b l ≡ Row s)
    go Silent e h = absurd_bool h
    go Unknown e h = absurd_bool h
    go Meta e h = absurd_bool h
    go (Header s) e h = absurd_bool h
    go (Row s) e h = (s, e)

module _ {file : Bytes} {n c : ℕ} {new : Bytes} (e : Edit file n c new) (row : is_row (book_of (lines file)) (get_or (lines file) (n - 1) []) ≡ true) where
  abbrev book : Book
  book = book_of (lines file)

  abbrev line : Bytes
  line = get_or (lines file) (n - 1) []

  code : cell 1 (edited_line c new line) ≡ cell 1 line
  unfolding cell
  code = rw (edited_cells e) (get_or-set_other (cells line) (c - 1) 0 new [] (λ z. omega (arith, e.cell_low)))

  pub edited_alike : Alike book line (edited_line c new line)
  edited_alike = alike_code book (row_sort book line row).1 (edited_some e) code

  -- all breaks on other lines, line N + 1 included, are the same
  pub edited_others : others n (breaks (edited_file n c new file)) ≡ others n (breaks file)
  unfolding breaks breaks_by book_of
  edited_others = rw (edited_lines e)
      (edit_others book (rules book) (end_rules book) (ends book) (rules_local book) (end_rules_local book) (lines file) n e.line_low e.line_high (edited_line c new line) edited_alike)

  -- the whole list is the old one with that line's part worked out afresh
  pub edited_breaks : breaks (edited_file n c new file) ≡ renewed n (of_line (edited_file n c new file) n) (breaks file)
  unfolding breaks breaks_by book_of
  edited_breaks = rw (edited_lines e)
      (edit_renewed book (rules book) (end_rules book) (ends book) (rules_local book) (end_rules_local book) (lines file) n e.line_low e.line_high (edited_line c new line) edited_alike)

-- WORKED EXAMPLE: a rule that looks at cell 2 of a row above is not local; the rows are `PRT⇥` and `PRT⇥x`
peeping : Rule
peeping = rule 99 (λ p c. any (λ l. is_row mz_tab l && is_empty (cell 2 l)) p.above)

peeping_not : Local mz_tab (peeping ∷ []) → ⊥
unfolding peeping at_cell any is_empty cell sort_of code_sort coded_from mz_tab same bytes split_on on_first
peeping_not h =
    let l : Bytes = bytes "PRT\t" in
    let m : Bytes = bytes "PRT\tx" in
    omega (arith, ap length (h [] 1 1 (l ∷ []) (m ∷ []) [] [] (next (rows {s = 1} refl refl) done) done))
