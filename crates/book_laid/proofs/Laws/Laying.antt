-- How the text of the book is made: bytes are laid one after the other, then the links of each table are written behind those of the tables before it. The tables
-- and places of what stands in front of the links are computed; a text that begins so has the same ones. Assumes nothing.
use Prim.Native.Nat.{ℕ, zero, suc, ◌+◌, ◌-◌, ◌*◌, ◌/◌, ◌≤◌, ◌<◌}
use mathlib.Core.Path.{◌≡◌, refl, ap, sym, ◌∙◌, subst, subst⁻¹}
use mathlib.Core.Bool.{Bool, true, false}
use mathlib.Core.List.{[], ◌∷◌, ◌++◌, map, append_assoc, append-nil}
use native.Mathlib.Numerals.{add-one}
use native.Mathlib.Omega.{arith}
use lib.Dec.{leb, ltb}
use lib.ListN.{length, get_or, take, drop, set, length-append, length-take}
use lib.Seq.{take-length, take-take, take-suc, take-suc-set, get_or-take}
use borrow.Author.Count.{below_none, below_more}
use borrow.Author.Tests.{leb-true, ltb-true}
use Rattle.text_bytes.specs.Bytes.{Bytes, bytes, split_on, on_first, same}
use Rattle.text_bytes.specs.Places.{part}
use Rattle.text.specs.Lines.{cells}
use Rattle.text_bytes.proofs.Laws.Parts.{drop_take}
use Rattle.book_names.specs.Names.{entry_of, pieces_from, start_of}
use Rattle.book_names.specs.Table.{cut, rows, entries}
use Rattle.book_names.specs.Links.{Linked, Links}
use Rattle.book_names.proofs.Laws.Linking.{entry_count, linked_part}
use Rattle.book.specs.Keys.{keys}
use Rattle.book.specs.Columns.{protein_columns, peptide_columns, psm_columns, molecule_columns, protein_required, peptide_required, psm_required, molecule_required}
use Rattle.book.specs.Book.{Section, Demand, no_demand, demands, no_section, code_in, entries_of, key_entries, mz_tab, has_form}
use Rattle.book.specs.Text.{DIRECTORY, ROWS, WANTED, FRONT, LINKS, number_at, rows_at, wanted_at, links_at, rows_of, wanted_of, starts_at, code_at, IsDirectory, Holds, Wants, Starts, book_in, IsBook, padded, laid, tabbed, tables_of, all_rows, all_wanted, all_starts, entries_from, directory_of, directory_text, laid_out, CODES, STEP, entry_for, SIZE, demand_at, Demands, demand_rows}
use Rattle.book_laid.proofs.Laws.Starting.{number_behind, starts_read, starts_length}
use Rattle.book_laid.proofs.Laws.Demanded.{RowAt, row_behind, rows_read}

-- what holds of four numbers holds of each below 4; and of five
four : (P : ℕ → Type 0) → P 0 → P 1 → P 2 → P 3 → (k : ℕ) → k < 4 → P k
four P a b c d zero h = a
four P a b c d (suc zero) h = b
four P a b c d (suc (suc zero)) h = c
four P a b c d (suc (suc (suc zero))) h = d
four P a b c d (suc (suc (suc (suc k)))) h = absurd (omega arith)

five : (P : ℕ → Type 0) → P 0 → P 1 → P 2 → P 3 → P 4 → (k : ℕ) → k < 5 → P k
five P a b c d e zero h = a
five P a b c d e (suc k) h = four (λ j. P (suc j)) b c d e k (omega arith)

-- THE FRONT of the text, computed
abbrev table_of : ℕ → Section
table_of k = get_or (tables_of mz_tab) k no_section

-- the lines of table k are the paper's, and its places are in order, with room for its links
record Table (k : ℕ) : Type 0 where
  lines : entries (rows_of laid_out k) ≡ entries_of (table_of k).columns
  rows_start : rows_at laid_out k ≤ rows_at laid_out (k + 1)
  rows_end : rows_at laid_out (k + 1) ≤ FRONT
  few : (rows_at laid_out (k + 1) - rows_at laid_out k) / 54 < 256
  behind : FRONT ≤ links_at laid_out k
  room : links_at laid_out k + 256 + (rows_at laid_out (k + 1) - rows_at laid_out k) / 54 ≤ links_at laid_out (k + 1)
  links_end : links_at laid_out (k + 1) ≤ LINKS
  wanted_start : wanted_at laid_out k ≤ wanted_at laid_out (k + 1)
  wanted_end : wanted_at laid_out (k + 1) ≤ FRONT

tested : (k : ℕ) → entries (rows_of laid_out k) ≡ entries_of (table_of k).columns → leb (rows_at laid_out k) (rows_at laid_out (k + 1)) ≡ true → leb (rows_at laid_out (k + 1)) FRONT ≡ true
    → ltb ((rows_at laid_out (k + 1) - rows_at laid_out k) / 54) 256 ≡ true → leb FRONT (links_at laid_out k) ≡ true
    → leb (links_at laid_out k + 256 + (rows_at laid_out (k + 1) - rows_at laid_out k) / 54) (links_at laid_out (k + 1)) ≡ true → leb (links_at laid_out (k + 1)) LINKS ≡ true
    → leb (wanted_at laid_out k) (wanted_at laid_out (k + 1)) ≡ true → leb (wanted_at laid_out (k + 1)) FRONT ≡ true → Table k
tested k l a b c d e f g h =
    record {
      lines = l;
      rows_start = leb-true _ _ a;
      rows_end = leb-true _ _ b;
      few = ltb-true _ _ c;
      behind = leb-true _ _ d;
      room = leb-true _ _ e;
      links_end = leb-true _ _ f;
      wanted_start = leb-true _ _ g;
      wanted_end = leb-true _ _ h;
    }

table : (k : ℕ) → k < 5 → Table k
unfolding mz_tab demands laid_out directory_text directory_of entries_from demand_rows entry_for has_form same all_rows all_wanted laid padded tabbed bytes keys protein_columns peptide_columns psm_columns molecule_columns protein_required peptide_required psm_required molecule_required entry_of pieces_from cut rows
table =
    five
    Table
    (tested 0 refl refl refl refl refl refl refl refl refl)
    (tested 1 refl refl refl refl refl refl refl refl refl)
    (tested 2 refl refl refl refl refl refl refl refl refl)
    (tested 3 refl refl refl refl refl refl refl refl refl)
    (tested 4 refl refl refl refl refl refl refl refl refl)

required : (j : ℕ) → j < 4 → cells (wanted_of laid_out (suc j)) ≡ map bytes (get_or mz_tab.sections j no_section).required
unfolding mz_tab demands laid_out directory_text directory_of entries_from demand_rows entry_for has_form same all_rows all_wanted laid padded tabbed bytes keys protein_columns peptide_columns psm_columns molecule_columns protein_required peptide_required psm_required molecule_required split_on on_first
required = four (λ j. cells (wanted_of laid_out (suc j)) ≡ map bytes (get_or mz_tab.sections j no_section).required) refl refl refl refl

-- the demands stand behind the entries of the tables
tops : Bytes
tops = mz_tab.first ∷ length mz_tab.sections ∷ entries_from (length mz_tab.demands) DIRECTORY ROWS FRONT (tables_of mz_tab)

rest : Bytes
rest = all_rows (tables_of mz_tab) ++ (all_wanted (tables_of mz_tab) ++ all_starts mz_tab)

laid_tops : laid_out ≡ tops ++ (demand_rows mz_tab.keys mz_tab.demands ++ rest)
unfolding laid_out directory_text directory_of tops rest
laid_tops =
    ap (λ (l : Bytes). mz_tab.first ∷ length mz_tab.sections ∷ l)
    (append_assoc (entries_from (length mz_tab.demands) DIRECTORY ROWS FRONT (tables_of mz_tab)) (demand_rows mz_tab.keys mz_tab.demands) rest)

tops_size : length tops ≡ 74
unfolding tops mz_tab demands entries_from tabbed bytes keys protein_columns peptide_columns psm_columns molecule_columns protein_required peptide_required psm_required molecule_required
tops_size = refl

demand_of : (k : ℕ) → k < length mz_tab.demands → RowAt mz_tab.keys (get_or mz_tab.demands k no_demand) laid_out (74 + SIZE * k)
demand_of k h =
    subst⁻¹ (λ (t : Bytes). RowAt mz_tab.keys (get_or mz_tab.demands k no_demand) t (74 + SIZE * k)) laid_tops
    (subst (λ (n : ℕ). RowAt mz_tab.keys (get_or mz_tab.demands k no_demand) (tops ++ (demand_rows mz_tab.keys mz_tab.demands ++ rest)) (n + SIZE * k)) tops_size
    (row_behind mz_tab.keys (get_or mz_tab.demands k no_demand) tops (demand_rows mz_tab.keys mz_tab.demands ++ rest) (SIZE * k) (rows_read mz_tab.keys mz_tab.demands rest k h)))

demand_count : (length mz_tab.demands ≡ 20) × (get_or laid_out 62 0 ≡ 20)
unfolding mz_tab demands laid_out directory_text directory_of entries_from demand_rows entry_for has_form same all_rows all_wanted laid padded tabbed bytes keys protein_columns peptide_columns psm_columns molecule_columns protein_required peptide_required psm_required molecule_required
demand_count = (refl, refl)

-- the starts of the keys' slots
abbrev starts_text : Bytes
starts_text = all_starts mz_tab

key_count : length (key_entries mz_tab) ≡ 61
unfolding mz_tab keys
key_count = refl

starts_size : length starts_text ≡ 124
starts_size = starts_length (key_entries mz_tab) 0 ∙ ap (λ (n : ℕ). 2 * (n + 1)) key_count

pub front_sizes : (length directory_text ≡ 214) × (length (all_rows (tables_of mz_tab)) ≡ 7938) × (length (all_wanted (tables_of mz_tab)) ≡ 232)
unfolding mz_tab demands directory_text directory_of entries_from demand_rows entry_for has_form same all_rows all_wanted laid padded tabbed bytes keys protein_columns peptide_columns psm_columns molecule_columns protein_required peptide_required psm_required molecule_required
front_sizes = (refl, refl, refl)

-- what stands before them
before : Bytes
before = directory_text ++ (all_rows (tables_of mz_tab) ++ all_wanted (tables_of mz_tab))

before_size : length before ≡ WANTED
unfolding before
before_size = omega (arith, length-append directory_text (all_rows (tables_of mz_tab) ++ all_wanted (tables_of mz_tab)), length-append (all_rows (tables_of mz_tab)) (all_wanted (tables_of mz_tab)), front_sizes.0, front_sizes.1, front_sizes.2)

laid_before : laid_out ≡ before ++ starts_text
unfolding laid_out before
laid_before = simp append_assoc

laid_size : length laid_out ≡ FRONT
laid_size = ap length laid_before ∙ omega (arith, length-append before starts_text, before_size, starts_size)

sections : get_or laid_out 1 0 ≡ 4
unfolding laid_out directory_text directory_of mz_tab
sections = refl

directory_room : 74 ≤ length laid_out
directory_room = omega (arith, laid_size)

directory : IsDirectory mz_tab laid_out
unfolding mz_tab demands laid_out directory_text directory_of entries_from demand_rows entry_for has_form same all_rows all_wanted laid padded tabbed bytes keys protein_columns peptide_columns psm_columns molecule_columns protein_required peptide_required psm_required molecule_required
directory = record { first = refl; count = refl; size = directory_room; codes = code }
  where
    code : (row : Bool) (j : ℕ) → j < 4 → part (code_at row j) (code_at row j + 3) laid_out ≡ bytes (code_in row (get_or mz_tab.sections j no_section))
    code true = four (λ j. part (code_at true j) (code_at true j + 3) laid_out ≡ bytes (code_in true (get_or mz_tab.sections j no_section))) refl refl refl refl
    code false = four (λ j. part (code_at false j) (code_at false j + 3) laid_out ≡ bytes (code_in false (get_or mz_tab.sections j no_section))) refl refl refl refl

starts_place : wanted_at laid_out 5 ≡ WANTED
unfolding mz_tab demands laid_out directory_text directory_of entries_from demand_rows tabbed bytes keys protein_columns peptide_columns psm_columns molecule_columns protein_required peptide_required psm_required molecule_required
starts_place = refl

start_laid : (e : ℕ) → e ≤ 61 → number_at laid_out (WANTED + 2 * e) ≡ start_of (key_entries mz_tab) e
start_laid e h =
    ap (λ (l : Bytes). number_at l (WANTED + 2 * e)) laid_before
    ∙ ap (λ (n : ℕ). number_at (before ++ starts_text) (n + 2 * e)) (sym before_size)
    ∙ number_behind before starts_text (2 * e)
    ∙ starts_read (key_entries mz_tab) 0 e (omega (arith, key_count))
    ∙ omega arith

code_end : (row : Bool) (j : ℕ) → j < length mz_tab.sections → code_at row j + 3 ≤ FRONT
unfolding mz_tab
code_end true j h = omega arith
code_end false j h = omega arith

-- the four parts laid one after the other are the front
pub front_laid : (head lines names slots t1 t2 t3 t4 : Bytes) → head ≡ directory_text → lines ≡ all_rows (tables_of mz_tab) → names ≡ all_wanted (tables_of mz_tab) → slots ≡ all_starts mz_tab
    → take (0 + length head) t1 ≡ head → take (DIRECTORY + length lines) t2 ≡ take DIRECTORY t1 ++ lines → take (ROWS + length names) t3 ≡ take ROWS t2 ++ names
    → take (WANTED + length slots) t4 ≡ take WANTED t3 ++ slots → take FRONT t4 ≡ laid_out
unfolding laid_out
front_laid head lines names slots t1 t2 t3 t4 h r w s a b c d =
    let x : 0 + length head ≡ DIRECTORY = omega (arith, ap length h, front_sizes.0) in
    let y : DIRECTORY + length lines ≡ ROWS = omega (arith, ap length r, front_sizes.1) in
    let z : ROWS + length names ≡ WANTED = omega (arith, ap length w, front_sizes.2) in
    let u : WANTED + length slots ≡ FRONT = omega (arith, ap length s, starts_size) in
    let a' : take DIRECTORY t1 ≡ head = ap (λ (n : ℕ). take n t1) (sym x) ∙ a in
    let b' : take ROWS t2 ≡ head ++ lines = ap (λ (n : ℕ). take n t2) (sym y) ∙ b ∙ ap (λ (l : Bytes). l ++ lines) a' in
    let c' : take WANTED t3 ≡ (head ++ lines) ++ names = ap (λ (n : ℕ). take n t3) (sym z) ∙ c ∙ ap (λ (l : Bytes). l ++ names) b' in
    ap (λ (n : ℕ). take n t4) (sym u) ∙ d ∙ ap (λ (l : Bytes). l ++ slots) c' ∙ append_assoc (head ++ lines) names slots ∙ append_assoc head lines (names ++ slots) ∙ rw (h, r, w, s)

-- A TEXT THAT BEGINS SO has the same bytes, numbers and parts there
module _ (t : Bytes) (begins : take FRONT t ≡ laid_out) where
  byte_same : (i : ℕ) → i < FRONT → get_or t i 0 ≡ get_or laid_out i 0
  byte_same i h = sym (get_or-take FRONT t i 0 h) ∙ ap (λ (l : Bytes). get_or l i 0) begins

  number_same : (i : ℕ) → i + 1 < FRONT → number_at t i ≡ number_at laid_out i
  number_same i h = omega (arith, byte_same i (omega arith), byte_same (i + 1) h)

  part_same : (a a' e e' : ℕ) → a ≡ a' → e ≡ e' → e' ≤ FRONT → part a e t ≡ part a' e' laid_out
  part_same a a' e e' p q h =
      rw (p, q) (sym (drop_take t a' e') ∙ ap (drop a') (sym (take-take e' FRONT t h) ∙ ap (take e') begins) ∙ drop_take laid_out a' e')

  rows_at_lem : (k : ℕ) → k < 6 → rows_at t k ≡ rows_at laid_out k
  rows_at_lem k h = number_same (8 + 12 * k) (omega arith)

  wanted_at_lem : (k : ℕ) → k < 6 → wanted_at t k ≡ wanted_at laid_out k
  wanted_at_lem k h = number_same (10 + 12 * k) (omega arith)

  links_at_lem : (k : ℕ) → k < 6 → links_at t k ≡ links_at laid_out k
  links_at_lem k h = number_same (12 + 12 * k) (omega arith)

  rows_same : (k : ℕ) → k < 5 → rows_of t k ≡ rows_of laid_out k
  rows_same k h = part_same _ _ _ _ (rows_at_lem k (omega arith)) (rows_at_lem (k + 1) (omega arith)) (table k h).rows_end

  directory_same : FRONT ≤ length t → IsDirectory mz_tab t
  directory_same l =
      record {
        first = byte_same 0 (omega arith) ∙ directory.first;
        count = byte_same 1 (omega arith) ∙ directory.count;
        size = omega (arith, directory.size, laid_size);
        codes = λ row j h. part_same _ _ _ _ refl refl (code_end row j h) ∙ directory.codes row j h;
      }

  wants : (j : ℕ) → j < 4 → FRONT ≤ length t → Wants t (suc j) (get_or mz_tab.sections j no_section).required
  wants j h l =
      let a = wanted_at_lem (suc j) (omega arith) in
      let e = wanted_at_lem (suc j + 1) (omega arith) in
      let k = table (suc j) (omega arith) in
      record {
        starts = omega (arith, k.wanted_start);
        ends = omega (arith, k.wanted_end);
        wanted = ap cells (part_same _ _ _ _ a e k.wanted_end) ∙ required j h;
      }

  starts_at_lem : starts_at t ≡ WANTED
  starts_at_lem = ap (λ (n : ℕ). wanted_at t (n + 1)) (byte_same 1 (omega arith) ∙ sections) ∙ wanted_at_lem 5 (omega arith) ∙ starts_place

  starts_same : FRONT ≤ length t → Starts t (key_entries mz_tab)
  starts_same l =
      record {
        ends = omega (arith, starts_at_lem, key_count);
        starts = λ e h. ap (λ (n : ℕ). number_at t (n + 2 * e)) starts_at_lem ∙ number_same (WANTED + 2 * e) (omega (arith, key_count)) ∙ start_laid e (omega (arith, key_count));
      }

  demand_at_lem : (k : ℕ) → demand_at t k ≡ 74 + SIZE * k
  demand_at_lem k = ap (λ (n : ℕ). CODES + STEP * (n + 1) + SIZE * k) (byte_same 1 (omega arith) ∙ sections)

  demands_same : FRONT ≤ length t → Demands t mz_tab
  demands_same l =
      record {
        many = ap (λ (n : ℕ). get_or t (CODES + STEP * n) 0) (byte_same 1 (omega arith) ∙ sections) ∙ byte_same 62 (omega arith) ∙ demand_count.1 ∙ sym demand_count.0;
        within = omega (arith, demand_at_lem (length mz_tab.demands), demand_count.0);
        cells = λ k h. ap (number_at t) (demand_at_lem k) ∙ number_same (74 + SIZE * k) (omega (arith, demand_count.0)) ∙ (demand_of k h).cell;
        entries = λ k h. field k 2 (omega arith) h ∙ (demand_of k h).entry;
        asked = λ k h. field k 3 (omega arith) h ∙ (demand_of k h).asked;
        sections = λ k h. field k 4 (omega arith) h ∙ (demand_of k h).section;
        families = λ k h. field k 5 (omega arith) h ∙ (demand_of k h).each;
        rules = λ k h. field k 6 (omega arith) h ∙ (demand_of k h).rule;
      }
    where
      field : (k m : ℕ) → m < SIZE → k < length mz_tab.demands → get_or t (demand_at t k + m) 0 ≡ get_or laid_out (74 + SIZE * k + m) 0
      field k m l h = ap (λ (n : ℕ). get_or t (n + m) 0) (demand_at_lem k) ∙ byte_same (74 + SIZE * k + m) (omega (arith, demand_count.0))

-- WHERE A TABLE STANDS, as it is read from the front
pub record TableAt (front : Bytes) (k from to at : ℕ) : Type 0 where
  pub below : k < 5
  pub starts : from ≤ to
  pub ends : to ≤ length front
  pub few : length (part from to front) / 54 < 256
  pub room : at + 256 + length (part from to front) / 54 ≤ LINKS
  pub behind : at ≡ links_at laid_out k
  pub lines : part from to front ≡ rows_of laid_out k

pub table_at : (front : Bytes) (k from to at : ℕ) → k < 5 → length front ≡ LINKS → take FRONT front ≡ laid_out → from ≡ rows_at front k → to ≡ rows_at front (k + 1) → at ≡ links_at front k
    → TableAt front k from to at
table_at front k from to at h long b f t a =
    let p = f ∙ rows_at_lem front b k (omega arith) in
    let q = t ∙ rows_at_lem front b (k + 1) (omega arith) in
    let r = a ∙ links_at_lem front b k (omega arith) in
    let x = table k h in
    let n = length-take (to - from) (drop from front) in
    record {
      below = h;
      starts = omega (arith, x.rows_start);
      ends = omega (arith, x.rows_end);
      few = omega (arith, x.few);
      room = omega (arith, x.room, x.links_end);
      behind = r;
      lines = part_same front b _ _ _ _ p q x.rows_end;
    }

-- THE LINKS of the first k tables are written
pub record Midway (t : Bytes) (k : ℕ) : Type 0 where
  pub long : length t ≡ LINKS
  pub begins : take FRONT t ≡ laid_out
  pub done : (j : ℕ) → j < k → (links_at laid_out (j + 1) ≤ links_at laid_out k) × Linked 0 (entries (rows_of laid_out j)) (part (links_at laid_out j) (links_at laid_out (j + 1)) t)

pub midway_start : (t : Bytes) → length t ≡ LINKS → take FRONT t ≡ laid_out → Midway t 0
midway_start t l b = record { long = l; begins = b; done = below_none _ }

fewer : (n m : ℕ) (b b' : Bytes) → take n b' ≡ take n b → m ≤ n → take m b' ≡ take m b
fewer n m b b' e h = sym (take-take m n b' h) ∙ ap (take m) e ∙ take-take m n b h

kept : (a e : ℕ) (b b' : Bytes) → take e b' ≡ take e b → part a e b' ≡ part a e b
kept a e b b' s = sym (drop_take b' a e) ∙ ap (drop a) s ∙ drop_take b a e

-- the next table's
module _ (front t t' : Bytes) (k from to at : ℕ) (m : Midway t k) (x : TableAt front k from to at) (l : Links (part from to front) at t t') where
  this : Linked 0 (entries (rows_of laid_out k)) (part (links_at laid_out k) (links_at laid_out (k + 1)) t')
  this =
      let w : Linked 0 (entries (rows_of laid_out k)) (drop (links_at laid_out k) t') = rw (← x.lines, ← x.behind) l.linked in
      let n = length-take (rows_at laid_out (k + 1) - rows_at laid_out k) (drop (rows_at laid_out k) laid_out) in
      linked_part (entries (rows_of laid_out k)) (drop (links_at laid_out k) t') (links_at laid_out (k + 1) - links_at laid_out k) w (omega (arith, entry_count (rows_of laid_out k), (table k x.below).room))

  pub midway_turn : Midway t' (k + 1)
  midway_turn =
      let y = table k x.below in
      record {
        long = l.long ∙ m.long;
        begins = fewer at FRONT t t' l.kept (omega (arith, x.behind, y.behind)) ∙ m.begins;
        done =
            below_more _ k
            (λ j h. let d = m.done j h in (omega (arith, d.0, y.room), rw (kept _ (links_at laid_out (j + 1)) t t' (fewer at (links_at laid_out (j + 1)) t t' l.kept (omega (arith, x.behind, d.0)))) d.1))
            (omega arith, this);
      }

-- and all: the text holds the book
pub midway_end : (t : Bytes) (k : ℕ) → 5 ≤ k → Midway t k → IsBook t
unfolding book_in mz_tab
midway_end t k h m =
    record {
      directory = directory_same t m.begins (omega (arith, m.long));
      keys = holds 0 (omega arith);
      columns = λ j l. subst⁻¹ (λ (i : ℕ). Holds t i (get_or mz_tab.sections j no_section).columns) (add-one j) (holds (suc j) (omega arith));
      wanted = λ j l. subst⁻¹ (λ (i : ℕ). Wants t i (get_or mz_tab.sections j no_section).required) (add-one j) (wants t m.begins j l (omega (arith, m.long)));
      slots = starts_same t m.begins (omega (arith, m.long));
      demands = demands_same t m.begins (omega (arith, m.long));
    }
  where
    holds : (i : ℕ) → i < 5 → Holds t i (table_of i).columns
    holds i l =
        let b = m.begins in
        let x = table i l in
        let r = rows_at_lem t b i (omega arith) in
        let r' = rows_at_lem t b (i + 1) (omega arith) in
        let n = links_at_lem t b i (omega arith) in
        let n' = links_at_lem t b (i + 1) (omega arith) in
        record {
          table =
              record {
                rows_start = omega (arith, x.rows_start);
                rows_end = omega (arith, x.rows_end, m.long);
                links_start = omega (arith, x.room);
                links_end = omega (arith, x.links_end, m.long);
                linked = rw (rows_same t b i l, n, n') (m.done i (omega arith)).1;
              };
          rows = ap entries (rows_same t b i l) ∙ x.lines;
        }
