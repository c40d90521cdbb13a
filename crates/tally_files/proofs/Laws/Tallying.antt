-- What the lines of an accepted file add is its tally: each run has at most one column of each word, and a column at most one counter. Assumes nothing.
use mathlib.Core.Path.{◌≡◌, refl, sym, ap, ◌∙◌}
use mathlib.Core.Bool.{Bool, true, false, cond}
use mathlib.Core.List.{List, [], ◌∷◌}
use Prim.Native.Nat.{ℕ, ◌+◌}
use native.Mathlib.Omega.{arith}
use lib.Dec.{eqb}
use lib.ListN.{get_or}
use borrow.Author.Tests.{eqb-false}
use Rattle.text_bytes.specs.Bytes.{Bytes, bytes, same, begins}
use Rattle.text_bytes.proofs.Laws.Same.{same_equal}
use Rattle.text.specs.Lines.{lines, cells, coded}
use Rattle.value_references.specs.References.{ref_in, ref_to}
use Rattle.value_references.proofs.Laws.Names.{ref_read}
use Rattle.values.specs.Values.{is_null}
use Rattle.book.specs.Book.{row_code, mz_tab, is_section, section_of, book_of}
use Rattle.rows.specs.Rows.{header_of, row_count}
use Rattle.rules.specs.Rules.{breaks}
use Rattle.fee_shares.specs.Sums.{bit}
use Rattle.column_marks.specs.Columns.{PROTEIN, PSMS, DISTINCT, UNIQUE}
use Rattle.column_marks.specs.Marks.{counter_of, Marked}
use Rattle.column_marks.specs.Sums.{sum_cells, given}
use Rattle.column_marks.specs.declared.Asked.TheVariants.{Counters}
use Rattle.column_marks.specs.declared.Marks.{Marks}
use Rattle.column_marks.proofs.Laws.Summing.{cells_none, cells_alike, cells_both, lines_alike, lines_both, lines_count}
use Rattle.column_marks.proofs.Laws.Naming.{Unlike, Sound, sound_header, marks_all, row_all}
use Rattle.tally_cells.specs.Counts.{count_of, is_below}
use Rattle.tally_rows.specs.Counts.{share, marked, nine, cell_adds, row_adds, row_section, section_adds, line_adds, lines_add}
use Rattle.tally_rows.specs.declared.Found.{Found}
use Rattle.tally.specs.Tally.{tally_of}
use Rattle.tally_files.specs.Tallied.{over_runs, over_rows, over_cells, over_all, cell_of, below_of, totals_of}

-- THE COUNTER OF A NAME is that of its word

-- no name has two words
psms_distinct : (name : Bytes) → (ref_to PSMS name ≡ 0 → ⊥) → (ref_to DISTINCT name ≡ 0 → ⊥) → ⊥
unfolding bytes
psms_distinct name p d =
    let a = ref_read PSMS name (ref_to PSMS name) refl (omega arith) in
    let b = ref_read DISTINCT name (ref_to DISTINCT name) refl (omega arith) in
    let z : ◌≡◌ {A = ℕ} 115 101 = ap (λ (x : Bytes). get_or x 5 0) (sym a ∙ b) in
    omega arith

psms_unique : (name : Bytes) → (ref_to PSMS name ≡ 0 → ⊥) → (ref_to UNIQUE name ≡ 0 → ⊥) → ⊥
unfolding bytes
psms_unique name p u =
    let a = ref_read PSMS name (ref_to PSMS name) refl (omega arith) in
    let b = ref_read UNIQUE name (ref_to UNIQUE name) refl (omega arith) in
    let z : ◌≡◌ {A = ℕ} 115 101 = ap (λ (x : Bytes). get_or x 5 0) (sym a ∙ b) in
    omega arith

distinct_unique : (name : Bytes) → (ref_to DISTINCT name ≡ 0 → ⊥) → (ref_to UNIQUE name ≡ 0 → ⊥) → ⊥
unfolding bytes
distinct_unique name d u =
    let a = ref_read DISTINCT name (ref_to DISTINCT name) refl (omega arith) in
    let b = ref_read UNIQUE name (ref_to UNIQUE name) refl (omega arith) in
    let z : ◌≡◌ {A = ℕ} 100 117 = ap (λ (x : Bytes). get_or x 13 0) (sym a ∙ b) in
    omega arith

-- n where the name is of a word
abbrev of_word : Bytes → Bytes → ℕ → ℕ
of_word word name n = cond (eqb (ref_to word name) 0) 0 n

module _ (name : Bytes) (n : ℕ) where
  abbrev Says : Bool → Bool → Bool → Type 0
  Says p d u =
      let m : ℕ = cond p (cond d (cond u 0 3) 2) 1 in
      (cond (eqb m 1) n 0 ≡ cond p 0 n) × (cond (eqb m 2) n 0 ≡ cond d 0 n) × (cond (eqb m 3) n 0 ≡ cond u 0 n) × (cond (eqb m 0) 0 n ≡ cond p 0 n + cond d 0 n + cond u 0 n)

  says : Says (eqb (ref_to PSMS name) 0) (eqb (ref_to DISTINCT name) 0) (eqb (ref_to UNIQUE name) 0)
  says = go (eqb (ref_to PSMS name) 0) refl (eqb (ref_to DISTINCT name) 0) refl (eqb (ref_to UNIQUE name) 0) refl
    where
      go : (p : Bool) → eqb (ref_to PSMS name) 0 ≡ p → (d : Bool) → eqb (ref_to DISTINCT name) 0 ≡ d → (u : Bool) → eqb (ref_to UNIQUE name) 0 ≡ u → Says p d u
      go true a true b true c = (refl, refl, refl, omega arith)
      go true a true b false c = (refl, refl, refl, omega arith)
      go true a false b true c = (refl, refl, refl, omega arith)
      go true a false b false c = absurd (distinct_unique name (eqb-false (ref_to DISTINCT name) 0 b) (eqb-false (ref_to UNIQUE name) 0 c))
      go false a true b true c = (refl, refl, refl, omega arith)
      go false a true b false c = absurd (psms_unique name (eqb-false (ref_to PSMS name) 0 a) (eqb-false (ref_to UNIQUE name) 0 c))
      go false a false b u c = absurd (psms_distinct name (eqb-false (ref_to PSMS name) 0 a) (eqb-false (ref_to DISTINCT name) 0 b))

  counts_psms : share (counter_of name) 1 n ≡ of_word PSMS name n
  unfolding share counter_of
  counts_psms = says.0

  counts_distinct : share (counter_of name) 2 n ≡ of_word DISTINCT name n
  unfolding share counter_of
  counts_distinct = says.1

  counts_unique : share (counter_of name) 3 n ≡ of_word UNIQUE name n
  unfolding share counter_of
  counts_unique = says.2

  counts_any : marked (counter_of name) n ≡ of_word PSMS name n + of_word DISTINCT name n + of_word UNIQUE name n
  unfolding marked counter_of
  counts_any = says.3

-- THE SECTION OF A LINE is that of its code
code_apart : (l x y : Bytes) → same x y ≡ false → coded x l ≡ true → coded y l ≡ false
unfolding coded
code_apart l x y e h = ap (λ (b : Bytes). same b y) (same_equal (get_or (cells l) 0 []) x h) ∙ e

none : {x y : Bool} → x ≡ y → x ≡ false → 0 ≡ bit y
none p q = sym (ap bit (sym p ∙ q))

module _ (l : Bytes) where
  abbrev Counts : Bool → Bool → Bool → Bool → Type 0
  Counts a b c d =
      let s : ℕ = cond a 1 (cond b 2 (cond c 3 (cond d 4 0))) in
      (eqb s 1 ≡ a) × (cond (eqb s 1) 1 0 ≡ bit a) × (cond (eqb s 2) 1 0 ≡ bit b) × (cond (eqb s 3) 1 0 ≡ bit c) × (cond (eqb s 4) 1 0 ≡ bit d)

  counts : Counts (coded (row_code mz_tab 1) l) (coded (row_code mz_tab 2) l) (coded (row_code mz_tab 3) l) (coded (row_code mz_tab 4) l)
  unfolding mz_tab is_section section_of bytes same
  counts = go (coded (row_code mz_tab 1) l) refl (coded (row_code mz_tab 2) l) refl (coded (row_code mz_tab 3) l) refl (coded (row_code mz_tab 4) l) refl
    where
      go : (a : Bool) → coded (row_code mz_tab 1) l ≡ a → (b : Bool) → coded (row_code mz_tab 2) l ≡ b → (c : Bool) → coded (row_code mz_tab 3) l ≡ c → (d : Bool) → coded (row_code mz_tab 4) l ≡ d → Counts a b c d
      go true p b q c r d t = (refl, refl, none q (code_apart l (row_code mz_tab 1) (row_code mz_tab 2) refl p), none r (code_apart l (row_code mz_tab 1) (row_code mz_tab 3) refl p), none t (code_apart l (row_code mz_tab 1) (row_code mz_tab 4) refl p))
      go false p true q c r d t = (refl, refl, refl, none r (code_apart l (row_code mz_tab 2) (row_code mz_tab 3) refl q), none t (code_apart l (row_code mz_tab 2) (row_code mz_tab 4) refl q))
      go false p false q true r d t = (refl, refl, refl, refl, none t (code_apart l (row_code mz_tab 3) (row_code mz_tab 4) refl r))
      go false p false q false r true t = (refl, refl, refl, refl, refl)
      go false p false q false r false t = (refl, refl, refl, refl, refl)

  is_protein : eqb (row_section l) 1 ≡ coded (row_code mz_tab 1) l
  unfolding row_section
  is_protein = counts.0

  -- one row for each section
  counts_protein : share (row_section l) 1 1 ≡ bit (coded (row_code mz_tab 1) l)
  unfolding share row_section
  counts_protein = counts.1

  counts_peptide : share (row_section l) 2 1 ≡ bit (coded (row_code mz_tab 2) l)
  unfolding share row_section
  counts_peptide = counts.2

  counts_psm : share (row_section l) 3 1 ≡ bit (coded (row_code mz_tab 3) l)
  unfolding share row_section
  counts_psm = counts.3

  counts_molecule : share (row_section l) 4 1 ≡ bit (coded (row_code mz_tab 4) l)
  unfolding share row_section
  counts_molecule = counts.4

  -- the cells of a protein row
  in_protein : (n : ℕ) → share (row_section l) 1 n ≡ cond (coded (row_code mz_tab 1) l) n 0
  unfolding share
  in_protein n = ap (λ (t : Bool). cond t n 0) is_protein

-- no word is the name of a header's first cell
unlike_psms : Unlike PSMS
unfolding ref_to ref_in begins bytes mz_tab is_section section_of
unlike_psms = record { empty = refl; code = refl }

unlike_distinct : Unlike DISTINCT
unfolding ref_to ref_in begins bytes mz_tab is_section section_of
unlike_distinct = record { empty = refl; code = refl }

unlike_unique : Unlike UNIQUE
unfolding ref_to ref_in begins bytes mz_tab is_section section_of
unlike_unique = record { empty = refl; code = refl }

share_nothing : (a b : ℕ) → share a b 0 ≡ 0
unfolding share
share_nothing a b = go (eqb a b)
  where
    go : (t : Bool) → ◌≡◌ {A = ℕ} (cond t 0 0) 0
    go true = refl
    go false = refl

eight : {a b c d e f g h a' b' c' d' e' f' g' h' : ℕ} → a ≡ a' → b ≡ b' → c ≡ c' → d ≡ d' → e ≡ e' → f ≡ f' → g ≡ g' → h ≡ h'
    → (a ∷ b ∷ c ∷ d ∷ e ∷ f ∷ g ∷ h ∷ []) ≡ (a' ∷ b' ∷ c' ∷ d' ∷ e' ∷ f' ∷ g' ∷ h' ∷ [])
eight a b c d e f g h = rw (a, b, c, d, e, f, g, h)

-- WHAT THE LINES ADD

module _ (file : Bytes) (kept : breaks file ≡ []) {m : Marks} (is : Marked Counters (header_of file PROTEIN) m) where
  abbrev header : Bytes
  header = header_of file PROTEIN

  abbrev ms : List ℕ
  ms = m.of

  abbrev name : ℕ → Bytes
  name j = get_or (cells header) j []

  sound : Sound header
  sound = sound_header file kept

  mark_is : (j : ℕ) → get_or ms j 0 ≡ counter_of (name j)
  mark_is j = marks_all sound is j

  -- the cells of a row under a word
  row_word : (word : Bytes) → Unlike word → (f : Bytes → ℕ) (l : Bytes)
      → sum_cells (λ (j : ℕ) (cell : Bytes). of_word word (name j) (f cell)) 0 (cells l) ≡ over_runs (λ (n : ℕ). given f (cell_of file word n l))
  unfolding over_runs
  row_word word u f l = row_all sound word u f l

  -- a sum over protein rows
  rows_are : (g : Bytes → ℕ) (i : ℕ) → ((l : Bytes) → line_adds ms l i ≡ share (row_section l) 1 (row_adds ms l i)) → ((l : Bytes) → row_adds ms l i ≡ g l) → lines_add ms file i ≡ over_rows file g
  unfolding over_rows
  rows_are g i h e =
      lines_alike (λ (l : Bytes). line_adds ms l i) (λ (l : Bytes). cond (coded (row_code mz_tab PROTEIN) l) (g l) 0) (lines file)
      (λ l. h l ∙ in_protein l (row_adds ms l i) ∙ ap (λ (n : ℕ). cond (coded (row_code mz_tab 1) l) n 0) (e l))

  -- a row of one counter
  row_counter : (word : Bytes) → Unlike word → (i k : ℕ) → ((mark : ℕ) (cell : Bytes) → cell_adds mark cell i ≡ share mark k (count_of cell)) → ((x : Bytes) (n : ℕ) → share (counter_of x) k n ≡ of_word word x n)
      → (l : Bytes) → row_adds ms l i ≡ over_runs (λ (n : ℕ). given count_of (cell_of file word n l))
  row_counter word u i k c w l =
      cells_alike (λ (j : ℕ) (cell : Bytes). cell_adds (get_or ms j 0) cell i) (λ (j : ℕ) (cell : Bytes). of_word word (name j) (count_of cell)) 0 (cells l)
      (λ j cell. c (get_or ms j 0) cell ∙ ap (λ (x : ℕ). share x k (count_of cell)) (mark_is j) ∙ w (name j) (count_of cell))
      ∙ row_word word u count_of l

  -- a row of what is asked under all counters
  row_any : (f : Bytes → ℕ) (i : ℕ) → ((mark : ℕ) (cell : Bytes) → cell_adds mark cell i ≡ marked mark (f cell)) → (l : Bytes)
      → row_adds ms l i ≡ over_runs (λ (n : ℕ). given f (cell_of file PSMS n l)) + over_runs (λ (n : ℕ). given f (cell_of file DISTINCT n l)) + over_runs (λ (n : ℕ). given f (cell_of file UNIQUE n l))
  row_any f i c l =
      let P : ℕ → Bytes → ℕ = λ j cell. of_word PSMS (name j) (f cell) in
      let D : ℕ → Bytes → ℕ = λ j cell. of_word DISTINCT (name j) (f cell) in
      let U : ℕ → Bytes → ℕ = λ j cell. of_word UNIQUE (name j) (f cell) in
      let two : ℕ → Bytes → ℕ = λ j cell. P j cell + D j cell in
      let all = cells_both two U (λ (j : ℕ) (cell : Bytes). cell_adds (get_or ms j 0) cell i) 0 (cells l) (λ j cell. c (get_or ms j 0) cell ∙ ap (λ (x : ℕ). marked x (f cell)) (mark_is j) ∙ counts_any (name j) (f cell)) in
      let both = cells_both P D two 0 (cells l) (λ j cell. refl) in
      omega (arith, all, both, row_word PSMS unlike_psms f l, row_word DISTINCT unlike_distinct f l, row_word UNIQUE unlike_unique f l)

  rows_both : (g h : Bytes → ℕ) → over_rows file (λ (l : Bytes). g l + h l) ≡ over_rows file g + over_rows file h
  unfolding over_rows
  rows_both g h =
      lines_both (λ (l : Bytes). cond (coded (row_code mz_tab PROTEIN) l) (g l) 0) (λ (l : Bytes). cond (coded (row_code mz_tab PROTEIN) l) (h l) 0) (λ (l : Bytes). cond (coded (row_code mz_tab PROTEIN) l) (g l + h l) 0) (lines file)
      (λ l. go (coded (row_code mz_tab PROTEIN) l) (g l) (h l))
    where
      go : (t : Bool) (a b : ℕ) → cond t (a + b) 0 ≡ cond t a 0 + cond t b 0
      go true a b = refl
      go false a b = refl

  -- a number that no section adds to
  cells_only : (i : ℕ) → ((section : ℕ) → section_adds section i ≡ 0) → (l : Bytes) → line_adds ms l i ≡ share (row_section l) 1 (row_adds ms l i)
  cells_only i z l = omega (arith, z (row_section l))

  counter_sum : (word : Bytes) → Unlike word → (i k : ℕ) → ((section : ℕ) → section_adds section i ≡ 0) → ((mark : ℕ) (cell : Bytes) → cell_adds mark cell i ≡ share mark k (count_of cell))
      → ((x : Bytes) (n : ℕ) → share (counter_of x) k n ≡ of_word word x n) → lines_add ms file i ≡ over_cells file word count_of
  counter_sum word u i k z c w = rows_are (λ (l : Bytes). over_runs (λ (n : ℕ). given count_of (cell_of file word n l))) i (cells_only i z) (row_counter word u i k c w)

  any_sum : (f : Bytes → ℕ) (i : ℕ) → ((section : ℕ) → section_adds section i ≡ 0) → ((mark : ℕ) (cell : Bytes) → cell_adds mark cell i ≡ marked mark (f cell)) → lines_add ms file i ≡ over_all file f
  any_sum f i z c =
      let P : Bytes → ℕ = λ l. over_runs (λ (n : ℕ). given f (cell_of file PSMS n l)) in
      let D : Bytes → ℕ = λ l. over_runs (λ (n : ℕ). given f (cell_of file DISTINCT n l)) in
      let U : Bytes → ℕ = λ l. over_runs (λ (n : ℕ). given f (cell_of file UNIQUE n l)) in
      rows_are (λ (l : Bytes). P l + D l + U l) i (cells_only i z) (row_any f i c) ∙ rows_both (λ (l : Bytes). P l + D l) U ∙ ap (λ (x : ℕ). x + over_rows file U) (rows_both P D)

  -- a number that no cell adds to
  row_sum : (k i : ℕ) → ((mark : ℕ) (cell : Bytes) → cell_adds mark cell i ≡ 0) → ((l : Bytes) → section_adds (row_section l) i ≡ bit (coded (row_code mz_tab k) l)) → lines_add ms file i ≡ row_count file k
  unfolding row_count book_of
  row_sum k i z c =
      lines_alike (λ (l : Bytes). line_adds ms l i) (λ (l : Bytes). bit (coded (row_code mz_tab k) l)) (lines file) each
      ∙ lines_count (coded (row_code mz_tab k)) (lines file)
    where
      each : (l : Bytes) → line_adds ms l i ≡ bit (coded (row_code mz_tab k) l)
      each l =
          let none : row_adds ms l i ≡ 0 = cells_none (λ (j : ℕ) (cell : Bytes). cell_adds (get_or ms j 0) cell i) 0 (cells l) (λ j cell h. z (get_or ms j 0) cell) in
          omega (arith, c l, ap (share (row_section l) 1) none, share_nothing (row_section l) 1)

  -- ALL NINE
  pub found_all : (found : Found) → ((i : ℕ) → nine found i ≡ lines_add ms file i) → (found.tally ≡ tally_of (totals_of file)) × (found.below ≡ below_of file)
  unfolding totals_of cell_adds
  found_all found e = (
    ap tally_of (eight
        (e 0 ∙ counter_sum PSMS unlike_psms 0 1 (λ s. refl) (λ k c. refl) counts_psms)
        (e 1 ∙ counter_sum DISTINCT unlike_distinct 1 2 (λ s. refl) (λ k c. refl) counts_distinct)
        (e 2 ∙ counter_sum UNIQUE unlike_unique 2 3 (λ s. refl) (λ k c. refl) counts_unique)
        (e 3 ∙ row_sum 1 3 (λ k c. refl) counts_protein)
        (e 4 ∙ row_sum 2 4 (λ k c. refl) counts_peptide)
        (e 5 ∙ row_sum 3 5 (λ k c. refl) counts_psm)
        (e 6 ∙ row_sum 4 6 (λ k c. refl) counts_molecule)
        (e 7 ∙ any_sum (λ (cell : Bytes). bit (is_null cell)) 7 (λ s. refl) (λ k c. refl))),
    e 8 ∙ any_sum (λ (cell : Bytes). bit (is_below cell)) 8 (λ s. refl) (λ k c. refl),
  )
