-- What cells, rows and lines add to the nine numbers of a walk, and that they have room. Assumes nothing.
use mathlib.Core.Path.{◌≡◌, refl, sym, ap, ◌∙◌}
use mathlib.Core.Bool.{Bool, true, false, cond, not}
use mathlib.Core.List.{List, [], ◌∷◌}
use Prim.Native.Nat.{ℕ, zero, suc, ◌+◌, ◌-◌, ◌*◌, ◌≤◌, ◌<◌, ◌^◌}
use native.Mathlib.Nat.{mul_assoc, mul_comm, mul-le-mul_right, pow-suc, pow-le-pow_right}
use native.Mathlib.Omega.{arith}
use lib.Dec.{eqb, leb, lit<}
use lib.ListN.{length, take, drop, get_or}
use borrow.Author.Tests.{eq-eqb, ne_eqb, eqb-true, leb-true}
use Rattle.text_bytes.specs.Bytes.{Bytes, same, is_empty, all}
use Rattle.text_bytes.specs.Places.{part, Ends}
use Rattle.text_bytes.proofs.Laws.Tests.{and_both, and_right}
use Rattle.text_bytes.proofs.Laws.Pieces.{first_piece}
use Rattle.text.specs.Lines.{LIMIT, TAB, lines, cells, coded}
use Rattle.text.specs.Places.{LineAt}
use Rattle.text.proofs.Laws.Counts as counts
use Rattle.value_references.specs.Index.{is_digit, more, number}
use Rattle.values.specs.Values.{are_digits, unsigned, is_whole, is_null}
use Rattle.book.specs.Book.{row_code, mz_tab}
use Rattle.fee_shares.specs.Sums.{bit}
use Rattle.column_marks.specs.Marks.{IsMarks}
use Rattle.column_marks.specs.Sums.{sum_cells, sum_lines}
use Rattle.column_marks.proofs.Laws.Summing.{cells_next, cells_last, cells_least, cells_none, cells_most, lines_next, lines_most}
use Rattle.tally.specs.Tally.{zero as none, sums}
use Rattle.tally.specs.declared.Tally.{Tally}
use Rattle.tally_cells.specs.Counts.{count_of, is_below}
use Rattle.tally_cells.specs.declared.Counted.{Counted}
use Rattle.tally_rows.specs.Counts.{nine, share, marked, cell_adds, Reads, count_adds, row_adds, row_section, section_adds, line_adds, lines_add}

-- NINE NUMBERS at once
pub nine_same : {a b c d e f g h k a' b' c' d' e' f' g' h' k' : ℕ} →
    a ≡ a' → b ≡ b' → c ≡ c' → d ≡ d' → e ≡ e' → f ≡ f' → g ≡ g' → h ≡ h' → k ≡ k'
    → (a ∷ b ∷ c ∷ d ∷ e ∷ f ∷ g ∷ h ∷ k ∷ []) ≡ (a' ∷ b' ∷ c' ∷ d' ∷ e' ∷ f' ∷ g' ∷ h' ∷ k' ∷ [])
nine_same a b c d e f g h k = rw (a, b, c, d, e, f, g, h, k)

pub sums_at : (xs ys : List ℕ) {zs : List ℕ} → zs ≡ sums xs ys → length xs ≡ length ys → (i : ℕ) → get_or zs i 0 ≡ get_or xs i 0 + get_or ys i 0
unfolding sums
sums_at xs ys e l i = ap (λ (x : List ℕ). get_or x i 0) e ∙ at_place xs ys l i
  where
    at_place : (xs ys : List ℕ) → length xs ≡ length ys → (i : ℕ) → get_or (sums xs ys) i 0 ≡ get_or xs i 0 + get_or ys i 0
    at_place [] [] l i = refl
    at_place (x ∷ xs) [] l i = absurd (omega arith)
    at_place [] (y ∷ ys) l i = absurd (omega arith)
    at_place (x ∷ xs) (y ∷ ys) l zero = refl
    at_place (x ∷ xs) (y ∷ ys) l (suc i) = at_place xs ys (omega arith) i

nine_most : {m a b c d e f g h k : ℕ} → a ≤ m → b ≤ m → c ≤ m → d ≤ m → e ≤ m → f ≤ m → g ≤ m → h ≤ m → k ≤ m → (i : ℕ) → get_or (a ∷ b ∷ c ∷ d ∷ e ∷ f ∷ g ∷ h ∷ k ∷ []) i 0 ≤ m
nine_most x y z u v w p q r zero = x
nine_most x y z u v w p q r (suc zero) = y
nine_most x y z u v w p q r (suc (suc zero)) = z
nine_most x y z u v w p q r (suc (suc (suc zero))) = u
nine_most x y z u v w p q r (suc (suc (suc (suc zero)))) = v
nine_most x y z u v w p q r (suc (suc (suc (suc (suc zero))))) = w
nine_most x y z u v w p q r (suc (suc (suc (suc (suc (suc zero)))))) = p
nine_most x y z u v w p q r (suc (suc (suc (suc (suc (suc (suc zero))))))) = q
nine_most x y z u v w p q r (suc (suc (suc (suc (suc (suc (suc (suc zero)))))))) = r
nine_most x y z u v w p q r (suc (suc (suc (suc (suc (suc (suc (suc (suc i))))))))) = omega arith

pub nothing_found : {t : Tally} → t ≡ none → (i : ℕ) → nine (record { tally = t; below = 0 }) i ≡ 0
nothing_found e i = ap (λ (t : Tally). nine (record { tally = t; below = 0 }) i) e ∙ zero_is (nine_most {m = 0} (omega arith) (omega arith) (omega arith) (omega arith) (omega arith) (omega arith) (omega arith) (omega arith) (omega arith) i)
  where
    zero_is : {n : ℕ} → n ≤ 0 → n ≡ 0
    zero_is h = omega arith

-- SHARES
module _ (a b n : ℕ) where
  pub share_same : a ≡ b → n ≡ share a b n
  unfolding share
  share_same e = rw (eq-eqb a b e)

  pub share_other : (a ≡ b → ⊥) → 0 ≡ share a b n
  unfolding share
  share_other e = rw (ne_eqb a b e)

  share_most : share a b n ≤ n
  unfolding share
  share_most = go (eqb a b)
    where
      go : (t : Bool) → cond t n 0 ≤ n
      go true = omega arith
      go false = omega arith

bit_most : (t : Bool) → bit t ≤ 1
bit_most true = omega arith
bit_most false = omega arith

marked_most : (m n : ℕ) → marked m n ≤ n
unfolding marked
marked_most m n = go (eqb m 0)
  where
    go : (t : Bool) → cond t 0 n ≤ n
    go true = omega arith
    go false = omega arith

pub marked_none : {m : ℕ} (n : ℕ) → m ≡ 0 → 0 ≡ marked m n
unfolding marked
marked_none {m} n e = rw (eq-eqb m 0 e)

pub marked_some : {m : ℕ} (n : ℕ) → (m ≡ 0 → ⊥) → n ≡ marked m n
unfolding marked
marked_some {m} n e = rw (ne_eqb m 0 e)

share_marked : (m k n : ℕ) → (k ≡ 0 → ⊥) → share m k (marked m n) ≡ share m k n
unfolding share marked
share_marked m k n h = go (eqb m k) refl (eqb m 0) refl
  where
    go : (t : Bool) → eqb m k ≡ t → (u : Bool) → eqb m 0 ≡ u → cond t (cond u 0 n) 0 ≡ cond t n 0
    go false e u f = refl
    go true e false f = refl
    go true e true f = absurd (h (let p = eqb-true m k e in let q = eqb-true m 0 f in omega arith))

-- ONE CELL adds what was read in it
pub counts_as : {line : Bytes} {at mark : ℕ} {c : Counted} → Reads line at mark c → (i : ℕ) → count_adds mark c i ≡ cell_adds mark (part at c.end line) i
unfolding cell_adds
counts_as {line} {at} {mark} {c} r i = ap (λ (ns : List ℕ). get_or ns i 0) (nine_same (to 1 (λ e. omega arith)) (to 2 (λ e. omega arith)) (to 3 (λ e. omega arith)) refl refl refl refl r.missing r.below)
  where
    to : (k : ℕ) → (k ≡ 0 → ⊥) → share mark k c.count ≡ share mark k (count_of (part at c.end line))
    to k h = ap (share mark k) r.count ∙ share_marked mark k (count_of (part at c.end line)) h

-- under no counter it adds nothing
cell_none : (cell : Bytes) (i : ℕ) → cell_adds 0 cell i ≡ 0
unfolding cell_adds share marked
cell_none cell i = le_zero (nine_most {m = 0} (omega arith) (omega arith) (omega arith) (omega arith) (omega arith) (omega arith) (omega arith) (omega arith) (omega arith) i)
  where
    le_zero : {n : ℕ} → n ≤ 0 → n ≡ 0
    le_zero h = omega arith

-- THE CELLS OF A ROW: one turn
module _ (ms : List ℕ) (k : ℕ) {line : Bytes} {at : ℕ} {c : Counted} (r : Reads line at (get_or ms k 0) c) (found all : ℕ → ℕ)
    (left : (i : ℕ) → found i + sum_cells (λ (j : ℕ) (cell : Bytes). cell_adds (get_or ms j 0) cell i) k (cells (drop at line)) ≡ all i) where
  abbrev amount : ℕ → ℕ → Bytes → ℕ
  amount i j cell = cell_adds (get_or ms j 0) cell i

  pub cell_room : ((i : ℕ) → all i < 2 ^ 64) → (i : ℕ) → found i + count_adds (get_or ms k 0) c i < 2 ^ 64
  cell_room fits i = omega (arith, left i, fits i, counts_as r i, cells_least (amount i) k r.ends)

  module _ (found' : ℕ → ℕ) (adds : (i : ℕ) → found' i ≡ found i + count_adds (get_or ms k 0) c i) where
    pub turn_next : c.end < length line → (i : ℕ) → found' i + sum_cells (λ (j : ℕ) (cell : Bytes). cell_adds (get_or ms j 0) cell i) (k + 1) (cells (drop (c.end + 1) line)) ≡ all i
    turn_next lt i = omega (arith, left i, adds i, counts_as r i, cells_next (amount i) k r.ends lt)

    pub turn_last : c.end ≡ length line → (i : ℕ) → found' i ≡ all i
    turn_last q i = omega (arith, left i, adds i, counts_as r i, cells_last (amount i) k r.ends q)

unmarked : {ms : List ℕ} {width : ℕ} → IsMarks ms width → (i j : ℕ) (cell : Bytes) → width ≤ j → cell_adds (get_or ms j 0) cell i ≡ 0
unmarked {ms} good i j cell l = ap (λ (m : ℕ). cell_adds m cell i) (good.none j l) ∙ cell_none cell i

-- no counter is left
pub turn_none : {ms : List ℕ} {width : ℕ} → IsMarks ms width → (k : ℕ) → width ≤ k → (cs : List Bytes) (found all : ℕ → ℕ)
    → ((i : ℕ) → found i + sum_cells (λ (j : ℕ) (cell : Bytes). cell_adds (get_or ms j 0) cell i) k cs ≡ all i) → (i : ℕ) → found i ≡ all i
turn_none {ms} good k h cs found all left i =
    omega (arith, left i, cells_none (λ (j : ℕ) (cell : Bytes). cell_adds (get_or ms j 0) cell i) k cs (λ j cell l. unmarked good i j cell (omega arith)))

-- THE BOUND: a count has nine digits at most

number_most : (n : ℕ) (ds : Bytes) → all is_digit ds ≡ true → number n ds < (n + 1) * 10 ^ length ds
unfolding number all
number_most n [] h = omega arith
number_most n (d ∷ ds) h =
    let q = and_both (is_digit d) (all is_digit ds) h in
    let low = leb-true d 57 (and_right (leb 48 d) (leb d 57) q.0) in
    let step : more n d + 1 ≤ (n + 1) * 10 = omega arith in
    let grown : (more n d + 1) * 10 ^ length ds ≤ (n + 1) * 10 * 10 ^ length ds = mul-le-mul_right (10 ^ length ds) step in
    let same : (n + 1) * 10 * 10 ^ length ds ≡ (n + 1) * 10 ^ suc (length ds) =
    mul_assoc (n + 1) 10 (10 ^ length ds) ∙ ap (λ (x : ℕ). (n + 1) * x) (mul_comm 10 (10 ^ length ds) ∙ sym (pow-suc 10 (length ds))) in
    omega (arith, number_most (more n d) ds q.1)

count_most : (cell : Bytes) → count_of cell ≤ 10 ^ 9
unfolding count_of is_whole are_digits
count_most cell = go (is_whole cell) refl
  where
    go : (t : Bool) → is_whole cell ≡ t → cond t (number 0 (unsigned cell)) 0 ≤ 10 ^ 9
    go false e = omega arith
    go true e =
        let q = and_both (are_digits (unsigned cell)) (leb (length (unsigned cell)) 9) e in
        let d = and_right (not (is_empty (unsigned cell))) (all is_digit (unsigned cell)) q.0 in
        let few = leb-true (length (unsigned cell)) 9 q.1 in
        let p : 10 ^ length (unsigned cell) ≤ 10 ^ 9 = pow-le-pow_right (lit< tt) few in
        omega (arith, number_most 0 (unsigned cell) d)

-- no cell adds more than that, no row of 256 counters, no line
cell_most : (mark : ℕ) (cell : Bytes) (i : ℕ) → cell_adds mark cell i ≤ 10 ^ 9
unfolding cell_adds
cell_most mark cell i =
    nine_most (omega (arith, count_most cell, share_most mark 1 (count_of cell))) (omega (arith, count_most cell, share_most mark 2 (count_of cell))) (omega (arith, count_most cell, share_most mark 3 (count_of cell)))
    (omega arith) (omega arith) (omega arith) (omega arith)
    (omega (arith, marked_most mark (bit (is_null cell)), bit_most (is_null cell))) (omega (arith, marked_most mark (bit (is_below cell)), bit_most (is_below cell))) i

section_most : (section i : ℕ) → section_adds section i ≤ 1
section_most section i =
    nine_most (omega arith) (omega arith) (omega arith) (share_most section 1 1) (share_most section 2 1) (share_most section 3 1) (share_most section 4 1) (omega arith) (omega arith) i

module _ {ms : List ℕ} {width : ℕ} (good : IsMarks ms width) where
  line_most : (i : ℕ) (l : Bytes) → line_adds ms l i ≤ 256 * 10 ^ 9 + 1
  line_most i l =
      let row = cells_most (λ (j : ℕ) (cell : Bytes). cell_adds (get_or ms j 0) cell i) (10 ^ 9) 256 (λ j cell. cell_most (get_or ms j 0) cell i) (λ j cell h. unmarked good i j cell (omega (arith, good.inside))) 0 (cells l) in
      omega (arith, section_most (row_section l) i, share_most (row_section l) 1 (row_adds ms l i))

  -- ALL LINES HAVE ROOM in 64 bits
  pub lines_room : (file : Bytes) → length file ≤ LIMIT → (i : ℕ) → lines_add ms file i < 2 ^ 64
  lines_room file h i = omega (arith, lines_most (λ (l : Bytes). line_adds ms l i) (256 * 10 ^ 9 + 1) (lines file) (line_most i), counts.lines_most file)

-- ONE LINE, by its section: f before it, g with its row, h with its cells
module _ (ms : List ℕ) (l : Bytes) {section : ℕ} (is : section ≡ row_section l) (f g : ℕ → ℕ) where
  pub row_room : ((i : ℕ) → f i + line_adds ms l i < 2 ^ 64) → (i : ℕ) → f i + section_adds section i < 2 ^ 64
  row_room fits i = omega (arith, fits i, ap (λ (x : ℕ). section_adds x i) is)

  module _ (row : (i : ℕ) → g i ≡ f i + section_adds section i) where
    pub row_done : (section ≡ 1 → ⊥) → (i : ℕ) → g i ≡ f i + line_adds ms l i
    row_done n i = omega (arith, row i, ap (λ (x : ℕ). section_adds x i) is, share_other (row_section l) 1 (row_adds ms l i) (λ e. n (is ∙ e)))

    module _ (protein : section ≡ 1) where
      line_cells : (i : ℕ) → f i + line_adds ms l i ≡ g i + row_adds ms l i
      line_cells i = omega (arith, row i, ap (λ (x : ℕ). section_adds x i) is, share_same (row_section l) 1 (row_adds ms l i) (sym is ∙ protein))

      pub cells_room : ((i : ℕ) → f i + line_adds ms l i < 2 ^ 64) → (i : ℕ) → g i + row_adds ms l i < 2 ^ 64
      cells_room fits i = omega (arith, fits i, line_cells i)

      pub cells_done : (h : ℕ → ℕ) → ((i : ℕ) → h i ≡ g i + row_adds ms l i) → (i : ℕ) → h i ≡ f i + line_adds ms l i
      cells_done h cells i = omega (arith, cells i, line_cells i)

-- THE LINES: one turn
module _ (ms : List ℕ) {file : Bytes} {s e next : ℕ} (at : LineAt file s e next) (found all : ℕ → ℕ)
    (left : (i : ℕ) → found i + sum_lines (λ (l : Bytes). line_adds ms l i) (lines (drop s file)) ≡ all i) where
  pub line_room : ((i : ℕ) → all i < 2 ^ 64) → (i : ℕ) → found i + line_adds ms (part s e file) i < 2 ^ 64
  line_room fits i = omega (arith, left i, fits i, lines_next (λ (l : Bytes). line_adds ms l i) at)

  pub line_next : (found' : ℕ → ℕ) → ((i : ℕ) → found' i ≡ found i + line_adds ms (part s e file) i) → (i : ℕ)
      → found' i + sum_lines (λ (l : Bytes). line_adds ms l i) (lines (drop next file)) ≡ all i
  line_next found' adds i = omega (arith, left i, adds i, lines_next (λ (l : Bytes). line_adds ms l i) at)

-- THE SECTION OF A ROW, by its code: the bytes up to the first tab are cell 1
pub code_is : {line : Bytes} {e : ℕ} → Ends TAB line 0 e → (code : Bytes) {t : Bool} → t ≡ same (take e line) code → coded code line ≡ t
unfolding coded
code_is ends code q = sym (q ∙ ap (λ (l : Bytes). same l code) (sym (first_piece ends)))

module _ (l : Bytes) where
  pub is_protein : coded (row_code mz_tab 1) l ≡ true → 1 ≡ row_section l
  unfolding row_section
  is_protein a = rw a

  module _ (a : coded (row_code mz_tab 1) l ≡ false) where
    pub is_peptide : coded (row_code mz_tab 2) l ≡ true → 2 ≡ row_section l
    unfolding row_section
    is_peptide b = rw (a, b)

    module _ (b : coded (row_code mz_tab 2) l ≡ false) where
      pub is_psm : coded (row_code mz_tab 3) l ≡ true → 3 ≡ row_section l
      unfolding row_section
      is_psm c = rw (a, b, c)

      module _ (c : coded (row_code mz_tab 3) l ≡ false) where
        pub is_small_molecule : coded (row_code mz_tab 4) l ≡ true → 4 ≡ row_section l
        unfolding row_section
        is_small_molecule d = rw (a, b, c, d)

        pub is_no_row : coded (row_code mz_tab 4) l ≡ false → 0 ≡ row_section l
        unfolding row_section
        is_no_row d = rw (a, b, c, d)
