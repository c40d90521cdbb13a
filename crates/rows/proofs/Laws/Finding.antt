-- The rows of a code with their line numbers, by positions of the file. Assumes nothing.
use mathlib.Core.Path.{◌≡◌, refl, sym, ap, subst, ◌∙◌}
use mathlib.Core.Bool.{Bool, true, false, cond}
use mathlib.Core.List.{List, [], ◌∷◌}
use mathlib.Core.Option.{Option, none, some}
use Prim.Native.Nat.{ℕ, zero, suc, ◌+◌, ◌-◌, ◌≤◌, ◌<◌}
use native.Mathlib.Numerals.{add-one}
use native.Mathlib.Omega.{arith}
use lib.Dec.{eqb}
use borrow.Author.Tests.{ne_eqb, eqb-true, lt-ltb, le-ltb}
use lib.ListN.{length, get_or, get_elem?, drop}
use Rattle.numbers.specs.Numbers.{TOO_LONG, NO_SECTION}
use Rattle.text_bytes.specs.Bytes.{Bytes, count}
use Rattle.text_bytes.specs.Places.{part, after}
use Rattle.text.specs.Lines.{LIMIT, TAB, LF, lines, cells, coded}
use Rattle.text.specs.Places.{LineAt, FindsCell}
use Rattle.text.specs.declared.Part.{Part}
use Rattle.std.specs.Prelude.{Option as Answer, Some, None}
use Rattle.text_bytes.proofs.Laws.Starts.{after_more}
use Rattle.text_bytes.proofs.Laws.Parts.{get_next, get_below}
use Rattle.text_bytes.proofs.Laws.Pieces.{pieces_bound}
use Rattle.text.proofs.Laws.Lines.{lines_done}
use Rattle.rows.specs.Rows.{Line, line_of, numbered, having, row_of, row_count, cell_at, FindsRow, FindsColumn}
use Rattle.rows.specs.Counted.{counted, rows_in}
use Rattle.rows.specs.declared.Row.{Row}
use Rattle.book.specs.Book.{is_section, header_code, row_code, code_for, book_of}

-- the line at s has the number n: by whether it has the code, and the lines after it
module _ (code : Bytes) (n : ℕ) {f : Bytes} {s e next : ℕ} (at : LineAt f s e next) where
  pub row_here : (k : ℕ) → coded code (part s e f) ≡ true → k ≡ 0 → get_elem? (having code (numbered n (lines (drop s f)))) k ≡ some (line_of n (part s e f))
  unfolding having numbered
  row_here k t z = rw (z, at.cut, t)

  pub row_next : (k : ℕ) → coded code (part s e f) ≡ true → (k ≡ 0 → ⊥)
      → get_elem? (having code (numbered n (lines (drop s f)))) k ≡ get_elem? (having code (numbered (n + 1) (lines (drop next f)))) (k - 1)
  unfolding having numbered
  row_next k t ne = rw (add-one n, at.cut, t) (get_next (line_of n (part s e f)) (having code (numbered (suc n) (lines (drop next f)))) k ne)

  pub row_miss : (k : ℕ) → coded code (part s e f) ≡ false
      → get_elem? (having code (numbered n (lines (drop s f)))) k ≡ get_elem? (having code (numbered (n + 1) (lines (drop next f)))) k
  unfolding having numbered
  row_miss k t = rw (add-one n, at.cut, t)

-- nothing is left
pub row_none : (code f : Bytes) (s n k : ℕ) → length f ≤ s → get_elem? (having code (numbered n (lines (drop s f)))) k ≡ none
unfolding having numbered
row_none code f s n k h = rw (lines_done f s h)

-- the next line begins after one LF more
pub start_next : {f : Bytes} {s e next : ℕ} (n : ℕ) → LineAt f s e next → 1 ≤ n → s ≡ after LF (n - 1) f → next ≡ after LF (n + 1 - 1) f
start_next {f} {s} {e} {next} n at low q =
    let k : n + 1 - 1 ≡ suc (n - 1) = omega arith in
    let d : after LF 1 (drop (after LF (n - 1) f) f) ≡ after LF 1 (drop s f) = rw q in
    rw k (omega (arith, at.passes, after_more LF (n - 1) f, d))

-- the first line begins with the file
pub start_first : (f : Bytes) → 0 ≡ after LF (1 - 1) f
unfolding after
start_first f = refl

-- where a function answered no row there is none
module _ (s : Bytes) (o : Option Line) where
  pub row_missing : (a : Answer Row) → a ≡ None → FindsRow s o a → o ≡ none
  row_missing a q h = subst (λ (x : Answer Row). FindsRow s o x) q h

-- and so of a column
module _ (line : Bytes) (column : ℕ) where
  pub column_missing : (a : Answer Part) → a ≡ None → FindsColumn line column a → cell_at line column ≡ none
  column_missing a q h = subst (λ (x : Answer Part). FindsColumn line column x) q h

  -- a column but the first is the cell of its number
  pub column_cell : (column ≡ 0 → ⊥) → (a : Answer Part) → FindsCell line column a → FindsColumn line column a
  unfolding cell_at
  column_cell ne (Some p) h = rw (ne_eqb column 0 ne) h
  column_cell ne None h = rw (ne_eqb column 0 ne) h

-- a column that is there has a number at most as high as the line is long
pub column_below : (line : Bytes) (column : ℕ) (x : Bytes) → cell_at line column ≡ some x → column ≤ length line
unfolding cell_at
column_below line column x h = go (eqb column 0) refl h
  where
    go : (t : Bool) → eqb column 0 ≡ t → cond t none (get_elem? (cells line) column) ≡ some x → column ≤ length line
    go true e k = omega (arith, eqb-true column 0 e)
    go false e k = omega (arith, get_below (cells line) column x k, pieces_bound TAB line)

-- HOW MANY ROWS

-- the lines that have a code are as many as are counted
having_count : (code : Bytes) (n : ℕ) (ls : List Bytes) → length (having code (numbered n ls)) ≡ count (coded code) ls
unfolding having numbered count
having_count code n [] = refl
having_count code n (l ∷ ls) = go (coded code l) (having_count code (suc n) ls)
  where
    rest : List Line
    rest = having code (numbered (suc n) ls)

    go : (t : Bool) → length rest ≡ count (coded code) ls → length (cond t (line_of n l ∷ rest) rest) ≡ cond t (suc (count (coded code) ls)) (count (coded code) ls)
    go true h = ap suc h
    go false h = h

get_none : {A : Type 0} (l : List A) (k : ℕ) → length l ≤ k → get_elem? l k ≡ none
get_none [] k h = refl
get_none (x ∷ xs) zero h = absurd (omega arith)
get_none (x ∷ xs) (suc k) h = get_none xs k (omega arith)

get_some : {A : Type 0} (l : List A) (k : ℕ) → k < length l → get_elem? l k ≡ none → ⊥
get_some [] k h e = omega arith
get_some (x ∷ xs) zero h e = let z : ◌≡◌ {A = ℕ} 0 1 = cc in omega arith
get_some (x ∷ xs) (suc k) h e = get_some xs k (omega arith) e

pub rows_long : (file : Bytes) (section : ℕ) → length (having (row_code (book_of (lines file)) section) (numbered 1 (lines file))) ≡ row_count file section
unfolding row_count
rows_long file section = having_count (row_code (book_of (lines file)) section) 1 (lines file)

-- row r is there exactly for r up to the count
module _ (file : Bytes) (section row : ℕ) (low : 1 ≤ row) where
  pub row_coded : row_of file section row ≡ get_elem? (having (row_code (book_of (lines file)) section) (numbered 1 (lines file))) (row - 1)
  unfolding row_of code_for
  row_coded = rw (ne_eqb row 0 (λ e. omega arith))

  pub row_beyond : row_count file section < row → row_of file section row ≡ none
  row_beyond h = row_coded ∙ get_none (having (row_code (book_of (lines file)) section) (numbered 1 (lines file))) (row - 1) (omega (arith, rows_long file section))

  pub row_within : row ≤ row_count file section → row_of file section row ≡ none → ⊥
  row_within h e = get_some (having (row_code (book_of (lines file)) section) (numbered 1 (lines file))) (row - 1) (omega (arith, rows_long file section)) (sym row_coded ∙ e)

-- A ROW IS A LINE of the file: its number, its text and its code

abbrev pub LineIn : Bytes → ℕ → List Bytes → Line → Type 0
LineIn code n ls l = (n ≤ l.line) × (l.line < n + length ls) × (get_or ls (l.line - n) [] ≡ l.text) × (coded code l.text ≡ true)

having_line : (code : Bytes) (n : ℕ) (ls : List Bytes) (k : ℕ) (l : Line) → get_elem? (having code (numbered n ls)) k ≡ some l → LineIn code n ls l
unfolding having numbered
having_line code n [] k l e = absurd (let z : ◌≡◌ {A = ℕ} 0 1 = cc in omega arith)
having_line code n (x ∷ ls) k l e = go (coded code x) refl k e (λ j d. having_line code (suc n) ls j l d)
  where
    rest : List Line
    rest = having code (numbered (suc n) ls)

    later : LineIn code (suc n) ls l → LineIn code n (x ∷ ls) l
    later h =
        let z : l.line - n ≡ suc (l.line - suc n) = omega arith in
        (omega arith, omega arith, rw z h.2, h.3)

    go : (t : Bool) → coded code x ≡ t → (j : ℕ) → get_elem? (cond t (line_of n x ∷ rest) rest) j ≡ some l → ((i : ℕ) → get_elem? rest i ≡ some l → LineIn code (suc n) ls l) → LineIn code n (x ∷ ls) l
    go true c zero d f =
        let a : line_of n x ≡ l = cc in
        let z : n - n ≡ 0 = omega arith in
        subst (LineIn code n (x ∷ ls)) a (omega arith, omega arith, rw z, c)
    go true c (suc j) d f = later (f j d)
    go false c j d f = later (f j d)

pub header_line : (file : Bytes) (section : ℕ) (l : Line) → row_of file section 0 ≡ some l → LineIn (header_code (book_of (lines file)) section) 1 (lines file) l
unfolding row_of code_for
header_line file section l e = having_line (header_code (book_of (lines file)) section) 1 (lines file) 0 l e

-- THE CALL `rows`, by the tests that lead to each answer
module _ (f : Bytes) (section : ℕ) where
  pub rows_over : LIMIT < length f → counted TOO_LONG 0 ≡ rows_in f section
  unfolding rows_in
  rows_over h = rw (lt-ltb LIMIT (length f) h)

  pub rows_nowhere : length f ≤ LIMIT → is_section (book_of (lines f)) section ≡ false → counted NO_SECTION 0 ≡ rows_in f section
  unfolding rows_in
  rows_nowhere h e = rw (le-ltb LIMIT (length f) h, e)

  pub rows_there : length f ≤ LIMIT → is_section (book_of (lines f)) section ≡ true → {code : Bytes} {k : ℕ} → code ≡ code_for (book_of (lines f)) section 1 → k ≡ count (coded code) (lines f) → counted 0 k ≡ rows_in f section
  unfolding rows_in row_count code_for
  rows_there h e c d = rw (le-ltb LIMIT (length f) h, e, d, c)
