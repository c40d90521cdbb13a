-- The weights as whoever asks cell by cell counts them: of the rows that `rows` counts, those whose cell in the study variable's column `cell` shows, and shows as
-- something else than `null`. Assumes nothing.
use mathlib.Core.Path.{◌≡◌, refl, sym, ap, ◌∙◌}
use mathlib.Core.Bool.{Bool, true, false, cond, not, ◌&&◌}
use mathlib.Core.List.{List, [], ◌∷◌}
use mathlib.Core.Option.{Option, none, some}
use Prim.Native.Nat.{ℕ, zero, suc, ◌+◌, ◌-◌, ◌≤◌}
use native.Mathlib.Omega.{arith}
use lib.Dec.{eqb}
use lib.ListN.{length, get_elem?}
use borrow.Author.Tests.{le-ltb}
use Rattle.text_bytes.specs.Bytes.{Bytes, is, count}
use Rattle.text.specs.Lines.{LIMIT, lines, coded}
use Rattle.book.specs.Book.{row_code, mz_tab, book_of, is_section}
use Rattle.rows.specs.Rows.{Line, line_of, numbered, having, row_of, row_count, header_of, column_named, cell_at}
use Rattle.rows.proofs.Laws.Finding.{row_coded, rows_long}
use Rattle.mztab.specs.Shown.{Sought, sought_cell, sought_row, cell_start, sought}
use Rattle.fee_shares.specs.Sums.{sum_to, bit}
use Rattle.fee_shares.proofs.Laws.Sums.{sum_same}
use Rattle.weight_counts.specs.Variables.{PROTEIN, abundance}
use Rattle.weights.specs.Weights.{is_given, has_in, weight_of}

-- a cell call shows a cell that is not `null`
abbrev pub is_shown : Sought → Bool
is_shown s = eqb s.number 0 && not (is s.view "null")

-- a cell of a row that may not be there
abbrev given : ℕ → Option Line → Bool
given c none = false
given c (some l) = is_given (cell_at l.text c)

-- a sum from its first number on
sum_first : (n : ℕ) (f : ℕ → ℕ) → sum_to (suc n) f ≡ f 0 + sum_to n (λ (i : ℕ). f (suc i))
unfolding sum_to
sum_first zero f = omega arith
sum_first (suc n) f = omega (arith, sum_first n f)

-- the rows with such a cell, in the order of the rows and in that of the lines
rows_given : (c n : ℕ) (ls : List Bytes)
    → sum_to (length (having (row_code mz_tab PROTEIN) (numbered n ls))) (λ (j : ℕ). bit (given c (get_elem? (having (row_code mz_tab PROTEIN) (numbered n ls)) j))) ≡ count (has_in c) ls
unfolding having numbered count has_in sum_to
rows_given c n [] = refl
rows_given c n (l ∷ ls) = go (coded (row_code mz_tab PROTEIN) l) (is_given (cell_at l c)) refl (rows_given c (suc n) ls)
  where
    rest : List Line
    rest = having (row_code mz_tab PROTEIN) (numbered (suc n) ls)

    go : (t u : Bool) → is_given (cell_at l c) ≡ u → sum_to (length rest) (λ (j : ℕ). bit (given c (get_elem? rest j))) ≡ count (has_in c) ls
        → sum_to (length (cond t (line_of n l ∷ rest) rest)) (λ (j : ℕ). bit (given c (get_elem? (cond t (line_of n l ∷ rest) rest) j))) ≡ cond (t && u) (suc (count (has_in c) ls)) (count (has_in c) ls)
    go true true e h = omega (arith, sum_first (length rest) (λ (j : ℕ). bit (given c (get_elem? (line_of n l ∷ rest) j))), ap bit e)
    go true false e h = omega (arith, sum_first (length rest) (λ (j : ℕ). bit (given c (get_elem? (line_of n l ∷ rest) j))), ap bit e)
    go false u e h = h

-- what a cell call shows, and whether the cell is given
cell_shown : (n c start : ℕ) (o : Option Bytes) → is_shown (sought_cell n c start o) ≡ is_given o
cell_shown n c start none = refl
cell_shown n c start (some b) = refl

row_shown : (file : Bytes) (o : Option Line) (c : ℕ) → is_shown (sought_row file o c) ≡ given c o
row_shown file none c = refl
row_shown file (some l) c = cell_shown l.line (c + 1) (cell_start file l c) (cell_at l.text c)

module _ (file : Bytes) (fits : length file ≤ LIMIT) (c : ℕ) where
  abbrev protein : List Line
  protein = having (row_code mz_tab PROTEIN) (numbered 1 (lines file))

  row_at : (j : ℕ) → row_of file PROTEIN (suc j) ≡ get_elem? protein j
  unfolding book_of
  row_at j = let z : suc j - 1 ≡ j = omega arith in row_coded file PROTEIN (suc j) (omega arith) ∙ ap (get_elem? protein) z

  sought_given : (j : ℕ) → is_shown (sought file PROTEIN (suc j) c) ≡ given c (get_elem? protein j)
  unfolding sought book_of mz_tab is_section
  sought_given j = rw (le-ltb LIMIT (length file) fits) (row_shown file (row_of file PROTEIN (suc j)) c ∙ ap (given c) (row_at j))

  rows_shown : sum_to (row_count file PROTEIN) (λ (j : ℕ). bit (is_shown (sought file PROTEIN (suc j) c))) ≡ count (has_in c) (lines file)
  unfolding book_of
  rows_shown =
      sum_same (row_count file PROTEIN) (λ (j : ℕ). bit (is_shown (sought file PROTEIN (suc j) c))) (λ (j : ℕ). bit (given c (get_elem? protein j))) (λ j h. ap bit (sought_given j))
      ∙ ap (λ (n : ℕ). sum_to n (λ (j : ℕ). bit (given c (get_elem? protein j)))) (sym (rows_long file PROTEIN)) ∙ rows_given c 1 (lines file)

-- THE WEIGHT of study variable i, row by row from 1 up to the number of rows
pub weight_shown : (file : Bytes) → length file ≤ LIMIT → (i : ℕ)
    → weight_of file i ≡ sum_to (row_count file PROTEIN) (λ (j : ℕ). bit (is_shown (sought file PROTEIN (suc j) (column_named (header_of file PROTEIN) (abundance i)))))
unfolding weight_of
weight_shown file fits i = sym (rows_shown file fits (column_named (header_of file PROTEIN) (abundance i)))
