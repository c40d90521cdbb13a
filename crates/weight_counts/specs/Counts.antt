-- What the scan for weights carries: the study variable of each column as a list, and what a row adds to the weights. No public contract cites this file. Assumes nothing.
use Rattle.std.specs.Prelude.{ℕ, suc, ◌+◌, ◌-◌, ◌≤◌, ◌<◌, ◌≡◌, Bool, cond, not, ◌&&◌, List, [], ◌∷◌, length, get_or, set, eqb}
use Rattle.text_bytes.specs.Bytes.{Bytes, is}
use Rattle.text.specs.Lines.{LIMIT, cells, coded}
use Rattle.book.specs.Book.{row_code, mz_tab}
use Rattle.fee_shares.specs.Sums.{bit}
use Rattle.weight_counts.specs.Variables.{PROTEIN, VARIABLES}

abbrev pub COLUMNS : ℕ
COLUMNS = 256

-- marks that a walk can use: one for each of 256 columns, none from `width` on
pub record IsMarks (marks : List ℕ) (width : ℕ) : Type 0 where
  pub long : length marks ≡ COLUMNS
  pub inside : width ≤ COLUMNS
  pub low : (j : ℕ) → get_or marks j 0 ≤ VARIABLES
  pub none : (j : ℕ) → width ≤ j → get_or marks j 0 ≡ 0

-- a cell counts for its column's study variable where it is not `null`
abbrev pub is_counted : ℕ → Bytes → Bool
is_counted mark cell = not (eqb mark 0) && not (is cell "null")

unfoldable pub with_cell : ℕ → Bytes → List ℕ → List ℕ
with_cell mark cell ws = cond (is_counted mark cell) (set ws (mark - 1) (get_or ws (mark - 1) 0 + 1)) ws

-- how many of these cells, of which the first stands in column k, are not `null` and in a column that passes the test
unfoldable pub adds : (ℕ → Bool) → ℕ → List Bytes → ℕ
adds p k [] = 0
adds p k (c ∷ cs) = bit (p k && not (is c "null")) + adds p (suc k) cs

-- the columns that are marked i
abbrev pub marks : List ℕ → ℕ → ℕ → Bool
marks ms i j = eqb (get_or ms j 0) i

-- what a line adds to weight i: a protein row its cells, any other nothing
abbrev pub line_adds : List ℕ → ℕ → Bytes → ℕ
line_adds ms i l = cond (coded (row_code mz_tab PROTEIN) l) (adds (marks ms i) 0 (cells l)) 0

unfoldable pub lines_add : List ℕ → ℕ → List Bytes → ℕ
lines_add ms i [] = 0
lines_add ms i (l ∷ ls) = line_adds ms i l + lines_add ms i ls

-- f of i is added to the weight of each study variable i; and there is room for it
pub record Room (f : ℕ → ℕ) (ws : List ℕ) : Type 0 where
  pub long : length ws ≡ VARIABLES
  pub fits : (i : ℕ) → i < VARIABLES → get_or ws i 0 + f (suc i) ≤ LIMIT

pub record Raises (f : ℕ → ℕ) (ws ws' : List ℕ) : Type 0 where
  pub long : length ws' ≡ length ws
  pub each : (i : ℕ) → i < VARIABLES → get_or ws' i 0 ≡ get_or ws i 0 + f (suc i)
