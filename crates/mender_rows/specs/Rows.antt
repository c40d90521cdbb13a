-- The cells of a row that are filled, by what is carried of its header. No public contract cites this file. Assumes nothing.
use Rattle.std.specs.Prelude.{ℕ, suc, ◌-◌, Bool, cond, not, ◌&&◌, List, [], ◌∷◌, ◌++◌, length, get_or, take, drop, eqb, leb}
use Rattle.text_bytes.specs.Bytes.{Bytes, is_empty, any}
use Rattle.book.specs.Letters.{KEPT}
use Rattle.rules.specs.Breaks.{Break, break_at, when}
use Rattle.rules.specs.Mended.{NULL}

-- `null` comes into a cell that holds x, whose column has the kind
abbrev pub fills_in : ℕ → Bytes → Bool
fills_in kind x = is_empty x && not (eqb kind KEPT)

-- the cells from cell c on, and the changes in them, on line n
unfoldable pub filled : List ℕ → ℕ → List Bytes → List Bytes
filled kinds c [] = []
filled kinds c (x ∷ xs) = cond (fills_in (get_or kinds (c - 1) 0) x) NULL x ∷ filled kinds (suc c) xs

unfoldable pub found : List ℕ → ℕ → ℕ → List Bytes → List Break
found kinds n c [] = []
found kinds n c (x ∷ xs) = when (fills_in (get_or kinds (c - 1) 0) x) (break_at n c 19) (found kinds n (suc c) xs)

-- a row of the section s and the cells xs is judged by its cells: the nearest header is of the section h, which is s, and has w cells, not over 256 and as many
abbrev pub is_even : ℕ → ℕ → ℕ → List Bytes → Bool
is_even h w s xs = (eqb h s && leb w 256) && eqb (length xs) w

-- and then its cells are filled from the second on
unfoldable pub row_filled : ℕ → ℕ → List ℕ → ℕ → List Bytes → List Bytes
row_filled h w kinds s xs = cond (is_even h w s xs) (take 1 xs ++ filled kinds 2 (drop 1 xs)) xs

unfoldable pub row_found : ℕ → ℕ → List ℕ → ℕ → ℕ → List Bytes → List Break
row_found h w kinds s n xs = cond (is_even h w s xs) (found kinds n 2 (drop 1 xs)) []

-- a cell after the first is empty
abbrev pub has_hole : List Bytes → Bool
has_hole xs = any is_empty (drop 1 xs)
