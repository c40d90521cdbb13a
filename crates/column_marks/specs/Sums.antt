-- Sums over the cells of a row and over the lines of a file. No public contract cites this file. Assumes nothing.
use Rattle.std.specs.Prelude.{ℕ, suc, ◌+◌, List, [], ◌∷◌}
use Rattle.std.proofs.Math.Option.{Option, none, some}
use Rattle.text_bytes.specs.Bytes.{Bytes}

-- what these cells add, of which the first stands in column k
unfoldable pub sum_cells : (ℕ → Bytes → ℕ) → ℕ → List Bytes → ℕ
sum_cells f k [] = 0
sum_cells f k (c ∷ cs) = f k c + sum_cells f (suc k) cs

-- what these lines add
unfoldable pub sum_lines : (Bytes → ℕ) → List Bytes → ℕ
sum_lines f [] = 0
sum_lines f (l ∷ ls) = f l + sum_lines f ls

-- what a cell adds that is there; one that is not there adds nothing
abbrev pub given : (Bytes → ℕ) → Option Bytes → ℕ
given f none = 0
given f (some cell) = f cell
