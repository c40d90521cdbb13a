-- Lines passed over, none of which begins with a byte that is sought. No rule speaks of it. Assumes nothing.
use Rattle.std.specs.Prelude.{ℕ, ◌+◌, ◌≤◌, ◌<◌, ◌≡◌, false, cond, List, [], ◌∷◌, eqb, length, drop, get_or}
use Rattle.text_bytes.specs.Bytes.{Bytes, begins}
use Rattle.text.specs.Lines.{LF, lines}

-- the lines below the one in which these bytes begin
unfoldable pub below : Bytes → List Bytes
below [] = []
below (x ∷ xs) = cond (eqb x LF) (lines xs) (below xs)

-- so many lines come before the rest, none of which begins with b
pub data Passed (b : ℕ) (first : List Bytes) : ℕ → List Bytes → Type 0 where
  none : Passed b first 0 first
  more : {n : ℕ} {rest : List Bytes} (l : Bytes) → Passed b first n (l ∷ rest) → begins (b ∷ []) l ≡ false → Passed b first (n + 1) rest

-- no LF stands directly before b where the LF is one of the 64 bytes from `at` on
abbrev pub Quiet : ℕ → Bytes → ℕ → Type 0
Quiet b file at = (k : ℕ) → k < 64 → get_or file (at + k) 0 ≡ LF → get_or file (at + k + 1) 0 ≡ b → ⊥

-- so many line ends stand between two places, and no line that begins between them begins with b
pub record Passes (b : ℕ) (file : Bytes) (from at n : ℕ) : Type 0 where
  pub on : from ≤ at
  pub within : at < length file
  pub few : from + n ≤ at
  pub passed : Passed b (below (drop from file)) n (below (drop at file))

-- so many lines from the one at `from` on are passed, and the next begins at `at`, or there is none
pub record Reaches (b : ℕ) (file : Bytes) (from at n : ℕ) : Type 0 where
  pub on : from < at
  pub within : at ≤ length file
  pub few : from + n ≤ at
  pub passed : Passed b (lines (drop from file)) n (lines (drop at file))
