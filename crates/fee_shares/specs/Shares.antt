-- What each number has of a fee: the proportion rounded down, and one of the cents left over where few enough come before it. Paper 02, request 2026-10.
-- Assumes nothing.
use Rattle.std.specs.Prelude.{ℕ, ◌+◌, ◌-◌, ◌*◌, ◌/◌, ◌%◌, ◌≤◌, ◌<◌, ◌≡◌, Bool, true, ◌&&◌, ◌||◌, List, eqb, ltb, length}
use Rattle.fee_shares.specs.Sums.{sum_to, at, bit}

-- weight number i, from 0
abbrev pub weight : List ℕ → ℕ → ℕ
weight = at

-- all weights together
abbrev pub total : List ℕ → ℕ
total ws = sum_to (length ws) (weight ws)

-- the whole cents of fee * weight / total, and what is left of that division
abbrev pub floor : ℕ → List ℕ → ℕ → ℕ
floor fee ws i = fee * weight ws i / total ws

abbrev pub rest : ℕ → List ℕ → ℕ → ℕ
rest fee ws i = fee * weight ws i % total ws

-- the cents that rounding down leaves over
abbrev pub left : ℕ → List ℕ → ℕ
left fee ws = fee - sum_to (length ws) (floor fee ws)

-- j comes before i, by the remainders r: a larger remainder, or an equal one and the lower number
unfoldable pub before : (ℕ → ℕ) → ℕ → ℕ → Bool
before r j i = ltb (r i) (r j) || (eqb (r j) (r i) && ltb j i)

-- how many of the numbers below n come before i
abbrev pub ahead : ℕ → (ℕ → ℕ) → ℕ → ℕ
ahead n r i = sum_to n (λ (j : ℕ). bit (before r j i))

-- THE SHARE of number i: one cent more exactly where fewer come before it than cents are left over
abbrev pub share : ℕ → List ℕ → ℕ → ℕ
share fee ws i = floor fee ws i + bit (ltb (ahead (length ws) (rest fee ws) i) (left fee ws))

-- The same by what the words ask of shares s, with nobody counted: they add up to the fee, each is its proportion rounded down or one cent
-- more, and where i gets a cent more so does each that comes before i
pub record Fair (fee : ℕ) (ws : List ℕ) (s : ℕ → ℕ) : Type 0 where
  pub whole : sum_to (length ws) s ≡ fee
  pub least : (i : ℕ) → i < length ws → floor fee ws i ≤ s i
  pub most : (i : ℕ) → i < length ws → s i ≤ floor fee ws i + 1
  pub first : (j i : ℕ) → j < length ws → i < length ws → before (rest fee ws) j i ≡ true → floor fee ws i < s i → floor fee ws j < s j
