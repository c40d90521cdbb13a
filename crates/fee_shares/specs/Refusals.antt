-- When a split is refused, and by which number. Paper 02, request 2026-10. Assumes nothing.
use Rattle.std.specs.Prelude.{ℕ, Bool, false, not, cond, ◌&&◌, ◌||◌, List, [], ◌∷◌, eqb, leb, length}
use Rattle.numbers.specs.Numbers.{NOT_AS_MANY, TOO_LARGE, ALL_ZERO}
use Rattle.fee_shares.specs.Shares.{total}

-- 1,000,000,000.00: the most that a fee or a sum may be
abbrev pub LIMIT : ℕ
LIMIT = 100000000000

-- at most so many weights
abbrev pub MOST_WEIGHTS : ℕ
MOST_WEIGHTS = 64

-- the first weight that is too large
abbrev pub WEIGHT_END : ℕ
WEIGHT_END = 16777216

-- 1 to 64 weights, and as many places
abbrev pub as_many : ℕ → ℕ → Bool
as_many n places = leb 1 n && (leb n MOST_WEIGHTS && eqb places n)

unfoldable pub any_large : List ℕ → Bool
any_large [] = false
any_large (w ∷ ws) = leb WEIGHT_END w || any_large ws

-- the fee and each weight in range
abbrev pub in_range : ℕ → List ℕ → Bool
in_range fee ws = leb fee LIMIT && not (any_large ws)

-- THE NUMBER of a call with so many places: the refusals are tried in this order; 0 where it is granted
unfoldable pub refusal : ℕ → List ℕ → ℕ → ℕ
refusal fee ws places = cond (as_many (length ws) places) (cond (in_range fee ws) (cond (eqb (total ws) 0) ALL_ZERO 0) TOO_LARGE) NOT_AS_MANY
