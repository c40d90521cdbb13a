-- What the functions of a split know of each other's answers. No public contract cites this file. Assumes nothing.
use Rattle.std.specs.Prelude.{ℕ, ◌≤◌, ◌<◌, ◌≡◌, List, length}
use Rattle.fee_shares.specs.Sums.{at}
use Rattle.fee_shares.specs.Shares.{total, rest}
use Rattle.fee_shares.specs.Refusals.{LIMIT, MOST_WEIGHTS, WEIGHT_END}

-- a fee and its weights where a call is not refused
pub record Granted (fee : ℕ) (ws : List ℕ) : Type 0 where
  pub few : length ws ≤ MOST_WEIGHTS
  pub small : fee ≤ LIMIT
  pub light : (i : ℕ) → at ws i < WEIGHT_END
  pub some : 0 < total ws

-- rs has the remainders of the weights, and room for 64
pub record Rests (fee : ℕ) (ws rs : List ℕ) : Type 0 where
  pub long : length rs ≡ MOST_WEIGHTS
  pub rests : (i : ℕ) → i < length ws → at rs i ≡ rest fee ws i
