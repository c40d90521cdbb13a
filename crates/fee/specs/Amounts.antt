-- The sum of two amounts in whole cents: paper 02, request 2026-10. Assumes nothing.
use Rattle.std.specs.Prelude.{ℕ, ◌+◌, cond, leb}
use Rattle.numbers.specs.Numbers.{TOO_LARGE}
use Rattle.fee_shares.specs.Refusals.{LIMIT}

-- what adding gives: a number and an amount
pub record Added : Type 0 where
  pub number : ℕ
  pub sum : ℕ

abbrev pub added : ℕ → ℕ → Added
added n c = record { number = n; sum = c }

-- the sum of two amounts, with number 0; past the limit it is refused, and zero
unfoldable pub sum_of : ℕ → ℕ → Added
sum_of a b = cond (leb (a + b) LIMIT) (added 0 (a + b)) (added TOO_LARGE 0)
