-- Worked examples of a sum and of a split, computed. Assumes nothing.
use Rattle.std.specs.Prelude.{◌≡◌, refl, [], ◌∷◌, replicate}
use Rattle.numbers.specs.Numbers.{NOT_AS_MANY, TOO_LARGE, ALL_ZERO}
use Rattle.fee_shares.specs.Sums.{sum_to, list_to}
use Rattle.fee_shares.specs.Refusals.{LIMIT, any_large, refusal}
use Rattle.fee.specs.Amounts.{added, sum_of}
use Rattle.fee.specs.Places.{plain, cents}
use Rattle.fee_shares.specs.Shares.{before}
use Rattle.fee.specs.Split.{outcome, split_of}

-- a sum of exactly the limit is granted, one cent more is refused
to_the_limit : sum_of 99999999999 1 ≡ added 0 LIMIT
unfolding sum_of
to_the_limit = refl

past_the_limit : sum_of LIMIT 1 ≡ added TOO_LARGE 0
unfolding sum_of
past_the_limit = refl

-- of three equal remainders the lowest number gets the cent left over
ties : split_of plain 100 (1 ∷ 1 ∷ 1 ∷ []) (0 ∷ 0 ∷ 0 ∷ []) ≡ outcome 0 (34 ∷ 33 ∷ 33 ∷ [])
unfolding split_of refusal any_large before sum_to list_to
ties = refl

-- the larger remainder goes first, whatever its number: the parts are 2.5 and 5.83 and 1.67, and two cents are left over
largest_first : split_of plain 10 (3 ∷ 7 ∷ 2 ∷ []) (0 ∷ 0 ∷ 0 ∷ []) ≡ outcome 0 (2 ∷ 6 ∷ 2 ∷ [])
unfolding split_of refusal any_large before sum_to list_to
largest_first = refl

-- zero weights between others get nothing
zeros_between : split_of plain 7 (0 ∷ 3 ∷ 0 ∷ 3 ∷ 0 ∷ []) (9 ∷ 9 ∷ 9 ∷ 9 ∷ 9 ∷ []) ≡ outcome 0 (0 ∷ 4 ∷ 0 ∷ 3 ∷ 0 ∷ [])
unfolding split_of refusal any_large before sum_to list_to
zeros_between = refl

-- one cent over 64 equal weights goes to the first
one_cent : split_of plain 1 (replicate 64 1) (replicate 64 9) ≡ outcome 0 (1 ∷ replicate 63 0)
unfolding split_of refusal any_large before sum_to list_to
one_cent = refl

-- the largest fee and the largest weight
largest : split_of plain LIMIT (16777215 ∷ 16777215 ∷ 1 ∷ []) (0 ∷ 0 ∷ 0 ∷ []) ≡ outcome 0 (49999998510 ∷ 49999998510 ∷ 2980 ∷ [])
unfolding split_of refusal any_large before sum_to list_to
largest = refl

-- the same over `Cents`
of_cents : split_of cents 3 (1 ∷ 1 ∷ []) (record { 0 = 0 } ∷ record { 0 = 0 } ∷ []) ≡ outcome 0 (record { 0 = 2 } ∷ record { 0 = 1 } ∷ [])
unfolding split_of refusal any_large before sum_to list_to
of_cents = refl

-- THE ORDER of the refusals, and the places as they were: the counts first, whatever else is wrong
counts_first : split_of plain 100000000001 (0 ∷ 16777216 ∷ []) (7 ∷ []) ≡ outcome NOT_AS_MANY (7 ∷ [])
unfolding split_of refusal
counts_first = refl

no_weights : split_of plain 100000000001 [] [] ≡ outcome NOT_AS_MANY []
unfolding split_of refusal
no_weights = refl

-- then a fee or a weight too large
fee_second : split_of plain 100000000001 (0 ∷ []) (7 ∷ []) ≡ outcome TOO_LARGE (7 ∷ [])
unfolding split_of refusal any_large
fee_second = refl

weight_second : split_of plain 5 (0 ∷ 16777216 ∷ []) (7 ∷ 8 ∷ []) ≡ outcome TOO_LARGE (7 ∷ 8 ∷ [])
unfolding split_of refusal any_large
weight_second = refl

-- then weights that are all zero
zero_last : split_of plain 5 (0 ∷ 0 ∷ []) (7 ∷ 8 ∷ []) ≡ outcome ALL_ZERO (7 ∷ 8 ∷ [])
unfolding split_of refusal any_large sum_to
zero_last = refl
