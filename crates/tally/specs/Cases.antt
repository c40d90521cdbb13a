-- Worked examples of sums of tallies, computed. Assumes nothing.
use Rattle.std.specs.Prelude.{◌≡◌, refl, [], ◌∷◌, ◌-◌, ◌^◌}
use Rattle.numbers.specs.Numbers.{PAST_64_BITS}
use Rattle.text_bytes.specs.Bytes.{any}
use Rattle.tally.specs.Tally.{tally_of, zero, Within, sums, outcome, added}
use Rattle.tally.specs.declared.Tally.{Tally}

-- eight totals, no two alike, and eight others
one : Tally
one = tally_of (1 ∷ 20 ∷ 300 ∷ 4000 ∷ 50000 ∷ 600000 ∷ 7000000 ∷ (2 ^ 63) ∷ [])

other : Tally
other = tally_of (90 ∷ 800 ∷ 7000 ∷ 60000 ∷ 500000 ∷ 4000000 ∷ 30000000 ∷ 2 ∷ [])

-- each total of the sum is that of the two in its place
both : added one other ≡ outcome 0 (tally_of (91 ∷ 820 ∷ 7300 ∷ 64000 ∷ 550000 ∷ 4600000 ∷ 37000000 ∷ 9223372036854775810 ∷ []))
unfolding added sums any one other
both = refl

-- the other way round it is the same
turned : added other one ≡ added one other
unfolding added sums any one other
turned = refl

-- the highest number of 64 bits in the eighth place, 0 in the others
highest : Tally
highest = tally_of (0 ∷ 0 ∷ 0 ∷ 0 ∷ 0 ∷ 0 ∷ 0 ∷ (2 ^ 64 - 1) ∷ [])

highest_fits : Within highest
unfolding any highest
highest_fits = refl

-- and 0 fits
with_zero : added highest zero ≡ outcome 0 highest
unfolding added sums any highest
with_zero = refl

-- one more does not: the seven sums that fit are not given either
past_eighth : added highest (tally_of (1 ∷ 2 ∷ 3 ∷ 4 ∷ 5 ∷ 6 ∷ 7 ∷ 1 ∷ [])) ≡ outcome 13 zero
unfolding added sums any highest
past_eighth = refl

-- nor does 2^63 twice
past_twice : added one one ≡ outcome PAST_64_BITS zero
unfolding added sums any one
past_twice = refl
