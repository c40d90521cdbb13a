-- Worked examples of records, computed. Assumes nothing.
use Rattle.std.specs.Prelude.{◌≡◌, refl, [], ◌∷◌, ◌++◌, ◌-◌, ◌^◌, take, replicate}
use Rattle.numbers.specs.Numbers.{NO_ROOM, NO_RECORD}
use Rattle.text_bytes.specs.Bytes.{Bytes, any}
use Rattle.tally.specs.declared.Tally.{Tally}
use Rattle.tally.specs.Tally.{tally_of, zero, Within, outcome as told}
use Rattle.tally_records.specs.Records.{little, number_in, in_eights, eights_from, record_of, is_record, tally_in, outcome, written, read_as}

tally : Tally
tally = tally_of (1 ∷ 2 ∷ 300 ∷ 70000 ∷ (2 ^ 32) ∷ (2 ^ 56) ∷ 72623859790382856 ∷ (2 ^ 64 - 1) ∷ [])

-- its eight totals in bytes, the lowest first
eights : Bytes
eights =
    1 ∷ 0 ∷ 0 ∷ 0 ∷ 0 ∷ 0 ∷ 0 ∷ 0
    ∷ 2 ∷ 0 ∷ 0 ∷ 0 ∷ 0 ∷ 0 ∷ 0 ∷ 0
    ∷ 44 ∷ 1 ∷ 0 ∷ 0 ∷ 0 ∷ 0 ∷ 0 ∷ 0
    ∷ 112 ∷ 17 ∷ 1 ∷ 0 ∷ 0 ∷ 0 ∷ 0 ∷ 0
    ∷ 0 ∷ 0 ∷ 0 ∷ 0 ∷ 1 ∷ 0 ∷ 0 ∷ 0
    ∷ 0 ∷ 0 ∷ 0 ∷ 0 ∷ 0 ∷ 0 ∷ 0 ∷ 1
    ∷ 8 ∷ 7 ∷ 6 ∷ 5 ∷ 4 ∷ 3 ∷ 2 ∷ 1
    ∷ 255 ∷ 255 ∷ 255 ∷ 255 ∷ 255 ∷ 255 ∷ 255 ∷ 255 ∷ []

-- the 70 bytes: 66 follow the first four, and the kind is 1
recorded : Bytes
recorded = 66 ∷ 0 ∷ 0 ∷ 0 ∷ 1 ∷ 0 ∷ eights

-- all eight fit in 64 bits
fits : Within tally
unfolding any tally
fits = refl

the_record : record_of tally ≡ recorded
unfolding record_of little in_eights tally recorded eights
the_record = refl

read_back : read_as recorded ≡ told 0 tally
unfolding read_as is_record tally_in eights_from number_in tally recorded eights
read_back = refl

-- kind and length the other way round
swapped : read_as (1 ∷ 0 ∷ 0 ∷ 0 ∷ 66 ∷ 0 ∷ eights) ≡ told NO_RECORD zero
unfolding read_as is_record tally_in eights_from number_in eights
swapped = refl

-- the length with its highest byte first
turned : read_as (0 ∷ 0 ∷ 0 ∷ 66 ∷ 1 ∷ 0 ∷ eights) ≡ told NO_RECORD zero
unfolding read_as is_record tally_in eights_from number_in eights
turned = refl

-- another kind
other_kind : read_as (66 ∷ 0 ∷ 0 ∷ 0 ∷ 2 ∷ 0 ∷ eights) ≡ told NO_RECORD zero
unfolding read_as is_record tally_in eights_from number_in eights
other_kind = refl

-- a byte less, and a byte more
cut_off : read_as (take 69 recorded) ≡ told NO_RECORD zero
unfolding read_as is_record tally_in eights_from number_in recorded eights
cut_off = refl

too_long : read_as (recorded ++ (0 ∷ [])) ≡ told NO_RECORD zero
unfolding read_as is_record tally_in eights_from number_in recorded eights
too_long = refl

-- written into 69 places, and into 71
no_room : written tally (replicate 69 7) ≡ outcome NO_ROOM 0 (replicate 69 7)
unfolding written record_of little in_eights tally
no_room = refl

with_room : written tally (replicate 71 7) ≡ outcome 0 70 (recorded ++ (7 ∷ []))
unfolding written record_of little in_eights tally recorded eights
with_room = refl
