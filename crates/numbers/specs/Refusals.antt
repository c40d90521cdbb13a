-- The number of each refusal, and what a call's answer says by itself: its number, and its value or what stands for none. Assumes nothing.
use Rattle.std.specs.Prelude.{ℕ, Result, Ok, Err}
use Rattle.numbers.specs.Numbers.{TOO_LONG, NO_SECTION, NO_ROW, NO_CELL, NO_ROOM, NOT_ACCEPTED, BELOW_ZERO, PAST_64_BITS, NO_RECORD, NOT_AS_MANY, TOO_LARGE, ALL_ZERO}
use Rattle.numbers.specs.declared.Refusal.{Refusal}
use Rattle.numbers.specs.declared.Refusal.TheVariants.{TooLong, NoSection, NoRow, NoCell, NoRoom, NotAccepted, BelowZero, Past64Bits, NoRecord, NotAsMany, TooLarge, AllZero}

abbrev pub number_of : Refusal → ℕ
number_of TooLong = TOO_LONG
number_of NoSection = NO_SECTION
number_of NoRow = NO_ROW
number_of NoCell = NO_CELL
number_of NoRoom = NO_ROOM
number_of NotAccepted = NOT_ACCEPTED
number_of BelowZero = BELOW_ZERO
number_of Past64Bits = PAST_64_BITS
number_of NoRecord = NO_RECORD
number_of NotAsMany = NOT_AS_MANY
number_of TooLarge = TOO_LARGE
number_of AllZero = ALL_ZERO

-- the number of an answer: 0, or that of its refusal
abbrev pub number_in : {A : Type 0} → Result A Refusal → ℕ
number_in (Ok a) = 0
number_in (Err e) = number_of e

-- the answer, and d where it is refused
abbrev pub answer_or : {A : Type 0} → A → Result A Refusal → A
answer_or d (Ok a) = a
answer_or d (Err e) = d
