-- The numbers by which calls are refused, one table for all of them, tried in this order; 0 says that there is an answer. Papers 01 and 02. Assumes nothing.
use Rattle.std.specs.Prelude.{ℕ}

-- the file is longer than the limit
abbrev pub TOO_LONG : ℕ
TOO_LONG = 1

-- the section is not 1 to 4
abbrev pub NO_SECTION : ℕ
NO_SECTION = 2

-- no such row, or no such line
abbrev pub NO_ROW : ℕ
NO_ROW = 3

-- no such cell
abbrev pub NO_CELL : ℕ
NO_CELL = 4

-- what is written has no room in the buffer that is lent, or would be longer than the limit
abbrev pub NO_ROOM : ℕ
NO_ROOM = 5

-- the file is not accepted: it breaks a rule
abbrev pub NOT_ACCEPTED : ℕ
NOT_ACCEPTED = 7

-- a count is below zero
abbrev pub BELOW_ZERO : ℕ
BELOW_ZERO = 12

-- a sum passes 64 bits
abbrev pub PAST_64_BITS : ℕ
PAST_64_BITS = 13

-- the bytes are not the record of a tally
abbrev pub NO_RECORD : ℕ
NO_RECORD = 14

-- the number of weights, or of places for what belongs to each, is not what it must be
abbrev pub NOT_AS_MANY : ℕ
NOT_AS_MANY = 15

-- an amount or a weight is too large
abbrev pub TOO_LARGE : ℕ
TOO_LARGE = 16

-- all weights are zero
abbrev pub ALL_ZERO : ℕ
ALL_ZERO = 17
