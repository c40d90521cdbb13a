-- What a cell counts: paper 02, request 2026-09. Assumes nothing.
use Rattle.std.specs.Prelude.{ℕ, Bool, cond, not, ◌&&◌, eqb}
use Rattle.text_bytes.specs.Bytes.{Bytes}
use Rattle.value_references.specs.Index.{number}
use Rattle.values.specs.Values.{unsigned, is_whole}
use Rattle.value_readings.specs.Reading.{has_minus}

-- THE COUNT of a whole is the number that its digits write; anything else counts nothing, `null` too
unfoldable pub count_of : Bytes → ℕ
count_of cell = cond (is_whole cell) (number 0 (unsigned cell)) 0

-- a count below zero has a minus, and is not zero
unfoldable pub is_below : Bytes → Bool
is_below cell = has_minus cell && not (eqb (count_of cell) 0)
