-- What the reading call gives back. Assumes nothing.
use Rattle.std.specs.Prelude.{ℕ, cond, eqb}
use Rattle.value_readings.specs.Reading.{value_of}
use Rattle.value_readings.specs.declared.Value.TheVariants.{Missing}
use Rattle.mztab.specs.Shown.{Sought}
use Rattle.mztab.specs.declared.records.Reading.{Reading}

-- its number and its record
pub record Told : Type 0 where
  pub number : ℕ
  pub reading : Reading

abbrev pub told : ℕ → Reading → Told
told n r = record { number = n; reading = r }

-- a refused reading has line 0, cell 0 and missing
abbrev pub unread : Reading
unread = record { line = 0; cell = 0; value = Missing }

-- the line, the cell and what its bytes say
unfoldable pub reading_of : Sought → Told
reading_of s = told s.number (cond (eqb s.number 0) (record { line = s.line; cell = s.cell; value = value_of s.view }) unread)
