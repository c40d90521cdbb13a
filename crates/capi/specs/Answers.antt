-- What the calls for hosts give back, by what the library finds. Assumes nothing.
use Rattle.std.specs.Prelude.{ℕ, ◌+◌, ◌≤◌, ◌≡◌, length, take, drop, cond, ℤ, Float}
use Rattle.text_bytes.specs.Bytes.{Bytes, is}
use Rattle.value_readings.specs.Reading.{number_of, whole_of, power_of, double_of}
use Rattle.mztab.specs.Shown.{Sought, shown, or_else}
use Rattle.mztab.specs.Readings.{Told}

-- `mztab_cell`: the number, where the view starts and how long it is; and that the bytes which stand there are the view
pub record CellAt (file : Bytes) (s : Sought) (number start size : ℕ) : Type 0 where
  pub says : number ≡ s.number
  pub from : start ≡ s.start
  pub long : size ≡ length s.view
  pub ends : start + size ≤ length file
  pub views : take size (drop start file) ≡ s.view

-- `mztab_cell_or`: the same, of the file or, where the cell is `null`, of the stand-in; and which of the two
pub record CellOrAt (file other : Bytes) (s : Sought) (number start size stood : ℕ) : Type 0 where
  pub says : number ≡ s.number
  pub stands : stood ≡ cond (is s.view "null") 1 0
  pub from : start ≡ cond (is s.view "null") 0 s.start
  pub long : size ≡ length (or_else other (shown s)).view
  pub ends : start + size ≤ length (cond (is s.view "null") other file)
  pub views : take size (drop start (cond (is s.view "null") other file)) ≡ (or_else other (shown s)).view

-- `mztab_reading`: the number, the case and what it carries, the line and the cell
pub record ReadAs (t : Told) (number case line cell : ℕ) (whole power : ℤ) (double : Float) : Type 0 where
  pub says : number ≡ t.number
  pub is : case ≡ number_of t.reading.value
  pub on : line ≡ t.reading.line
  pub at : cell ≡ t.reading.cell
  pub wholes : whole ≡ whole_of t.reading.value
  pub scaled : power ≡ power_of t.reading.value
  pub doubles : double ≡ double_of t.reading.value
