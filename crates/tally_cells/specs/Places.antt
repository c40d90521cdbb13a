-- What the search for counts promises of places in a line. No public contract cites this file. Assumes nothing.
use Rattle.std.specs.Prelude.{ℕ, ◌+◌, ◌≤◌, ◌<◌, ◌^◌, ◌≡◌, true, false, length, get_or}
use Rattle.text_bytes.specs.Bytes.{Bytes, all}
use Rattle.text_bytes.specs.Places.{part, Ends}
use Rattle.text.specs.Lines.{TAB}
use Rattle.value_references.specs.Index.{is_digit, number}
use Rattle.values.specs.Values.{is_null}
use Rattle.fee_shares.specs.Sums.{bit}
use Rattle.tally_cells.specs.Counts.{count_of, is_below}
use Rattle.tally_cells.specs.declared.Digits.{Digits}
use Rattle.tally_cells.specs.declared.Counted.{Counted}

-- a whole has at most nine digits
abbrev pub MOST : ℕ
MOST = 9

-- from a place on stand these digits, nine at most; where there are fewer, no digit follows them
pub record Writes (s : Bytes) (from : ℕ) (d : Digits) : Type 0 where
  pub starts : from ≤ d.end
  pub within : d.end ≤ length s
  pub few : d.end ≤ from + MOST
  pub digits : all is_digit (part from d.end s) ≡ true
  pub is : d.number ≡ number 0 (part from d.end s)
  pub small : d.number < 10 ^ MOST
  pub ends : d.end < length s → d.end < from + MOST → is_digit (get_or s d.end 0) ≡ false

-- what the cell that begins at a place counts, and where it ends
pub record Counts (line : Bytes) (at : ℕ) (c : Counted) : Type 0 where
  pub ends : Ends TAB line at c.end
  pub count : c.count ≡ count_of (part at c.end line)
  pub missing : c.missing ≡ bit (is_null (part at c.end line))
  pub below : c.below ≡ bit (is_below (part at c.end line))
  pub small : c.count < 10 ^ MOST
