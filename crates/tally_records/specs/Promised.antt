-- What `write` and `read` promise of a tally, a lent buffer and lent bytes. Assumes nothing.
use Rattle.std.specs.Prelude.{◌≡◌, ℕ, ◌≤◌, ◌<◌, length, get_or, take}
use Rattle.text_bytes.specs.Bytes.{Bytes}
use Rattle.tally.specs.declared.Tally.{Tally}
use Rattle.tally_records.specs.Records.{RECORD, record_of}

-- what a lent slice holds: each is below 256
abbrev pub AreBytes : Bytes → Type 0
AreBytes bs = (i : ℕ) → get_or bs i 0 < 256

-- of a record that has room: n is the number, k the answer, ys the lent buffer before and xs after
pub record Granted (t : Tally) (ys : Bytes) (n k : ℕ) (xs : Bytes) : Type 0 where
  pub number : n ≡ 0
  pub answer : k ≡ RECORD
  pub front : take RECORD xs ≡ record_of t
  pub long : length xs ≡ length ys
  pub behind : (i : ℕ) → RECORD ≤ i → get_or xs i 0 ≡ get_or ys i 0
