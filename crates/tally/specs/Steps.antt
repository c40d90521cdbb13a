-- What `sum` leaves for `add`. No public contract cites this file. Assumes nothing.
use Rattle.std.specs.Prelude.{◌≡◌, true, false, Option, None, Some}
use Rattle.text_bytes.specs.Bytes.{any}
use Rattle.tally.specs.Tally.{totals, is_past, sums}
use Rattle.tally.specs.declared.Tally.{Tally}

-- the eight sums; none where any of them passes 64 bits
abbrev pub Summed : Tally → Tally → Option Tally → Type 0
Summed a b None = any is_past (sums (totals a) (totals b)) ≡ true
Summed a b (Some t) = (any is_past (sums (totals a) (totals b)) ≡ false) × (totals t ≡ sums (totals a) (totals b))
