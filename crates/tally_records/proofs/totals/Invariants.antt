-- `tally_records::totals` meets its contract. The invariant: the totals passed are those of the definition. Assumes nothing.
use Rattle.std.proofs.Common.{◌≡◌, ℕ, ◌<◌, length, get_or}
use Rattle.tally_records.specs.Records.{eights_from}
use Rattle.tally_records.proofs.totals.Given as goal

abbrev pub invariant-loop-i : goal.invariant-loop-i
invariant-loop-i l = (length l.total-items ≡ 8) × ((k : ℕ) → k < l.i → get_or l.total-items k 0 ≡ get_or (eights_from 8 6 l.bytes) k 0)
