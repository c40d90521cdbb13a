-- `tally_records::get` meets its contract. The invariant: n is the number in the bytes that were passed, the last of all, and fits in as many bytes. Assumes nothing.
use Rattle.std.proofs.Common.{◌≡◌, ◌-◌, ◌+◌, length, ℕ}
use Rattle.tally_records.proofs.Laws.Little.{Reads}
use Rattle.tally_records.proofs.get.Given as goal

abbrev pub invariant-loop-byte : goal.invariant-loop-byte
invariant-loop-byte l = Reads l.bytes (length l.bytes - length l.yielded) l.n
