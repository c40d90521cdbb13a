-- `tally_records::put_totals` meets its contract. The invariant: the totals passed stand one behind the other. Assumes nothing.
use Rattle.std.proofs.Common.{take}
use Rattle.tally_records.proofs.Laws.Writing.{Totals}
use Rattle.tally_records.proofs.put_totals.Given as goal

abbrev pub invariant-loop-i : goal.invariant-loop-i
invariant-loop-i l = Totals (take l.i l.total-items) l.initial.buffer l.buffer
