-- `tally_records::write` meets its contract: the length of the rest, the kind and the totals stand one behind the other, and are the record. Assumes nothing.
use native.Mathlib.Omega.{arith}
use Rattle.tally_records.proofs.Laws.Writing.{write_short, write_whole}
use Rattle.tally_records.proofs.write.Goals as goal

pub returns-then-buffer-lt-RECORD : goal.returns-then-buffer-lt-RECORD
returns-then-buffer-lt-RECORD c = write_short c.args.tally c.args.buffer.now (omega arith)

pub returns : goal.returns
returns c = write_whole c.args.tally c.args.buffer.now (omega arith) c.put.ensures c.put-2.ensures c.put_totals.ensures
