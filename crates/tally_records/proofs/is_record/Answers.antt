-- `tally_records::is_record` meets its contract: the tests are those of the definition, in its order. Assumes nothing.
use native.Mathlib.Omega.{arith}
use Rattle.tally_records.proofs.Laws.Reading.{other_size, other_length, by_kind}
use Rattle.tally_records.proofs.is_record.Goals as goal

pub returns-then-bytes-ne-RECORD : goal.returns-then-bytes-ne-RECORD
returns-then-bytes-ne-RECORD c = other_size c.args.bytes.now (λ e. omega arith)

pub returns-then-get-ne-REST : goal.returns-then-get-ne-REST
returns-then-get-ne-REST c = other_length c.args.bytes.now (omega arith) c.get.ensures (λ e. omega arith)

pub returns : goal.returns
returns c = by_kind c.args.bytes.now (omega arith) c.get.ensures (omega arith) c.get-2.ensures
