-- `tally_records::read` meets its contract: bytes that are a record are 70, and the tally is that of its totals. Assumes nothing.
use mathlib.Core.Path.{sym, ap, ◌∙◌}
use borrow.Author.Tests.{not-true, not-false}
use Rattle.tally.specs.Tally.{tally_of, outcome as told}
use Rattle.tally_records.proofs.Laws.Reading.{record_head, read_none, read_totals}
use Rattle.tally_records.proofs.read.Goals as goal

pub returns-then-not-is_record : goal.returns-then-not-is_record
returns-then-not-is_record c = read_none c.args.bytes.now (sym c.is_record.ensures ∙ not-true _ c.if-not-is_record.true-raw)

pub totals-requires : goal.totals-requires
totals-requires c = (record_head c.args.bytes.now (sym c.is_record.ensures ∙ not-false _ c.if-not-is_record.false-raw)).size

pub returns : goal.returns
returns c = read_totals c.args.bytes.now (sym c.is_record.ensures ∙ not-false _ c.if-not-is_record.false-raw) c.totals.ensures c.from_places.ensures
