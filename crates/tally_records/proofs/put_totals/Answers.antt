-- `tally_records::put_totals` meets its contract. The invariant: the totals passed stand one behind the other. Assumes nothing.
use Rattle.std.proofs.Common.{◌∙◌, ap, length, arith}
use Rattle.tally_records.proofs.Laws.Writing.{totals_none, totals_next, totals_end}
use Rattle.tally_records.proofs.put_totals.Goals as goal

pub loop-i-init : goal.loop-i-init
loop-i-init c = totals_none c.args.buffer.now c.requires

pub loop-i-preserved : goal.loop-i-preserved
loop-i-preserved c = totals_next c.to_places-totals.result c.loop-i.i (ap length c.to_places-totals.ensures) (omega arith) c.loop-i.auto.buffer c.loop-i.invariant c.put.ensures

pub returns : goal.returns
returns c = totals_end c.args.tally c.loop-i.i (omega arith) c.to_places-totals.ensures c.loop-i.invariant
