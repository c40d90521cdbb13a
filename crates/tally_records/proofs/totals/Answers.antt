-- `tally_records::totals` meets its contract. The invariant: the totals passed are those of the definition. Assumes nothing.
use Rattle.std.proofs.Common.{◌+◌, ◌-◌, ◌*◌, ◌<◌, ◌∙◌, sym, length, drop, arith}
use Rattle.std.proofs.Math.ListN.{length-set, length-drop}
use lib.Seq.{ext_get_or, length-take-le}
use Rattle.tally_records.specs.Records.{eights_from}
use Rattle.tally_records.proofs.Laws.Eights.{eights_at, eights_length, eights_next}
use Rattle.tally_records.proofs.totals.Goals as goal

pub get-requires : goal.get-requires
get-requires c =
    let at = 6 + 8 * c.loop-i.i in
    omega (arith, length-take-le (at + 8 - at) (drop at c.args.bytes.now) (omega (arith, length-drop at c.args.bytes.now)))

pub loop-i-preserved : goal.loop-i-preserved
loop-i-preserved c = (
  length-set c.loop-i.total-items c.loop-i.i c.get.result ∙ c.loop-i.invariant.0,
  eights_next c.loop-i.total-items (eights_from 8 6 c.args.bytes.now) c.loop-i.i (omega (arith, c.loop-i.invariant.0)) (c.get.ensures ∙ sym (eights_at 8 6 c.loop-i.i c.args.bytes.now (omega arith))) c.loop-i.invariant.1,
)

pub returns : goal.returns
returns c =
    ext_get_or 0 c.loop-i.total-items (eights_from 8 6 c.args.bytes.now) (c.loop-i.invariant.0 ∙ sym (eights_length 8 6 c.args.bytes.now))
    (λ k h. c.loop-i.invariant.1 k (omega (arith, c.loop-i.invariant.0)))
