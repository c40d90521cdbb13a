-- `tally_records::put` meets its contract. The invariant: the bytes that are there, and what is left of the number behind them, are what is promised. Assumes
-- nothing.
use Rattle.std.proofs.Common.{◌≡◌, ◌-◌, refl, ◌∙◌, arith}
use Rattle.std.proofs.Math.ListN.{length-set}
use lib.ListN.{length}
use Rattle.tally_records.proofs.Laws.Little.{little_next, little_done}
use Rattle.tally_records.proofs.put.Goals as goal

pub loop-place-init : goal.loop-place-init
loop-place-init c = let z : length c.args.places.now - 0 ≡ length c.args.places.now = omega arith in (refl, rw z)

pub loop-place-preserved : goal.loop-place-preserved
loop-place-preserved c = (
  length-set c.loop-place.places c.loop-place.place-index c.low.result ∙ c.loop-place.invariant.0,
  rw c.low.ensures (little_next c.loop-place.place-index (length c.args.places.now) c.loop-place.left c.loop-place.places (omega arith) (omega arith) ∙ c.loop-place.invariant.1),
)

pub returns : goal.returns
returns c = little_done c.loop-place.place-index (length c.args.places.now) c.loop-place.left c.loop-place.places (omega arith) (omega arith) ∙ c.loop-place.invariant.1
