-- `fee_shares::shares::write_shares` meets its contract. The invariant: the places passed hold their shares. Assumes nothing.
use mathlib.Core.Path.{◌≡◌, refl, sym, ap, ◌∙◌}
use Prim.Native.Nat.{◌+◌, ℕ}
use native.Mathlib.Omega.{arith}
use lib.Dec.{ltb}
use lib.ListN.{length, length-set}
use lib.Seq.{take_all}
use Rattle.fee_shares.specs.Shares.{share}
use Rattle.fee_shares.specs.Sums.{list_to}
use Rattle.fee_shares.proofs.Laws.Rounds.{list_next, floor_at, floor_small, rests_taken, ahead_taken, share_at_lem, bit_from, bit_low}
use Rattle.fee_shares.proofs.shares.write_shares.Goals as goal

pub slice_bounds-rests-end : goal.slice_bounds-rests-end
slice_bounds-rests-end c = sym (rests_taken c.requires.granted c.requires.rests)

pub loop-i-init : goal.loop-i-init
unfolding list_to
loop-i-init c = (c.requires.shares_len, refl)

pub part_of-part-requires : goal.part_of-part-requires
part_of-part-requires c = (c.requires.granted.small, (c.requires.granted.light c.loop-i.i, omega (arith, c.requires.granted.some, c.requires.all_value)))

pub ahead_of-count-requires : goal.ahead_of-count-requires
ahead_of-count-requires c = omega (arith, rests_taken c.requires.granted c.requires.rests, c.requires.shares_len)

pub overflow_add-share : goal.overflow_add-share
overflow_add-share c = omega (arith, floor_small c.requires.granted c.requires.all_value c.loop-i.i c.part_of-part.ensures.0, c.from.ensures, bit_low (ltb c.ahead_of-count.result c.args.over))

pub loop-i-preserved : goal.loop-i-preserved
loop-i-preserved c =
    let v = c.part_of-part.result.cents + c.from.result in (
      length-set c.loop-i.shares c.loop-i.i v ∙ c.loop-i.invariant.0,
      list_next c.loop-i.i (share c.args.fee c.args.weights.now) c.loop-i.shares v (omega arith) c.loop-i.invariant.1
          (share_at_lem c.requires.rests c.loop-i.i (omega (arith, c.requires.shares_len)) (floor_at c.requires.granted c.requires.all_value c.loop-i.i c.part_of-part.ensures.0)
          (c.ahead_of-count.ensures ∙ ahead_taken c.requires.granted c.requires.rests c.loop-i.i (omega (arith, c.requires.shares_len)))
          c.requires.over_value (c.from.ensures ∙ bit_from (ltb c.ahead_of-count.result c.args.over))),
    )

pub returns : goal.returns
returns c =
    let e : c.loop-i.i ≡ length c.args.weights.now = omega arith in
    sym (take_all c.loop-i.i c.loop-i.shares (omega arith)) ∙ c.loop-i.invariant.1 ∙ ap (λ (i : ℕ). list_to i (share c.args.fee c.args.weights.now)) e
