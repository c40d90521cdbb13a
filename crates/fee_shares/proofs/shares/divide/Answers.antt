-- `fee_shares::shares::divide` meets its contract. The invariant: the remainders and the cents given out, of the weights passed. Assumes nothing.
use mathlib.Core.Path.{ap, ◌≡◌, refl, ◌∙◌}
use Prim.Native.Nat.{ℕ, ◌-◌}
use native.Mathlib.Omega.{arith}
use lib.ListN.{length-set, length}
use Rattle.fee_shares.specs.Shares.{floor, rest}
use Rattle.fee_shares.specs.Sums.{sum_to}
use Rattle.fee_shares.proofs.Laws.Rounds.{places_next, rest_at, floors_next, floors_fit}
use Rattle.fee_shares.proofs.shares.divide.Goals as goal

pub loop-i-init : goal.loop-i-init
unfolding sum_to
loop-i-init c = (refl, λ k h. absurd (omega arith), refl)

pub part_of-part-requires : goal.part_of-part-requires
part_of-part-requires c = (c.requires.granted.small, (c.requires.granted.light c.loop-i.i, omega (arith, c.requires.granted.some, c.requires.all_value)))

pub overflow_add-given : goal.overflow_add-given
overflow_add-given c = omega (arith, floors_fit c.requires.granted c.requires.all_value c.loop-i.i (omega arith) c.loop-i.invariant.2 c.part_of-part.ensures.0)

pub loop-i-preserved : goal.loop-i-preserved
loop-i-preserved c = (
  length-set c.loop-i.rests c.loop-i.i c.part_of-part.result.rest ∙ c.loop-i.invariant.0,
  places_next c.loop-i.i (rest c.args.fee c.args.weights.now) c.loop-i.rests c.part_of-part.result.rest (omega (arith, c.requires.granted.few)) c.loop-i.invariant.1
      (rest_at c.requires.granted c.requires.all_value c.loop-i.i c.part_of-part.ensures.1),
  floors_next c.requires.granted c.requires.all_value c.loop-i.i (omega arith) c.loop-i.invariant.2 c.part_of-part.ensures.0,
)

pub returns : goal.returns
returns c =
    let e : c.loop-i.i ≡ length c.args.weights.now = omega arith in
    record {
      rests = record { long = c.loop-i.invariant.0; rests = λ k h. c.loop-i.invariant.1 k (omega arith) };
      given = c.loop-i.invariant.2 ∙ ap (λ (i : ℕ). sum_to i (floor c.args.fee c.args.weights.now)) e;
    }
