-- `fee::split_places` meets its contract: what is known of a call that goes on, and the two ends. Assumes nothing.
use mathlib.Core.Path.{◌≡◌, refl, ap, sym}
use Prim.Native.Nat.{ℕ, ◌-◌}
use native.Mathlib.Omega.{arith}
use lib.ListN.{length}
use Rattle.std.proofs.lemmas.Result.{err_from_is_err_and}
use Rattle.fee.specs.Places.{plain}
use Rattle.fee_shares.specs.Steps.{Granted}
use Rattle.fee_shares.proofs.Laws.Refusals.{granted, refused_some}
use Rattle.fee.proofs.Laws.Calls.{refused, shared}
use Rattle.fee_shares.proofs.Laws.Halves.{floors_most}
use Rattle.fee.proofs.split_places.Goals as goal

pub returns-in_err-refusal_of : goal.returns-in_err-refusal_of
returns-in_err-refusal_of c =
    let p = err_from_is_err_and c.from_residual.result c.from_residual.ensures.1 in
    rw (p.1, p.2) (refused plain c.args.fee c.args.weights.now c.args.shares.now c.in_err-refusal_of.ensures (refused_some c.in_err-refusal_of.field-0.0))

pub total_of-all-requires : goal.total_of-all-requires
total_of-all-requires c = (granted c.args.fee c.args.weights.now (length c.args.shares.now) (sym c.in_ok-refusal_of.ensures)).0.few

pub divide-parts-requires : goal.divide-parts-requires
divide-parts-requires c =
    let known : Granted c.args.fee c.args.weights.now
    × (length c.args.shares.now ≡ length c.args.weights.now) = granted c.args.fee c.args.weights.now (length c.args.shares.now) (sym c.in_ok-refusal_of.ensures) in
    record { granted = known.0; all_value = c.total_of-all.ensures }

pub overflow_sub-over : goal.overflow_sub-over
overflow_sub-over c =
    let known : Granted c.args.fee c.args.weights.now
    × (length c.args.shares.now ≡ length c.args.weights.now) = granted c.args.fee c.args.weights.now (length c.args.shares.now) (sym c.in_ok-refusal_of.ensures) in
    omega (arith, c.divide-parts.ensures.given, floors_most c.args.fee c.args.weights.now known.0.some (length c.args.weights.now) (omega arith))

pub write_shares-requires : goal.write_shares-requires
write_shares-requires c =
    let known : Granted c.args.fee c.args.weights.now
    × (length c.args.shares.now ≡ length c.args.weights.now) = granted c.args.fee c.args.weights.now (length c.args.shares.now) (sym c.in_ok-refusal_of.ensures) in
    record {
      granted = known.0;
      all_value = c.total_of-all.ensures;
      rests = c.divide-parts.ensures.rests;
      over_value = ap (λ (g : ℕ). c.args.fee - g) c.divide-parts.ensures.given;
      shares_len = known.1;
    }

pub returns : goal.returns
returns c = shared plain c.args.fee c.args.weights.now c.args.shares.now c.in_ok-refusal_of.ensures refl c.write_shares.ensures
