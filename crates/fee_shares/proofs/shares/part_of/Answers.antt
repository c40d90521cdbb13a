-- `fee_shares::shares::part_of` meets its contract: the product fits 64 bits, so its quotient and remainder are those of the definition. Assumes nothing.
use mathlib.Core.Path.{refl}
use Prim.Native.Nat.{◌*◌, ◌^◌, ◌<◌}
use native.Mathlib.Omega.{arith}
use Rattle.fee_shares.proofs.Laws.Rounds.{product_fits}
use Rattle.fee_shares.proofs.shares.part_of.Goals as goal

pub overflow_mul-whole : goal.overflow_mul-whole
overflow_mul-whole c =
    let fits : c.args.fee * c.from.result < 2 ^ 63 = rw c.from.ensures (product_fits c.args.fee c.args.weight c.requires.0 c.requires.1.0) in
    record { fits = omega (arith, fits) }

pub down-requires : goal.down-requires
down-requires c =
    let fits : c.args.fee * c.from.result < 2 ^ 63 = rw c.from.ensures (product_fits c.args.fee c.args.weight c.requires.0 c.requires.1.0) in
    (fits, c.requires.1.1)

pub returns : goal.returns
returns c = rw (← c.from.ensures) (c.down.ensures, refl)
