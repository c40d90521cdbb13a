-- `value_readings::ten_to` meets its contract: a cast up to ten to the 15th, and above it the product of two, are computed and compared with ten to each power. Assumes nothing.
use Prim.Native.Nat.{◌-◌}
use native.Mathlib.Omega.{arith}
use Rattle.value_readings.proofs.Laws.Numbers.{ten_le}
use Rattle.value_readings.proofs.Laws.Tens.{cast_ten, tens_product}
use Rattle.value_readings.proofs.ten_to.Goals as goal

pub pow-requires : goal.pow-requires
pow-requires c = omega (arith, ten_le c.args.p (omega arith))

pub exact-requires : goal.exact-requires
exact-requires c = omega (arith, ten_le c.args.p (omega arith))

pub returns-then-p-le-CAST : goal.returns-then-p-le-CAST
returns-then-p-le-CAST c = cast_ten c.exact.result c.pow.result c.args.p c.exact.ensures c.pow.ensures (omega arith)

pub pow-requires-3 : goal.pow-requires-3
pow-requires-3 c = omega (arith, ten_le (c.args.p - 15) (omega arith))

pub exact-requires-3 : goal.exact-requires-3
exact-requires-3 c = omega (arith, ten_le (c.args.p - 15) (omega arith))

pub returns : goal.returns
returns c =
    tens_product c.exact-2.result c.exact-3.result c.args.p
    (cast_ten c.exact-2.result c.pow-2.result 15 c.exact-2.ensures c.pow-2.ensures (omega arith))
    (cast_ten c.exact-3.result c.pow-3.result (c.args.p - 15) c.exact-3.ensures c.pow-3.ensures (omega arith))
    (omega arith)
    (omega arith)
