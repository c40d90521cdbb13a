-- `fee_shares::shares::ahead_of` meets its contract. The invariant: how many of those passed come before i. Assumes nothing.
use mathlib.Core.Path.{ap, ◌≡◌, refl, ◌∙◌}
use Prim.Native.Nat.{ℕ}
use native.Mathlib.Omega.{arith}
use lib.ListN.{length}
use Rattle.fee_shares.specs.Shares.{ahead}
use Rattle.fee_shares.specs.Sums.{sum_to, at}
use Rattle.fee_shares.proofs.Laws.Rounds.{ahead_next, bit_from, bit_low}
use Rattle.fee_shares.proofs.shares.ahead_of.Goals as goal

pub loop-j-init : goal.loop-j-init
unfolding sum_to
loop-j-init c = (refl, omega arith)

pub overflow_add-count : goal.overflow_add-count
overflow_add-count c = omega (arith, c.from-count.ensures, bit_low c.comes_before.result)

pub loop-j-preserved : goal.loop-j-preserved
loop-j-preserved c = (
  ahead_next c.args.rests.now c.args.i c.loop-j.j c.loop-j.count c.from-count.result c.comes_before.result (c.from-count.ensures ∙ bit_from c.comes_before.result) c.comes_before.ensures c.loop-j.invariant.0,
  omega (arith, c.from-count.ensures, bit_low c.comes_before.result),
)

pub returns : goal.returns
returns c =
    let e : c.loop-j.j ≡ length c.args.rests.now = omega arith in
    c.loop-j.invariant.0 ∙ ap (λ (j : ℕ). ahead j (at c.args.rests.now) c.args.i) e
