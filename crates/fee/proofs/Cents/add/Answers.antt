-- `fee::Cents::add` meets its contract: both amounts are held to the limit before the sum is made, so it fits. Assumes nothing.
use mathlib.Core.Path.{◌≡◌, sym, ◌∙◌}
use mathlib.Core.Bool.{true}
use Prim.Native.Nat.{◌+◌}
use native.Mathlib.Omega.{arith}
use borrow.Author.Tests.{not-true, not-false, leb-true}
use lib.Dec.{leb}
use Rattle.fee_shares.specs.Refusals.{LIMIT}
use Rattle.fee.proofs.Laws.Calls.{sum_past, sum_within}
use Rattle.fee.proofs.Cents.add.Goals as goal

pub returns-then-not-within : goal.returns-then-not-within
returns-then-not-within c = sum_past c.args.self.0 c.args.other.0 (sym c.within.ensures ∙ not-true c.within.result c.if-not-within.true-raw)

pub overflow_add-result : goal.overflow_add-result
overflow_add-result c =
    let fits : leb (c.args.self.0 + c.args.other.0) LIMIT ≡ true = sym c.within.ensures ∙ not-false c.within.result c.if-not-within.false-raw in
    omega (arith, leb-true (c.args.self.0 + c.args.other.0) LIMIT fits)

pub returns : goal.returns
returns c =
    let fits : leb (c.args.self.0 + c.args.other.0) LIMIT ≡ true = sym c.within.ensures ∙ not-false c.within.result c.if-not-within.false-raw in
    sum_within c.args.self.0 c.args.other.0 fits
