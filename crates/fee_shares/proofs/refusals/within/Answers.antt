-- `fee_shares::refusals::within` meets its contract: of a sum past the limit, or of what the first amount leaves of it. Assumes nothing.
use mathlib.Core.Path.{sym}
use Prim.Native.Nat.{◌+◌}
use native.Mathlib.Omega.{arith}
use borrow.Author.Tests.{lt-leb}
use Rattle.fee_shares.specs.Refusals.{LIMIT}
use Rattle.fee_shares.proofs.Laws.Rounds.{room_left}
use Rattle.fee_shares.proofs.refusals.within.Goals as goal

pub returns-then-a-gt-LIMIT : goal.returns-then-a-gt-LIMIT
returns-then-a-gt-LIMIT c = sym (lt-leb (c.args.a + c.args.b) LIMIT (omega arith))

pub returns : goal.returns
returns c = room_left c.args.a c.args.b c.if-a-gt-LIMIT.false
