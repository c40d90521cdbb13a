-- `book_ids::any_marked` meets its contract: the slots of the part are those from the one up to the other. Assumes nothing.
use mathlib.Core.Path.{◌∙◌}
use Prim.Native.Nat.{◌-◌}
use native.Mathlib.Omega.{arith}
use Rattle.book_ids.specs.Ids.{is_marked}
use Rattle.book_ids.proofs.Laws.Flagging.{part_marked}
use Rattle.book_ids.proofs.any_marked.Goals as goal

pub returns : goal.returns
unfolding is_marked
returns c = c.contains.ensures.value ∙ part_marked c.args.slots.now (c.args.to - c.args.from) c.args.from (omega arith)
