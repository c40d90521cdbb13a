-- `line_head_stamps::hash` meets its contract. The loop's invariant: the hash so far and the bytes that are left give the whole. Assumes nothing.
use mathlib.Core.Path.{sym, ap, ◌∙◌}
use Prim.Native.Nat.{ℕ, ◌+◌, ◌*◌, ◌%◌}
use native.Mathlib.Nat.{mod-lt}
use native.Mathlib.Omega.{arith}
use borrow.Author.Rules.{rules}
use Rattle.line_head_stamps.specs.Stamps.{DOORS, hash_of}
use Rattle.line_head_stamps.proofs.Laws.Asking.{hash_next, hash_end}
use Rattle.line_head_stamps.proofs.hash.Goals as goal

pub loop-x-preserved : goal.loop-x-preserved
loop-x-preserved c = (
  mod-lt (c.loop-x.h * 33 + c.from.result) (omega arith),
  c.loop-x.invariant.1 ∙ hash_next c.args.name.now c.loop-x.x-index c.loop-x.h (search rules) ∙ rw c.from.ensures,
)

pub returns : goal.returns
unfolding hash_of
returns c = ap (λ (h : ℕ). h % DOORS) (sym (c.loop-x.invariant.1 ∙ hash_end c.args.name.now c.loop-x.x-index c.loop-x.h (omega arith)))
