-- `line_head_stamps::code_at` meets its contract: a place is before the end or past it. Assumes nothing.
use mathlib.Core.Path.{ap, ◌∙◌}
use Prim.Native.Nat.{ℕ, ◌+◌}
use native.Mathlib.Omega.{arith}
use Rattle.line_head_stamps.proofs.Laws.Asking.{code_read, code_none}
use Rattle.line_head_stamps.proofs.code_at.Goals as goal

pub returns-in-Some : goal.returns-in-Some
returns-in-Some c = (ap (λ (b : ℕ). b + 1) c.from.ensures ∙ code_read c.args.name.now c.args.place c.in-Some.x (c.in-Some.ensures {u = tt}).lookup, omega arith)

pub returns-in-None : goal.returns-in-None
returns-in-None c = (code_none c.args.name.now c.args.place (c.in-None.ensures {u = tt}).lookup, omega arith)
