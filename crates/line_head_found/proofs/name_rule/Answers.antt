-- `line_head_found::name_rule` meets its contract: an unknown name has a flaw or none, and a known one names an undeclared id or none. Assumes nothing.
use mathlib.Core.Path.{ap, ◌∙◌}
use mathlib.Core.Bool.{Bool, cond}
use Rattle.line_head_found.proofs.name_rule.Goals as goal

pub returns-in-Err : goal.returns-in-Err
returns-in-Err c = rw c.in-Err.is c.flaw_rule.ensures

pub returns-in-Ok : goal.returns-in-Ok
returns-in-Ok c = rw c.in-Ok.is (c.rule_if.ensures ∙ ap (λ (t : Bool). cond t 15 0) (rw c.in-Ok.is at c.undeclared.ensures))
