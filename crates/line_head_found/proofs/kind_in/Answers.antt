-- `line_head_found::kind_in` meets its contract: the two cases of the definition. Assumes nothing.
use mathlib.Core.Path.{sym, ap}
use Rattle.rules.specs.Rules.{kind_in}
use Rattle.line_head_found.proofs.kind_in.Goals as goal

pub returns-in-Ok : goal.returns-in-Ok
returns-in-Ok c = sym (ap kind_in c.in-Ok.is)
