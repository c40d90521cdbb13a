-- `line_meta_keys::first_of` meets its contract: the test of the code is that of the definition. Assumes nothing.
use mathlib.Core.Path.{sym, ◌∙◌}
use Rattle.line_meta_keys.proofs.first_of.Goals as goal

pub returns-then-is_colunit : goal.returns-then-is_colunit
returns-then-is_colunit c = rw (sym c.is_colunit.ensures ∙ c.if-is_colunit.true)

pub returns-else-is_colunit : goal.returns-else-is_colunit
returns-else-is_colunit c = rw (sym c.is_colunit.ensures ∙ c.if-is_colunit.false)
