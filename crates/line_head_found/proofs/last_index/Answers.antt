-- `line_head_found::last_index` meets its contract: the index is the second where there is one, and else the first. Assumes nothing.
use borrow.Author.Tests.{eq-eqb, ne_eqb}
use Rattle.line_head_found.proofs.last_index.Goals as goal

pub returns-then-j-eq0 : goal.returns-then-j-eq0
returns-then-j-eq0 c = rw (eq-eqb _ _ c.if-j-eq0.true)

pub returns-else-j-eq0 : goal.returns-else-j-eq0
returns-else-j-eq0 c = rw (ne_eqb _ _ c.if-j-eq0.false)
