-- `scan::state::after_row` meets its contract: the definition has the same test. Assumes nothing.
use Rattle.scan.proofs.state.after_row.Goals as goal

pub returns-then-present-section : goal.returns-then-present-section
returns-then-present-section c = rw c.if-present-section.true

pub returns : goal.returns
returns c = rw c.if-present-section.false
