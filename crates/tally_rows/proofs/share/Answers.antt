-- `tally_rows::share` meets its contract: the test is that of the definition. Assumes nothing.
use Rattle.tally_rows.proofs.Laws.Adding.{share_same, share_other}
use Rattle.tally_rows.proofs.share.Goals as goal

pub returns-then-a-b : goal.returns-then-a-b
returns-then-a-b c = share_same c.args.a c.args.b c.args.n c.if-a-b.true

pub returns-else-a-b : goal.returns-else-a-b
returns-else-a-b c = share_other c.args.a c.args.b c.args.n c.if-a-b.false
