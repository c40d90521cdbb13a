-- `book_fits::ended` meets its contract: a pattern that has ended fits where the name has ended too, and misses where there was a flaw. Assumes nothing.
use mathlib.Core.Path.{sym}
use Rattle.book_names.proofs.Laws.Flaws.{marked_differs}
use Rattle.book_names.proofs.Laws.Turns.{ended_long, ended_here}
use Rattle.book_fits.proofs.ended.Goals as goal

pub returns-then-b-s : goal.returns-then-b-s
returns-then-b-s c = rw (ended_long c.args.s.now c.args.b c.args.i c.args.j c.if-b-s.true) (sym (marked_differs c.args.flaw))

pub returns-in-Form : goal.returns-in-Form
returns-in-Form c = rw (c.in-Form.is, ended_here c.args.s.now c.args.b c.args.i c.args.j c.if-b-s.false)

pub returns-in-Zero : goal.returns-in-Zero
returns-in-Zero c = rw (c.in-Zero.is, ended_here c.args.s.now c.args.b c.args.i c.args.j c.if-b-s.false)

pub returns-in-Over : goal.returns-in-Over
returns-in-Over c = rw (c.in-Over.is, ended_here c.args.s.now c.args.b c.args.i c.args.j c.if-b-s.false)
