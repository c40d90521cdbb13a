-- `test_book::push` meets its contract: it writes where there is room, and answers a place within the list. Assumes nothing.
use native.Mathlib.Omega.{arith}
use lib.ListN.{length-set}
use borrow.Author.Rules.{rules}
use Rattle.test_book.proofs.push.Goals as goal

pub bounds-out-at : goal.bounds-out-at
bounds-out-at c = search rules

pub overflow_add-result : goal.overflow_add-result
overflow_add-result c = search rules

pub returns-then-at-out : goal.returns-then-at-out
returns-then-at-out c = omega (arith, length-set c.args.out.now c.args.at c.args.b)

pub returns : goal.returns
returns c = search rules
