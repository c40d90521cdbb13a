-- `scan::places::put_first` meets its contract: a break is counted in any case, and written where its four places are there. Assumes nothing.
use Prim.Native.Nat.{◌+◌, ◌*◌}
use native.Mathlib.Omega.{arith}
use borrow.Author.Tests.{le-leb, lt-leb, not-true, not-false}
use lib.ListN.{length, length-set}
use mathlib.Core.Path.{◌≡◌, sym, ap}
use Prim.Native.Nat.{ℕ, ◌≤◌, ◌<◌}
use mathlib.Core.List.{List}
use Rattle.rules.specs.Breaks.{Break}
use Rattle.scan.specs.Places.{Lent, lent, four, put, put_all}
use Rattle.scan.proofs.places.put_first.Goals as goal

-- a break whose four places are there is written, and one whose are not is counted
put_written : (ys : List ℕ) (k : ℕ) (b : Break) → 4 * k + 4 ≤ length ys → put (lent ys k) b ≡ lent (four ys (4 * k) b) (k + 1)
unfolding put
put_written ys k b h = rw (le-leb (4 * k + 4) (length ys) h)

put_counted : (ys : List ℕ) (k : ℕ) (b : Break) → length ys < 4 * k + 4 → put (lent ys k) b ≡ lent ys (k + 1)
unfolding put
put_counted ys k b h = rw (lt-leb (4 * k + 4) (length ys) h)

pub returns-then-not-yes : goal.returns-then-not-yes
unfolding put_all
returns-then-not-yes c = record { does = λ rest. rw (not-true c.args.yes c.if-not-yes.true-raw); most = omega arith }

pub bounds-places-at-then-at-places : goal.bounds-places-at-then-at-places
bounds-places-at-then-at-places c = simp length-set (omega arith)

pub bounds-places-at-then-at-places-2 : goal.bounds-places-at-then-at-places-2
bounds-places-at-then-at-places-2 c = simp length-set (omega arith)

pub bounds-places-at-then-at-places-3 : goal.bounds-places-at-then-at-places-3
bounds-places-at-then-at-places-3 c = simp length-set (omega arith)

pub returns-then-at-places : goal.returns-then-at-places
unfolding put_all
returns-then-at-places c = record { does = λ rest. rw (not-false c.args.yes c.if-not-yes.false-raw) (ap (λ (o : Lent). put_all o rest) (sym (put_written c.args.places.now c.args.count _ c.if-at-places.true))); most = omega arith }

pub returns : goal.returns
unfolding put_all
returns c = record { does = λ rest. rw (not-false c.args.yes c.if-not-yes.false-raw) (ap (λ (o : Lent). put_all o rest) (sym (put_counted c.args.places.now c.args.count _ (omega arith)))); most = omega arith }
