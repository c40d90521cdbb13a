-- `line_end::judge_ids` meets its contract. The loop's invariant: what was put, and what the ids left will put, is what all ids put. Assumes nothing.
use mathlib.Core.Path.{◌≡◌}
use mathlib.Core.List.{List}
use Prim.Native.Nat.{◌+◌, ◌-◌, ◌≤◌}
use lib.ListN.{length}
use Rattle.book.specs.Book.{up_from}
use Rattle.rules.specs.Breaks.{Break}
use Rattle.scan.specs.Places.{lent, put_all}
use Rattle.scan.specs.Machine.{marks}
use Rattle.line_end.specs.Ends.{id_breaks}
use Rattle.line_end.proofs.judge_ids.Given as goal

abbrev pub invariant-loop-i : goal.invariant-loop-i
invariant-loop-i l = (l.c ≤ l.count + l.i) × (length l.places ≡ length l.initial.places)
    × ((rest : List Break) → put_all (lent l.places l.c) (id_breaks l.d l.asked (marks l.slots) l.ids l.from l.line_no (up_from (64 - l.i) (l.i + 1)) rest) ≡ put_all (lent l.initial.places l.count) (id_breaks l.d l.asked (marks l.slots) l.ids l.from l.line_no (up_from 64 1) rest))
