-- `book_text::link_tables`. The invariant: the links of the first k tables are written, and what stands in front of them is kept. Assumes nothing.
use Prim.Native.Nat.{◌-◌}
use Rattle.book_laid.proofs.Laws.Laying.{Midway}
use Rattle.book_text.proofs.link_tables.Given as goal

abbrev pub invariant-loop-k : goal.invariant-loop-k
invariant-loop-k l = Midway l.text l.k
