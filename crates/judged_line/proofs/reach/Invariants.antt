-- `judged_line::reach` meets its contract. The invariant: what is worked out stands for the lines above line n, and the nearest header among them begins at
-- `head`. Assumes nothing.
use mathlib.Core.Path.{◌≡◌}
use Prim.Native.Nat.{◌-◌}
use lib.ListN.{length}
use Rattle.text.specs.Lines.{lines}
use Rattle.book.specs.Text.{book_in}
use Rattle.book_facts.specs.Asked.{AskingOf}
use Rattle.scan.specs.Machine.{FIRSTS}
use Rattle.judged_line.specs.Passing.{Reaches, Headed}
use Rattle.judged_line.proofs.reach.Given as goal

abbrev pub invariant-loop-n : goal.invariant-loop-n
invariant-loop-n l = record {
  reaches : Reaches (book_in l.book) l.file l.at (l.n - 1) l.state l.slots;
  headed : Headed (book_in l.book) l.file (l.n - 1) l.head l.state;
  keys : length l.slots ≡ FIRSTS;
  asking : AskingOf (book_in l.book) (lines l.file) l.state.asking;
}
