-- `line_head_kinds::learn_kinds` meets its contract. The invariant: the kinds of the names so far are kept, and the cells after the current one are those that
-- are left. Assumes nothing.
use mathlib.Core.Path.{◌≡◌}
use mathlib.Core.List.{[]}
use Prim.Native.Nat.{◌+◌, ◌≤◌, ◌<◌}
use lib.ListN.{length, drop}
use Rattle.text.specs.Lines.{cells}
use Rattle.book.specs.Text.{book_in}
use Rattle.line_head_kinds.proofs.Laws.Kinds.{KindsTo}
use Rattle.line_head_kinds.proofs.learn_kinds.Given as goal

abbrev pub invariant-loop-c : goal.invariant-loop-c
invariant-loop-c l = (l.end ≤ length l.line) × (1 ≤ l.c) × (l.width ≤ 256) × (length l.kinds ≡ 256) × (l.end < length l.line → drop l.c (cells l.line) ≡ cells (drop (l.end + 1) l.line)) × (l.end ≡ length l.line → drop l.c (cells l.line) ≡ [])
    × KindsTo (book_in l.book) l.section (l.c + 1) (drop 1 (cells l.line)) l.kinds
