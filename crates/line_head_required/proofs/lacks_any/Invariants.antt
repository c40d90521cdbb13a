-- `line_head_required::lacks_any` meets its contract. The loop's invariant: the wanted columns that are left decide, and each has its letter. Assumes nothing.
use mathlib.Core.Path.{◌≡◌}
use mathlib.Core.Bool.{Bool, true}
use Prim.Native.Nat.{ℕ, ◌-◌, ◌≤◌}
use lib.ListN.{length, take, drop}
use Rattle.text_bytes.specs.Bytes.{Bytes, all}
use Rattle.text.specs.Lines.{cells}
use Rattle.book_facts.specs.Asked.{asked_by}
use Rattle.book_facts.specs.declared.Asking.{Asking}
use Rattle.rules.specs.Rules.{has_column}
use Rattle.line_head_required.specs.Wanted.{is_line}
use Rattle.line_head_required.proofs.lacks_any.Given as goal

-- a wanted column is not asked, or stands in the header
abbrev pub has : Asking → Bytes → ℕ → Bytes → Bool
has asking line from = has_column (asked_by asking) (take 255 (cells (drop from line)))

abbrev pub invariant-loop-asking : goal.invariant-loop-asking
invariant-loop-asking l = (l.at ≤ length l.wanted) × (all is_line (cells (drop l.at l.wanted)) ≡ true) × (all (has l.asking l.line l.from) (cells l.wanted) ≡ all (has l.asking l.line l.from) (cells (drop l.at l.wanted)))

abbrev pub decreases-loop-asking : goal.decreases-loop-asking
decreases-loop-asking l = length l.wanted - l.at
