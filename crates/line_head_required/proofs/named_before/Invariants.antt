-- `line_head_required::named_before` meets its contract. The loop's invariant: the cells that are left decide. Assumes nothing.
use mathlib.Core.Path.{◌≡◌}
use Prim.Native.Nat.{◌-◌, ◌≤◌}
use lib.ListN.{length, take, drop}
use Rattle.text_bytes.specs.Bytes.{any, same}
use Rattle.text.specs.Lines.{cells}
use Rattle.line_head_required.proofs.named_before.Given as goal

abbrev pub invariant-loop : goal.invariant-loop
invariant-loop l = (l.at ≤ length l.line) × (any (same l.name) (take l.count (cells (drop l.from l.line))) ≡ any (same l.name) (take (l.count - l.counter) (cells (drop l.at l.line))))
