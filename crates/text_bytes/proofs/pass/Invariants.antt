-- `text_bytes::pass` meets its contract. The invariant: what the blocks left begin with is what follows i, and the first b from `from` on is the first from i on.
-- Assumes nothing.
use mathlib.Core.Path.{◌≡◌}
use Prim.Native.Nat.{◌+◌, ◌≤◌}
use lib.ListN.{length, drop}
use Rattle.std.specs.Slice.Iter.{chunks_exact_rest, chunks_exact_size}
use Rattle.text_bytes.specs.Places.{up_to}
use Rattle.text_bytes.proofs.pass.Given as goal

abbrev pub invariant-loop-block : goal.invariant-loop-block
invariant-loop-block l =
    (chunks_exact_size l.block-iterator ≡ 16) × (chunks_exact_rest l.block-iterator ≡ drop l.i l.s)
    × (l.from ≤ l.i) × (l.i ≤ length l.s) × (l.from + up_to l.b (drop l.from l.s) ≡ l.i + up_to l.b (drop l.i l.s))
