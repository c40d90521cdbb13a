-- `book_lookup::extent`: what the bytes passed count, and those left, make the whole. Assumes nothing.
use native.Mathlib.Omega.{arith}
use mathlib.Core.Path.{◌≡◌}
use mathlib.Core.List.{List}
use Prim.Native.Nat.{ℕ, ◌+◌, ◌≤◌, ◌<◌}
use lib.ListN.{length}
use Rattle.book_names.proofs.Laws.Lengths.{turn_extent, turn_within, close_most, last_extent}
use Rattle.book_lookup.proofs.extent.Goals as goal

below : (a b : ℕ) → a ≤ b → (a ≡ b → ⊥) → a < b
below a b h n = omega arith

pub returns-then-bracket-name : goal.returns-then-bracket-name
returns-then-bracket-name c =
    let name : List ℕ = c.args.name.now in
    omega (arith, c.loop-at.invariant.2, last_extent name c.loop-at.at c.seek-bracket.result c.seek-bracket.ensures c.if-bracket-name.true)

pub loop-at-preserved : goal.loop-at-preserved
loop-at-preserved c =
    let name : List ℕ = c.args.name.now in
    let stands : c.seek-bracket.result < length name = below _ _ c.seek-bracket.ensures.within c.if-bracket-name.false in
    let within : (c.digits_end-end.result + c.closing-close.result ≤ length name) × (c.closing-close.result ≤ 1) = (
      turn_within name c.loop-at.at c.seek-bracket.result c.digits_end-end.result c.closing-close.result c.seek-bracket.ensures stands c.digits_end-end.ensures c.closing-close.ensures,
      omega (arith, c.closing-close.ensures, close_most name c.digits_end-end.result),
    ) in
    let w = within in
    let t = turn_extent name c.loop-at.at c.seek-bracket.result c.digits_end-end.result c.closing-close.result c.seek-bracket.ensures stands c.digits_end-end.ensures c.closing-close.ensures in
    (w.0, omega (arith, c.seek-bracket.ensures.starts, c.digits_end-end.ensures, c.loop-at.invariant.1), omega (arith, t, c.loop-at.invariant.2))
