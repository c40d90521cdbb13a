-- `text::cells::nth_cell` meets its contract. The invariant: cell n of the line is cell `left` of what stands from `at` on. Assumes nothing.
use mathlib.Core.Path.{◌≡◌, refl, ◌∙◌}
use Prim.Native.Nat.{ℕ, ◌+◌, ◌-◌}
use native.Mathlib.Omega.{arith}
use borrow.Author.Rules.{rules}
use Rattle.text_bytes.specs.Bytes.{Bytes}
use Rattle.text_bytes.specs.Places.{after}
use Rattle.text.specs.Lines.{TAB}
use Rattle.text_bytes.proofs.Laws.Starts.{after_next}
use Rattle.text_bytes.proofs.Laws.Pieces.{nth_here, nth_next, nth_none}
use Rattle.text.proofs.cells.nth_cell.Goals as goal

-- the first cell begins with the line
begin : (n : ℕ) (line : Bytes) → 0 ≡ after TAB (n - n) line
unfolding after
begin n line = let z : n - n ≡ 0 = omega arith in rw z

pub loop-left-init : goal.loop-left-init
loop-left-init c = (search rules, search rules, begin c.args.n c.args.line.now, refl)

pub returns-then-left-eq0 : goal.returns-then-left-eq0
returns-then-left-eq0 c =
    let whole : c.args.n - c.loop-left.left ≡ c.args.n = omega arith in
    (omega arith, omega arith, rw (← whole) c.loop-left.invariant.2, c.loop-left.invariant.3 ∙ nth_here c.cell_end-e.ensures c.loop-left.left c.if-left-eq0.true)

pub returns-then-e-line : goal.returns-then-e-line
returns-then-e-line c = c.loop-left.invariant.3 ∙ nth_none c.cell_end-e.ensures c.loop-left.left c.if-e-line.true c.if-left-eq0.false

pub loop-left-preserved : goal.loop-left-preserved
loop-left-preserved c =
    let k : c.args.n - c.loop-left.left + 1 ≡ c.args.n - (c.loop-left.left - 1) = omega arith in
    (omega arith, omega arith, rw (← k) (after_next TAB (c.args.n - c.loop-left.left) c.cell_end-e.ensures (omega arith) c.loop-left.invariant.2), c.loop-left.invariant.3 ∙ nth_next c.cell_end-e.ensures c.loop-left.left (omega arith) c.if-left-eq0.false)
