-- `tally_rows::with_cells` meets its contract. The invariant: what was added and what the cells left will add is what all cells add. Assumes nothing.
use mathlib.Core.Path.{refl}
use Prim.Native.Nat.{ℕ, ◌+◌, ◌-◌, ◌<◌}
use native.Mathlib.Omega.{arith}
use borrow.Author.Rules.{rules}
use lib.ListN.{length}
use Rattle.tally_rows.specs.Counts.{nine, row_adds}
use Rattle.tally_rows.proofs.Laws.Adding.{cell_room, turn_next, turn_last, turn_none}
use Rattle.tally_rows.proofs.with_cells.Goals as goal

pub loop-k-init : goal.loop-k-init
loop-k-init c = (search rules, λ i. refl)

pub bounds-marks-k : goal.bounds-marks-k
bounds-marks-k c = omega (arith, c.requires.marks.inside)

pub with_cell-found-requires : goal.with_cell-found-requires
with_cell-found-requires c = cell_room c.args.marks.now c.loop-k.k c.read_cell-c.ensures (nine c.loop-k.found) (λ (i : ℕ). nine c.args.f i + row_adds c.args.marks.now c.args.line.now i) c.loop-k.invariant.1 c.requires.room

pub returns-then-c-line : goal.returns-then-c-line
returns-then-c-line c =
    turn_last c.args.marks.now c.loop-k.k c.read_cell-c.ensures (nine c.loop-k.found) (λ (i : ℕ). nine c.args.f i + row_adds c.args.marks.now c.args.line.now i) c.loop-k.invariant.1
    (nine c.with_cell-found.result) c.with_cell-found.ensures c.if-c-line.true

pub overflow_add-at : goal.overflow_add-at
overflow_add-at c = omega (arith, c.read_cell-c.ensures.ends.within)

pub loop-k-preserved : goal.loop-k-preserved
loop-k-preserved c =
    let lt : c.read_cell-c.result.end < length c.args.line.now = omega (arith, c.read_cell-c.ensures.ends.within) in (
      omega arith,
      turn_next c.args.marks.now c.loop-k.k c.read_cell-c.ensures (nine c.loop-k.found) (λ (i : ℕ). nine c.args.f i + row_adds c.args.marks.now c.args.line.now i) c.loop-k.invariant.1
          (nine c.with_cell-found.result) c.with_cell-found.ensures lt,
    )

pub returns : goal.returns
returns c = turn_none c.requires.marks c.loop-k.k c.loop-k-test.false _ (nine c.loop-k.found) (λ (i : ℕ). nine c.args.f i + row_adds c.args.marks.now c.args.line.now i) c.loop-k.invariant.1
