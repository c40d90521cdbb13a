-- `weight_counts::count_row` meets its contract. The invariant: what was added and what the cells left will add is what all cells add. Assumes nothing.
use mathlib.Core.Path.{refl, ◌∙◌}
use Prim.Native.Nat.{◌-◌, ◌<◌}
use native.Mathlib.Omega.{arith}
use borrow.Author.Rules.{rules}
use lib.ListN.{length, get_or}
use Rattle.weight_counts.proofs.Laws.Raising.{turn_next, turn_last, turn_none}
use Rattle.weight_counts.proofs.count_row.Goals as goal

pub loop-k-init : goal.loop-k-init
loop-k-init c = (search rules, refl, λ i h. refl)

pub bounds-marks-k : goal.bounds-marks-k
bounds-marks-k c = omega (arith, c.requires.marks.inside)

pub count_cell-requires : goal.count_cell-requires
count_cell-requires c =
    let low = c.requires.marks.low c.loop-k.k in
    let i = get_or c.args.marks.now c.loop-k.k 0 - 1 in
    (c.loop-k.invariant.1 ∙ c.requires.room.long, low, omega (arith, c.loop-k.invariant.2 i (omega arith), c.requires.room.fits i (omega arith)))

pub returns-then-e-line : goal.returns-then-e-line
returns-then-e-line c =
    record {
      long = search rules;
      each = λ i h. turn_last c.args.marks.now c.loop-k.k c.cell_end-e.ensures c.loop-k.weights (c.loop-k.invariant.1 ∙ c.requires.room.long) (c.requires.marks.low c.loop-k.k) c.count_cell.ensures i (c.loop-k.invariant.2 i h) c.if-e-line.true;
    }

pub loop-k-preserved : goal.loop-k-preserved
loop-k-preserved c =
    let lt : c.cell_end-e.result < length c.args.line.now = omega arith in (
      omega arith,
      search rules,
      λ i h. turn_next c.args.marks.now c.loop-k.k c.cell_end-e.ensures c.loop-k.weights (c.loop-k.invariant.1 ∙ c.requires.room.long) (c.requires.marks.low c.loop-k.k) c.count_cell.ensures i (c.loop-k.invariant.2 i h) lt,
    )

pub returns : goal.returns
returns c =
    record {
      long = c.loop-k.invariant.1;
      each = λ i h. turn_none c.requires.marks c.loop-k.k c.loop-k-test.false _ c.loop-k.weights i (c.loop-k.invariant.2 i h);
    }
