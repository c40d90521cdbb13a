-- `mender_rows::fill_row` meets its contract: a row in which nothing is filled is laid as it stands, any other has a tab, up to which it is laid, and the cells after
-- it. Assumes nothing.
use mathlib.Core.Path.{◌≡◌, sym}
use mathlib.Core.Bool.{false, not, ◌&&◌}
use Prim.Native.Nat.{◌+◌, ◌<◌}
use native.Mathlib.Omega.{arith}
use lib.ListN.{length, take}
use lib.Seq.{length-take-le}
use Rattle.text.specs.Lines.{cells}
use Rattle.scan.specs.Places.{lent}
use Rattle.mender_rows.specs.Rows.{is_even, has_hole}
use Rattle.mender_rows.proofs.Laws.Rowing.{row_whole, holed_cut, holed_narrow, first_count, row_cut}
use Rattle.mender_rows.proofs.fill_row.Goals as goal

pub returns-then-not-is_holed : goal.returns-then-not-is_holed
returns-then-not-is_holed c = row_whole c.args.above.section c.args.above.width c.args.kinds.now c.args.section c.args.n c.args.line.now (rw c.is_holed.ensures at c.if-not-is_holed.true-raw) c.lay-to.ensures

pub slice_bounds-lay-end : goal.slice_bounds-lay-end
slice_bounds-lay-end c =
    let holed : not (is_even c.args.above.section c.args.above.width c.args.section (cells c.args.line.now) && has_hole (cells c.args.line.now)) ≡ false = rw c.is_holed.ensures at c.if-not-is_holed.false-raw in
    let within : c.cell_end-e.result < length c.args.line.now = holed_cut c.args.above.section c.args.above.width c.args.section c.args.line.now c.cell_end-e.ensures holed in
    let front : length (take (c.cell_end-e.result + 1) c.args.line.now) ≡ c.cell_end-e.result + 1 = length-take-le (c.cell_end-e.result + 1) c.args.line.now (omega (arith, within)) in
    sym front

pub lay-to-requires-2 : goal.lay-to-requires-2
lay-to-requires-2 c =
    let holed : not (is_even c.args.above.section c.args.above.width c.args.section (cells c.args.line.now) && has_hole (cells c.args.line.now)) ≡ false = rw c.is_holed.ensures at c.if-not-is_holed.false-raw in
    let within : c.cell_end-e.result < length c.args.line.now = holed_cut c.args.above.section c.args.above.width c.args.section c.args.line.now c.cell_end-e.ensures holed in
    let front : length (take (c.cell_end-e.result + 1) c.args.line.now) ≡ c.cell_end-e.result + 1 = length-take-le (c.cell_end-e.result + 1) c.args.line.now (omega (arith, within)) in
    omega (arith, front, within, c.requires.0)

pub fill_cells-requires : goal.fill_cells-requires
fill_cells-requires c =
    let holed : not (is_even c.args.above.section c.args.above.width c.args.section (cells c.args.line.now) && has_hole (cells c.args.line.now)) ≡ false = rw c.is_holed.ensures at c.if-not-is_holed.false-raw in
    let within : c.cell_end-e.result < length c.args.line.now = holed_cut c.args.above.section c.args.above.width c.args.section c.args.line.now c.cell_end-e.ensures holed in
    let d = holed in
    let k = first_count c.args.above.section c.args.above.width c.args.section c.args.line.now c.cell_end-e.ensures d (lent c.args.copy.now c.args.so.to) c.lay-to-2.ensures in
    let t = within in
    record {
      from_in_bounds = omega (arith, t);
      line_len_bound = holed_narrow c.args.above.section c.args.above.width c.args.section c.args.line.now c.cell_end-e.ensures d;
      from_bound = (omega (arith, k, t, c.requires.0), omega (arith, t, c.requires.1));
    }

pub returns : goal.returns
returns c =
    let holed : not (is_even c.args.above.section c.args.above.width c.args.section (cells c.args.line.now) && has_hole (cells c.args.line.now)) ≡ false = rw c.is_holed.ensures at c.if-not-is_holed.false-raw in
    row_cut c.args.above.section c.args.above.width c.args.section c.args.line.now c.cell_end-e.ensures holed c.args.kinds.now c.args.n c.lay-to-2.ensures c.fill_cells.ensures
