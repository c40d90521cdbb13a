-- `mender::mend_lines` meets its contract. The invariant: what is laid and noted, and what of the lines left is still to come, are the copy and the changes.
-- Assumes nothing.
use mathlib.Core.Path.{refl}
use Prim.Native.Nat.{◌-◌}
use native.Mathlib.Omega.{arith}
use borrow.Author.Rules.{rules}
use lib.ListN.{drop, length-take, length-drop}
use Rattle.text.proofs.Laws.Joining.{end_before}
use Rattle.book.specs.Text.{book_in}
use Rattle.book.proofs.Laws.Sized.{book_sized}
use Rattle.mender.proofs.Laws.Walking.{midway_start, midway_next, midway_end}
use Rattle.mender.proofs.mend_lines.Goals as goal

pub loop-at-init : goal.loop-at-init
loop-at-init c = (midway_start (book_in c.args.book.now) c.args.file.now c.args.copy.now c.args.changes.now _ refl, refl, refl)

pub mend_line-done-requires : goal.mend_line-done-requires
mend_line-done-requires c =
    let long = length-take (c.line_at-line.result.end - c.loop-at.at) (drop c.loop-at.at c.args.file.now) in
    record {
      book = c.requires.book;
      line_bound = (omega (arith, c.loop-at.invariant.0.counted, c.loop-at-test.true, c.requires.file_len_bound), omega (arith, c.loop-at.invariant.0.far, c.loop-at.invariant.0.within, c.requires.file_len_bound, long, length-drop c.loop-at.at c.args.file.now), omega (arith, c.loop-at.invariant.0.few, c.loop-at.invariant.0.within, c.requires.file_len_bound, long, length-drop c.loop-at.at c.args.file.now));
      kinds_len = c.loop-at.invariant.0.columns;
    }

-- the line ends before the next begins
pub slice_bounds-lay-count : goal.slice_bounds-lay-count
slice_bounds-lay-count c = end_before c.line_at-line.ensures

-- the line ends before the next begins
pub slice_bounds-lay-start : goal.slice_bounds-lay-start
slice_bounds-lay-start c = end_before c.line_at-line.ensures

pub lay-to-requires : goal.lay-to-requires
lay-to-requires c = omega (arith, c.mend_line-done.ensures.mends.most_bytes, c.loop-at.invariant.0.far, c.requires.file_len_bound, c.line_at-line.ensures.starts, c.line_at-line.ensures.within, end_before c.line_at-line.ensures, length-take (c.line_at-line.result.end - c.loop-at.at) (drop c.loop-at.at c.args.file.now), length-take (c.line_at-line.result.next - c.line_at-line.result.end) (drop c.line_at-line.result.end c.args.file.now))

pub loop-at-preserved : goal.loop-at-preserved
loop-at-preserved c =
    let b = book_in c.args.book.now in
    (midway_next b (book_sized _) c.loop-at.invariant.0 c.line_at-line.ensures c.mend_line-done.ensures.mends c.mend_line-done.ensures.passes c.mend_line-done.ensures.line_value c.lay-to.ensures, search rules, search rules)

pub returns : goal.returns
returns c = midway_end (book_in c.args.book.now) (book_sized _) c.loop-at.invariant.0 c.loop-at-test.false
