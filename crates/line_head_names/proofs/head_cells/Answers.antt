-- `line_head_names::head_cells` meets its contract. The loop's invariant: the breaks put so far and those of the names that are left are those of all
-- names; the kinds of the names so far are kept, and they are noted. Assumes nothing.
use mathlib.Core.Path.{◌≡◌, refl, ap, ◌∙◌}
use Prim.Native.Nat.{ℕ, ◌+◌, ◌-◌, ◌<◌}
use native.Mathlib.Omega.{arith}
use borrow.Author.Rules.{rules}
use lib.ListN.{length, take, drop, length-set}
use Rattle.text_bytes.specs.Bytes.{any, same, first_from, first_kept}
use Rattle.text_bytes.proofs.Laws.Each.{split_some}
use Rattle.text.specs.Lines.{TAB, cells}
use Rattle.book.specs.Book.{is_opt, column_of}
use Rattle.rules.specs.Rules.{kind_in}
use Rattle.scan.specs.Machine.{ids_of, head_cell}
use Rattle.scan.proofs.Laws.Celling.{cell_here, cells_next, cells_last, turn_next, turn_last, column_next, column_count, any_more, first_more_name}
use Rattle.line_head_stamps.specs.Ways.{first_named}
use Rattle.line_head_stamps.proofs.Laws.Noting.{noted_none}
use Rattle.line_head_kinds.proofs.Laws.Kinds.{kinds_step}
use Rattle.book.specs.Text.{book_in}
use Rattle.line_head_names.proofs.head_cells.Goals as goal

pub loop-c-init : goal.loop-c-init
unfolding any first_from first_named
loop-c-init c = (search rules, search rules, search rules, search rules, search rules, (λ rest. refl), refl, (λ i l. absurd (omega arith)), search rules, refl, noted_none c.args.stamps.now c.args.names.tag.line c.args.line.now c.requires.stamps_len, (λ z. refl))

pub came_before-first-requires : goal.came_before-first-requires
came_before-first-requires c =
    record {
      noted = c.loop-c.invariant.10;
      line_len_bound = c.requires.from_in_bounds.1;
      count_bound = (omega (arith, c.loop-c.invariant.2, ap length (cell_here c.cell_end-e.ensures)), c.cell_end-e.ensures.starts, c.cell_end-e.ensures.within);
    }

pub head_cell-k-requires : goal.head_cell-k-requires
head_cell-k-requires c =
    let some = ap length (cell_here c.cell_end-e.ensures) in
    record {
      count_bound = omega (arith, c.requires.count_bound, c.loop-c.invariant.2, c.loop-c.invariant.3);
      book = c.requires.book;
      cell_nonzero = (omega (arith, c.loop-c.invariant.1), omega (arith, c.loop-c.invariant.2, some));
      kinds_len = c.loop-c.invariant.8;
    }

pub returns-then-e-line : goal.returns-then-e-line
returns-then-e-line c =
    let xs = cells (drop c.args.names.from c.args.line.now) in
    let here = c.loop-c.invariant.6 ∙ cell_here c.cell_end-e.ensures in
    let name = take (c.cell_end-e.result - c.loop-c.at) (drop c.loop-c.at c.args.line.now) in
    let judged = rw (c.came_before-first.ensures.answer ∙ c.loop-c.invariant.11 name, c.loop-c.invariant.9) at c.head_cell-k.ensures.puts in
    let F = head_cell (book_in c.args.book.now) c.args.names.section xs (ids_of c.args.flags.now) c.args.names.tag.control c.args.names.tag.line in
    let in-kinds : c.loop-c.c - 1 < length c.loop-c.kinds = omega (arith, c.loop-c.invariant.2, c.loop-c.invariant.8, ap length (cell_here c.cell_end-e.ensures)) in
    let kinds = kinds_step _ xs c.loop-c.c c.loop-c.invariant.1 here c.args.names.section c.loop-c.kinds in-kinds c.loop-c.invariant.7 in
    let kept = length-set c.loop-c.kinds (c.loop-c.c - 1) (kind_in (column_of (book_in c.args.book.now) c.args.names.section name)) ∙ c.loop-c.invariant.8 in
    let all : length xs ≡ c.loop-c.c - 1 = column_count xs c.loop-c.c c.loop-c.invariant.1 here ∙ rw (cells_last c.cell_end-e.ensures c.if-e-line.true) (omega arith) in
    record {
      puts = record {
        does = λ rest. turn_last c.cell_end-e.ensures F c.loop-c.c judged rest c.if-e-line.true ∙ c.loop-c.invariant.5 rest;
        most = omega (arith, c.loop-c.invariant.2, c.loop-c.invariant.3, c.head_cell-k.ensures.puts.most, ap length (cell_here c.cell_end-e.ensures));
      };
      kinds_of = rw c.head_cell-k.ensures.kinds_after (λ i l. kinds i (omega (arith, l, all)));
      kinds_len_2 = rw c.head_cell-k.ensures.kinds_after kept;
      stamps_len_2 = c.came_before-first.ensures.noted.places;
    }

pub overflow_add-at : goal.overflow_add-at
overflow_add-at c = omega (arith, c.if-e-line.false, c.cell_end-e.ensures.within, c.well_formed.1.1.1.0.0)

pub loop-c-preserved : goal.loop-c-preserved
loop-c-preserved c =
    let xs = cells (drop c.args.names.from c.args.line.now) in
    let here = c.loop-c.invariant.6 ∙ cell_here c.cell_end-e.ensures in
    let name = take (c.cell_end-e.result - c.loop-c.at) (drop c.loop-c.at c.args.line.now) in
    let judged = rw (c.came_before-first.ensures.answer ∙ c.loop-c.invariant.11 name, c.loop-c.invariant.9) at c.head_cell-k.ensures.puts in
    let F = head_cell (book_in c.args.book.now) c.args.names.section xs (ids_of c.args.flags.now) c.args.names.tag.control c.args.names.tag.line in
    let in-kinds : c.loop-c.c - 1 < length c.loop-c.kinds = omega (arith, c.loop-c.invariant.2, c.loop-c.invariant.8, ap length (cell_here c.cell_end-e.ensures)) in
    let kinds = kinds_step _ xs c.loop-c.c c.loop-c.invariant.1 here c.args.names.section c.loop-c.kinds in-kinds c.loop-c.invariant.7 in
    let kept = length-set c.loop-c.kinds (c.loop-c.c - 1) (kind_in (column_of (book_in c.args.book.now) c.args.names.section name)) ∙ c.loop-c.invariant.8 in
    let one : c.loop-c.c + 1 - 2 ≡ c.loop-c.c - 2 + 1 = omega (arith, c.loop-c.invariant.1) in
    let two : c.loop-c.c - 2 + 2 ≡ c.loop-c.c = omega (arith, c.loop-c.invariant.1) in
    let lt : c.cell_end-e.result < length c.args.line.now = omega (arith, c.if-e-line.false, c.cell_end-e.ensures.within) in (
      omega (arith, lt),
      omega (arith, c.loop-c.invariant.1),
      omega (arith, c.loop-c.invariant.2, ap length (cell_here c.cell_end-e.ensures), ap length (cells_next c.cell_end-e.ensures lt)),
      omega (arith, c.loop-c.invariant.3, c.head_cell-k.ensures.puts.most),
      omega (arith, c.places-1.given, c.loop-c.invariant.4),
      (λ rest. turn_next c.cell_end-e.ensures F c.loop-c.c judged rest lt ∙ c.loop-c.invariant.5 rest),
      column_next xs c.loop-c.c c.loop-c.invariant.1 here ∙ cells_next c.cell_end-e.ensures lt,
      rw c.head_cell-k.ensures.kinds_after kinds,
      rw c.head_cell-k.ensures.kinds_after kept,
      rw (c.is_opt-opt.ensures, c.loop-c.invariant.9) (any_more is_opt xs c.loop-c.c c.loop-c.invariant.1 here),
      rw one c.came_before-first.ensures.noted,
      (λ z.
          ap (λ (j : ℕ). first_named c.came_before-first.new.stamps c.args.line.now z j) one ∙ c.came_before-first.ensures.names z
          ∙ ap (λ (f : ℕ). first_kept f (same z name) (c.loop-c.c - 2 + 2)) (c.loop-c.invariant.11 z) ∙ ap (first_kept (first_from 2 (same z) (take (c.loop-c.c - 2) xs)) (same z name)) two
          ∙ first_more_name (same z) xs c.loop-c.c c.loop-c.invariant.1 here),
    )

-- a name is left at each turn, and so the last kind is not passed
pub returns : goal.returns
returns c =
    let some : 0 < length (cells (drop c.loop-c.at c.args.line.now)) = omega (arith, split_some TAB (drop c.loop-c.at c.args.line.now)) in
    absurd (omega (arith, some, c.loop-c.invariant.2, c.loop-c-test.false))
