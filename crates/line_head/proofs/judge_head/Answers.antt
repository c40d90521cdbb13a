-- `line_head::judge_head` meets its contract: cell 1, then the names, or rule 1 alone where there are too many cells. Assumes nothing.
use mathlib.Core.Path.{ap}
use Prim.Native.Nat.{◌<◌}
use native.Mathlib.Nat.{not-suc-le-zero}
use native.Mathlib.Omega.{arith}
use borrow.Author.Tests.{ltb-true, ltb-false}
use lib.ListN.{length, drop}
use Rattle.text.specs.Lines.{cells}
use Rattle.book_facts.specs.Asked.{asked_by}
use Rattle.scan.specs.Machine.{ids_of}
use Rattle.scan.proofs.Laws.Celling.{cell_here, cells_next, cells_last}
use Rattle.line_head.proofs.Laws.Heading.{head_wide, head_named, names_none}
use Rattle.line_head.proofs.judge_head.Goals as goal

pub returns-then-wide : goal.returns-then-wide
returns-then-wide c =
    record {
      puts = head_wide _ (asked_by c.args.head.asking) c.args.head.section c.args.head.first c.args.head.later (ids_of c.args.flags.now) c.args.head.tag.control c.args.head.tag.line (cells c.args.line.now) (rw c.count_cells-wide.ensures at c.head_code-k.ensures) (rw c.count_cells-wide.ensures at (c.if-wide.true-raw)) c.put_if.ensures;
      keeps_kinds = record { columns = λ narrow. absurd (omega (arith, ltb-true 256 (length (cells c.args.line.now)) (rw c.count_cells-wide.ensures at c.if-wide.true-raw), narrow)); kind_places = c.requires.kinds_len; stamp_places = c.requires.stamps_len };
    }

pub returns-then-e-line : goal.returns-then-e-line
returns-then-e-line c =
    let last = cells_last c.cell_end-e.ensures c.if-e-line.true in
    record {
      puts = head_named _ (asked_by c.args.head.asking) c.args.head.section c.args.head.first c.args.head.later (ids_of c.args.flags.now) c.args.head.tag.control c.args.head.tag.line (cells c.args.line.now) (rw c.count_cells-wide.ensures at c.head_code-k.ensures) (rw c.count_cells-wide.ensures at c.if-wide.false-raw)
          (names_none _ c.args.head.asking c.args.head.section (ids_of c.args.flags.now) c.args.head.tag.control c.args.head.tag.line (drop 1 (cells c.args.line.now)) c.requires.section_value last c.put_if-then-e-line.ensures);
      keeps_kinds = record { columns = λ narrow. rw last (λ i l. absurd (not-suc-le-zero l)); kind_places = c.requires.kinds_len; stamp_places = c.requires.stamps_len };
    }

pub head_names-requires : goal.head_names-requires
head_names-requires c =
    let lt : c.cell_end-e.result < length c.args.line.now = omega (arith, c.if-e-line.false, c.cell_end-e.ensures.within) in
    let narrow = ltb-false 256 (length (cells c.args.line.now)) (rw c.count_cells-wide.ensures at c.if-wide.false-raw) in
    record {
      count_bound = omega (arith, c.requires.count_bound, c.head_code-k.ensures.most);
      book = c.requires.book;
      section_value = c.requires.section_value;
      from_in_bounds = (omega (arith, lt), c.requires.line_len_bound);
      line_len_bound = omega (arith, narrow, ap length (cell_here c.cell_end-e.ensures), ap length (cells_next c.cell_end-e.ensures lt));
      kinds_len = c.requires.kinds_len;
      stamps_len = c.requires.stamps_len;
    }

pub returns : goal.returns
returns c =
    let lt : c.cell_end-e.result < length c.args.line.now = omega (arith, c.if-e-line.false, c.cell_end-e.ensures.within) in
    let next = cells_next c.cell_end-e.ensures lt in
    record {
      puts = head_named _ (asked_by c.args.head.asking) c.args.head.section c.args.head.first c.args.head.later (ids_of c.args.flags.now) c.args.head.tag.control c.args.head.tag.line (cells c.args.line.now) (rw c.count_cells-wide.ensures at c.head_code-k.ensures) (rw c.count_cells-wide.ensures at c.if-wide.false-raw) (rw (← next) at c.head_names.ensures.puts);
      keeps_kinds = record { columns = λ narrow. rw next c.head_names.ensures.kept.columns; kind_places = c.head_names.ensures.kept.kind_places; stamp_places = c.head_names.ensures.kept.stamp_places };
    }
