-- `book_facts::note_line` meets its contract: a line with another key, or with other cells than three, says nothing. Assumes nothing.
use borrow.Author.Tests.{not-true}
use native.Mathlib.Omega.{arith}
use mathlib.Core.Path.{sym, ap, ◌∙◌}
use Rattle.text_bytes.specs.Bytes.{bytes, begins}
use Rattle.text.specs.Lines.{cells, cell}
use Rattle.text.proofs.Laws.CellParts.{missing}
use Rattle.book_facts.proofs.Laws.Surveying.{nth_some, nth_none, no_field, is_field_lem, noted_none, noted_other, noted_field_lem}
use Rattle.book_facts.proofs.note_line.Goals as goal

pub returns-in_default : goal.returns-in_default
returns-in_default c =
    let h = nth_none (cells c.args.line.now) 1 (missing c.args.line.now 1 c.nth_cell.result c.in_default.is c.nth_cell.ensures) in
    sym (noted_none c.args.facts c.args.n c.args.line.now (no_field c.args.line.now (λ e. omega arith)))

pub returns-then-not-begins_with : goal.returns-then-not-begins_with
unfolding bytes cell
returns-then-not-begins_with c =
    let e = nth_some (cells c.args.line.now) 1 _ c.in-Some.ensures.3 in
    sym (noted_other c.args.facts c.args.n c.args.line.now (ap (begins (bytes "mzTab-")) e ∙ sym c.begins_with.ensures ∙ not-true c.begins_with.result c.if-not-begins_with.true-raw))

pub returns-then-count_cells-ne3 : goal.returns-then-count_cells-ne3
returns-then-count_cells-ne3 c = sym (noted_none c.args.facts c.args.n c.args.line.now (no_field c.args.line.now (λ e. c.if-count_cells-ne3.true (c.count_cells.ensures ∙ e))))

pub returns-in_default-nth_cell : goal.returns-in_default-nth_cell
returns-in_default-nth_cell c =
    let h = nth_none (cells c.args.line.now) 2 (missing c.args.line.now 2 c.nth_cell-2.result c.in_default-nth_cell.is c.nth_cell-2.ensures) in
    sym (noted_none c.args.facts c.args.n c.args.line.now (no_field c.args.line.now (λ e. omega arith)))

pub returns : goal.returns
returns c =
    let three = sym c.count_cells.ensures ∙ c.if-count_cells-ne3.false in
    c.note_field.ensures ∙ noted_field_lem c.args.facts c.args.n c.args.line.now (is_field_lem c.args.line.now c.requires three) (nth_some (cells c.args.line.now) 1 _ c.in-Some.ensures.3) (nth_some (cells c.args.line.now) 2 _ c.in-Some-nth_cell.ensures.3)
