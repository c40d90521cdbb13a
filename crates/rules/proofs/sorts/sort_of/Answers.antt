-- `rules::sorts::sort_of` meets its contract: the bytes up to the first tab are cell 1. Assumes nothing.
use mathlib.Core.Path.{sym, ◌∙◌}
use borrow.Author.Tests.{eqb-true, eqb-false}
use lib.ListN.{length}
use lib.Seq.{length-take-le}
use Rattle.text_bytes.proofs.Laws.Pieces.{first_piece}
use Rattle.text.specs.Lines.{cell}
use Rattle.rules.specs.Sorts.{sort_of}
use Rattle.rules.proofs.Laws.Sorting.{empty_nil, empty_some}
use Rattle.rules.proofs.sorts.sort_of.Goals as goal

pub returns-then-is_empty : goal.returns-then-is_empty
unfolding sort_of
returns-then-is_empty c = rw (empty_nil c.args.line.now (eqb-true (length c.args.line.now) 0 (sym c.is_empty.ensures ∙ c.if-is_empty.true)))

pub slice_bounds-code_sort-end : goal.slice_bounds-code_sort-end
slice_bounds-code_sort-end c = sym (length-take-le c.cell_end-e.result c.args.line.now c.cell_end-e.ensures.within)

pub returns : goal.returns
unfolding sort_of cell
returns c = rw (empty_some c.args.line.now (eqb-false (length c.args.line.now) 0 (sym c.is_empty.ensures ∙ c.if-is_empty.false)), first_piece c.cell_end-e.ensures) c.code_sort.ensures
