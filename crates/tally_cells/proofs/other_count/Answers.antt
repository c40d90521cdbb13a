-- `tally_cells::other_count` meets its contract: `null` is asked for first, then a whole, whose digits are read after its minus. Assumes nothing.
use mathlib.Core.Path.{◌≡◌, sym, subst, ◌∙◌}
use mathlib.Core.Bool.{true, false}
use borrow.Author.Tests.{not-true, not-false}
use Rattle.text_bytes.specs.Bytes.{Bytes}
use Rattle.text_bytes.specs.Places.{part}
use Rattle.values.specs.Values.{is_whole, is_null}
use Rattle.tally_cells.specs.Places.{Writes}
use Rattle.tally_cells.proofs.Laws.Reading.{null_count, text_count, some_byte, whole_count}
use Rattle.tally_cells.proofs.other_count.Goals as goal

pub returns-then-is_null : goal.returns-then-is_null
returns-then-is_null c = null_count c.cell_end-end.ensures (sym c.is_null.ensures ∙ c.if-is_null.true)

pub returns-then-not-is_whole : goal.returns-then-not-is_whole
returns-then-not-is_whole c = text_count c.cell_end-end.ensures (sym c.is_null.ensures ∙ c.if-is_null.false) (sym c.is_whole.ensures ∙ not-true c.is_whole.result c.if-not-is_whole.true-raw)

pub bounds-cell-0 : goal.bounds-cell-0
bounds-cell-0 c =
    let given : is_null (part c.args.at c.cell_end-end.result c.args.line.now) ≡ false = sym c.is_null.ensures ∙ c.if-is_null.false in
    let whole : is_whole (part c.args.at c.cell_end-end.result c.args.line.now) ≡ true = sym c.is_whole.ensures ∙ not-false c.is_whole.result c.if-not-is_whole.false-raw in
    some_byte c.cell_end-end.ensures given whole

pub returns : goal.returns
returns c =
    let given : is_null (part c.args.at c.cell_end-end.result c.args.line.now) ≡ false = sym c.is_null.ensures ∙ c.if-is_null.false in
    let whole : is_whole (part c.args.at c.cell_end-end.result c.args.line.now) ≡ true = sym c.is_whole.ensures ∙ not-false c.is_whole.result c.if-not-is_whole.false-raw in
    whole_count c.cell_end-end.ensures given whole
    (subst (λ (u : Bytes). Writes u 0 c.digits_from-digits.result) c.without_minus.ensures c.digits_from-digits.ensures)
    c.below.ensures
