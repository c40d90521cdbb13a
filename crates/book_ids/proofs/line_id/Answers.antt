-- `book_ids::line_id`: the paper's conditions, one after the other. Assumes nothing.
use native.Mathlib.Omega.{arith}
use mathlib.Core.Path.{◌≡◌, sym, ◌∙◌, ap}
use mathlib.Core.Option.{some}
use Prim.Native.Nat.{◌≤◌}
use lib.ListN.{length, get_elem?}
use borrow.Author.Tests.{not-true, not-false}
use Rattle.text_bytes.specs.Bytes.{bytes}
use Rattle.text_bytes.specs.Places.{part}
use Rattle.text.specs.Lines.{cells}
use Rattle.book_ids.specs.Ids.{key_id}
use Rattle.book_ids.proofs.Laws.Marks.{line_other, line_cells, line_key, second_none, second_some}
use Rattle.book_ids.proofs.line_id.Goals as goal

pub returns-then-not-has_code : goal.returns-then-not-has_code
unfolding bytes
returns-then-not-has_code c = sym (line_other _ c.args.line.now (sym c.has_code.ensures ∙ not-true c.has_code.result c.if-not-has_code.true-raw))

pub returns-in_err-key : goal.returns-in_err-key
returns-in_err-key c = c.from_residual.ensures ∙ sym (line_cells _ c.args.line.now (second_none (cells c.args.line.now) c.in_err-key.ensures))

pub returns-then-count_cells-ne3 : goal.returns-then-count_cells-ne3
returns-then-count_cells-ne3 c = sym (line_cells _ c.args.line.now (λ x. c.if-count_cells-ne3.true (c.count_cells.ensures ∙ x)))

pub returns : goal.returns
unfolding bytes
returns c =
    c.key_id.ensures ∙ ap (key_id _) (sym (second_some (cells c.args.line.now) _ c.in_ok-key.ensures.3))
    ∙ sym (line_key _ c.args.line.now (sym c.has_code.ensures ∙ not-false c.has_code.result c.if-not-has_code.false-raw) (sym c.count_cells.ensures ∙ c.if-count_cells-ne3.false))
