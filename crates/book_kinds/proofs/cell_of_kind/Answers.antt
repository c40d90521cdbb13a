-- `book_kinds::cell_of_kind` meets its contract: each letter that is tried first has the answer that the definition gives it. Assumes nothing.
use mathlib.Core.Path.{sym, ◌∙◌}
use Rattle.book_kinds.proofs.Laws.Letters.{cell_text, cell_kept, cell_null, cell_value, value_whole, value_decimal, value_parameters}
use Rattle.book_kinds.proofs.cell_of_kind.Goals as goal

pub returns-then-kind-eq84 : goal.returns-then-kind-eq84
returns-then-kind-eq84 c = c.is_text.ensures ∙ sym (cell_text c.args.s.now c.args.kind c.if-kind-eq84.true)

pub returns-then-kind-eq75 : goal.returns-then-kind-eq75
returns-then-kind-eq75 c = c.is_kept.ensures ∙ sym (cell_kept c.args.s.now c.args.kind c.if-kind-eq75.true)

pub returns-then-is_null : goal.returns-then-is_null
returns-then-is_null c = sym (cell_null c.args.s.now c.args.kind c.if-kind-eq75.false (sym c.is_null.ensures ∙ c.if-is_null.true))

pub returns-in-87 : goal.returns-in-87
returns-in-87 c = c.is_whole.ensures ∙ sym (cell_value c.args.s.now c.args.kind c.if-kind-eq75.false (sym c.is_null.ensures ∙ c.if-is_null.false) ∙ value_whole c.args.s.now c.args.kind c.in-87.is)

pub returns-in-68 : goal.returns-in-68
returns-in-68 c = c.is_decimal.ensures ∙ sym (cell_value c.args.s.now c.args.kind c.if-kind-eq75.false (sym c.is_null.ensures ∙ c.if-is_null.false) ∙ value_decimal c.args.s.now c.args.kind c.in-68.is)

pub returns-in-81 : goal.returns-in-81
returns-in-81 c = c.is_parameters.ensures ∙ sym (cell_value c.args.s.now c.args.kind c.if-kind-eq75.false (sym c.is_null.ensures ∙ c.if-is_null.false) ∙ value_parameters c.args.s.now c.args.kind c.in-81.is)

pub returns-in_default : goal.returns-in_default
returns-in_default c = c.of_kind.ensures ∙ sym (cell_value c.args.s.now c.args.kind c.if-kind-eq75.false (sym c.is_null.ensures ∙ c.if-is_null.false))
