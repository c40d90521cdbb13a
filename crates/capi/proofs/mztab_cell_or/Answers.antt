-- `capi::mztab_cell_or` meets its contract: `locate` gives the place, and its bytes decide. Assumes nothing.
use mathlib.Core.Path.{sym, ◌∙◌}
use Rattle.text_bytes.specs.Bytes.{bytes}
use Rattle.capi.proofs.Laws.{told_placed, stood_in, stood_out}
use Rattle.capi.proofs.mztab_cell_or.Goals as goal

pub returns-then-same_bytes : goal.returns-then-same_bytes
unfolding bytes
returns-then-same_bytes c =
    let placed = told_placed c.locate.result c.locate.ensures c.told-place.ensures.number_value c.told-place.ensures.answer_value in
    stood_in placed placed.views (sym c.same_bytes.ensures ∙ c.if-same_bytes.true)

pub returns : goal.returns
unfolding bytes
returns c =
    let placed = told_placed c.locate.result c.locate.ensures c.told-place.ensures.number_value c.told-place.ensures.answer_value in
    stood_out placed placed.views (sym c.same_bytes.ensures ∙ c.if-same_bytes.false)
