-- `tally_cells::count_at` meets its contract: where digits go up to the cell's end, the cell is what they write. Assumes nothing.
use mathlib.Core.Path.{sym, ◌∙◌}
use native.Mathlib.Omega.{arith}
use borrow.Author.Tests.{not-false, ltb-true}
use lib.Dec.{ltb}
use Rattle.text_bytes.proofs.Laws.Tests.{and_both}
use Rattle.tally_cells.proofs.Laws.Reading.{digits_count, tab_there}
use Rattle.tally_cells.proofs.count_at.Goals as goal

pub is_plain-requires : goal.is_plain-requires
is_plain-requires c = (c.digits_from-digits.ensures.starts, c.digits_from-digits.ensures.within)

pub returns : goal.returns
returns c =
    let plain = and_both (ltb c.args.at c.digits_from-digits.result.end) _ (sym c.is_plain.ensures ∙ not-false c.is_plain.result c.if-not-is_plain.false-raw) in
    digits_count c.digits_from-digits.ensures (λ e. let l = ltb-true c.args.at c.digits_from-digits.result.end plain.0 in omega arith) (tab_there c.args.line.now c.digits_from-digits.result.end plain.1)
