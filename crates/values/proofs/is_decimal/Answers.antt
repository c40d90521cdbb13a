-- `values::is_decimal` meets its contract: a numeral, or one of the two words. Assumes nothing.
use mathlib.Core.Path.{sym, ◌∙◌}
use Rattle.values.proofs.Laws.Decimals.{decimal_numeral, decimal_inf, decimal_nan}
use Rattle.text_bytes.specs.Bytes.{bytes}
use Rattle.values.proofs.is_decimal.Goals as goal

pub returns-then-numeral : goal.returns-then-numeral
returns-then-numeral c = decimal_numeral c.args.s.now c.without_minus.ensures c.cut-numeral.ensures c.if-numeral.true

pub returns-then-same_bytes : goal.returns-then-same_bytes
unfolding bytes
returns-then-same_bytes c = decimal_inf c.args.s.now c.without_minus.ensures c.cut-numeral.ensures c.if-numeral.false (sym c.same_bytes.ensures ∙ c.if-same_bytes.true)

pub returns : goal.returns
unfolding bytes
returns c = c.same_bytes-2.ensures ∙ decimal_nan c.args.s.now c.without_minus.ensures c.cut-numeral.ensures c.if-numeral.false (sym c.same_bytes.ensures ∙ c.if-same_bytes.false)
