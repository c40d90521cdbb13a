-- `value_readings::read` meets its contract: the cases are tried in the order of the definition. Assumes nothing.
use mathlib.Core.Path.{◌≡◌, ap, sym, ◌∙◌}
use Rattle.values.specs.Values.{is_unsigned, is_numeral}
use Rattle.value_readings.proofs.Laws.Readings.{value_missing, value_whole, value_numeral, value_word, whole_digits}
use Rattle.value_readings.proofs.read.Goals as goal

pub returns-then-is_null : goal.returns-then-is_null
returns-then-is_null c = value_missing c.args.s.now (sym c.is_null.ensures ∙ c.if-is_null.true)

pub whole-requires : goal.whole-requires
whole-requires c = whole_digits c.args.s.now _ c.without_minus-u.ensures (sym c.is_whole.ensures ∙ c.if-is_whole.true)

pub returns-then-is_whole : goal.returns-then-is_whole
returns-then-is_whole c = c.whole.ensures ∙ value_whole c.args.s.now _ _ (sym c.is_null.ensures ∙ c.if-is_null.false) c.has_minus-minus.ensures c.without_minus-u.ensures (sym c.is_whole.ensures ∙ c.if-is_whole.true)

pub numeral-requires : goal.numeral-requires
numeral-requires c = (c.cut-m.ensures, sym c.cut-m.ensures.good ∙ c.if-m.true)

pub returns-then-m : goal.returns-then-m
unfolding is_numeral
returns-then-m c =
    let told : c.cut-m.result.good ≡ is_numeral c.args.s.now = c.cut-m.ensures.good ∙ ap is_unsigned c.without_minus-u.ensures in
    c.numeral.ensures ∙ value_numeral c.args.s.now _ _ (sym c.is_null.ensures ∙ c.if-is_null.false) c.has_minus-minus.ensures c.without_minus-u.ensures (sym c.is_whole.ensures ∙ c.if-is_whole.false) (sym told ∙ c.if-m.true)

pub returns : goal.returns
unfolding is_numeral
returns c =
    let told : c.cut-m.result.good ≡ is_numeral c.args.s.now = c.cut-m.ensures.good ∙ ap is_unsigned c.without_minus-u.ensures in
    c.word.ensures ∙ value_word c.args.s.now _ _ (sym c.is_null.ensures ∙ c.if-is_null.false) c.has_minus-minus.ensures c.without_minus-u.ensures (sym c.is_whole.ensures ∙ c.if-is_whole.false) (sym told ∙ c.if-m.false)
