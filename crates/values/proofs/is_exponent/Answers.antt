-- `values::is_exponent` meets its contract: nothing, or the letter, a mark or none, and 1 to 3 bytes that are digits. Assumes nothing.
use mathlib.Core.Path.{sym, ◌∙◌}
use borrow.Author.Tests.{not-true, not-false}
use Rattle.values.proofs.Laws.Mantissas.{exponent_none, exponent_other, exponent_long, exponent_short}
use Rattle.values.proofs.is_exponent.Goals as goal

pub returns-then-s-eq0 : goal.returns-then-s-eq0
returns-then-s-eq0 c = exponent_none c.args.s.now c.if-s-eq0.true

pub returns-then-not-is_e : goal.returns-then-not-is_e
returns-then-not-is_e c = exponent_other c.args.s.now c.if-s-eq0.false (sym c.is_e.ensures ∙ not-true _ c.if-not-is_e.true-raw)

pub returns-then-d-gt-EXPONENT_DIGITS : goal.returns-then-d-gt-EXPONENT_DIGITS
returns-then-d-gt-EXPONENT_DIGITS c = exponent_long c.args.s.now _ c.if-s-eq0.false (sym c.is_e.ensures ∙ not-false _ c.if-not-is_e.false-raw) c.without_mark-d.ensures c.if-d-gt-EXPONENT_DIGITS.true

pub returns : goal.returns
returns c = c.is_digits.ensures ∙ exponent_short c.args.s.now _ c.if-s-eq0.false (sym c.is_e.ensures ∙ not-false _ c.if-not-is_e.false-raw) c.without_mark-d.ensures c.if-d-gt-EXPONENT_DIGITS.false
