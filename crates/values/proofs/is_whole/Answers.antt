-- `values::is_whole` meets its contract: after the minus there are 1 to 9 bytes, all of them digits. Assumes nothing.
use mathlib.Core.Path.{sym, ◌∙◌}
use Rattle.values.proofs.Laws.Digits.{whole_long, whole_short}
use Rattle.values.proofs.is_whole.Goals as goal

pub returns-then-u-gt-WHOLE_DIGITS : goal.returns-then-u-gt-WHOLE_DIGITS
returns-then-u-gt-WHOLE_DIGITS c = sym (whole_long c.args.s.now _ c.without_minus-u.ensures c.if-u-gt-WHOLE_DIGITS.true)

pub returns : goal.returns
returns c = c.is_digits.ensures ∙ sym (whole_short c.args.s.now _ c.without_minus-u.ensures c.if-u-gt-WHOLE_DIGITS.false)
