-- `values::is_window` meets its contract: the first bar cuts off one decimal, and the rest is one if it has no bar. Assumes nothing.
use mathlib.Core.Path.{sym, ◌∙◌}
use native.Mathlib.Omega.{arith}
use lib.Seq.{length-take-le}
use Rattle.values.proofs.Laws.Decimals.{window_none, window_more, window_good, window_bad}
use Rattle.values.proofs.is_window.Goals as goal

pub returns-then-e-s : goal.returns-then-e-s
returns-then-e-s c = sym (window_none c.seek-e.ensures c.if-e-s.true)

pub returns-then-seek-s : goal.returns-then-seek-s
returns-then-seek-s c = sym (window_more c.seek-e.ensures (omega arith) c.seek.ensures c.if-seek-s.true)

pub slice_bounds-is_decimal-end : goal.slice_bounds-is_decimal-end
slice_bounds-is_decimal-end c = sym (length-take-le c.seek-e.result c.args.s.now c.seek-e.ensures.within)

pub returns-then-is_decimal : goal.returns-then-is_decimal
returns-then-is_decimal c = c.is_decimal-then-is_decimal.ensures ∙ sym (window_good c.seek-e.ensures (omega arith) c.seek.ensures (omega arith) (sym c.is_decimal.ensures ∙ c.if-is_decimal.true))

pub returns : goal.returns
returns c = sym (window_bad c.seek-e.ensures (omega arith) c.seek.ensures (omega arith) (sym c.is_decimal.ensures ∙ c.if-is_decimal.false))
