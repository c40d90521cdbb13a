-- `values::is_digits` meets its contract: std's test of all bytes is that of the definition. Assumes nothing.
use mathlib.Core.Path.{sym, ◌∙◌}
use native.Mathlib.Omega.{arith}
use borrow.Author.Tests.{lt-leb}
use lib.ListN.{length}
use Rattle.std.proofs.Common.{rules, tests}
use Rattle.std.proofs.lemmas.Iterator.{YieldsList-from_slice}
use Rattle.std.proofs.lemmas.Iterator.Search.{all_from_yields_List}
use Rattle.value_references.specs.Index.{is_digit}
use Rattle.text_bytes.proofs.Laws.Every.{every_all}
use Rattle.values.proofs.Laws.Digits.{digits_none, digits_some}
use Rattle.values.proofs.is_digits.Goals as goal

pub returns-then-s-ge-FEWEST_DIGITS : goal.returns-then-s-ge-FEWEST_DIGITS
returns-then-s-ge-FEWEST_DIGITS c =
    let s = c.args.s.now in
    all_from_yields_List is_digit _ _ c.all.result c.all.ensures.ran (YieldsList-from_slice s cc) (λ x b q k. search (rules, tests)) ∙ every_all is_digit s ∙ sym (digits_some s (λ h. omega arith))

pub returns-else-s-ge-FEWEST_DIGITS : goal.returns-else-s-ge-FEWEST_DIGITS
returns-else-s-ge-FEWEST_DIGITS c = rw (lt-leb 1 (length c.args.s.now) (omega arith)) (sym (digits_none c.args.s.now (omega arith)))
