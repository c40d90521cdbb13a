-- `values::is_decimals` meets its contract: the pieces between bars, each asked. Assumes nothing.
use mathlib.Core.Path.{◌∙◌}
use borrow.Author.Rules.{rules}
use borrow.Author.Tests.{tests}
use Rattle.std.proofs.lemmas.Iterator.Consumers.{YieldsList-from_first}
use Rattle.std.proofs.lemmas.Iterator.Search.{all_from_yields_List}
use Rattle.text_bytes.specs.Bytes.{BAR, split_on}
use Rattle.text_bytes.specs.Pieces.{pieces_left}
use Rattle.text_bytes.proofs.Laws.Every.{every_all}
use Rattle.values.specs.Values.{is_decimal, is_decimals}
use Rattle.values.proofs.is_decimals.Goals as goal

pub returns : goal.returns
unfolding is_decimals
returns c =
    all_from_yields_List is_decimal _ _ c.all.result c.all.ensures.ran
    (YieldsList-from_first (λ x. x.now) pieces_left (split_on BAR c.args.s.now) c.cut_at.ensures) (λ x b q k. search (rules, tests))
    ∙ every_all is_decimal (split_on BAR c.args.s.now)
