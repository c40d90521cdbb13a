-- `line_end::any_came` meets its contract: the slots of the part that is read are those from one up to another. Assumes nothing.
use Rattle.std.proofs.Common.{◌-◌, not, eqb, take, drop, ◌∙◌, rules, tests, arith}
use Rattle.std.proofs.lemmas.Iterator.{YieldsList-from_slice}
use Rattle.std.proofs.lemmas.Iterator.Search.{any_from_yields_List}
use Rattle.book_ids.specs.Ids.{is_marked}
use Rattle.line_end.proofs.Laws.Wanting.{came_any}
use Rattle.line_end.proofs.any_came.Goals as goal

pub returns : goal.returns
unfolding is_marked
returns c =
    let part = take (c.args.to - c.args.from) (drop c.args.from c.args.slots.now) in
    any_from_yields_List (λ s. not (eqb s 0)) _ _ _ c.any.ensures.ran (YieldsList-from_slice part cc) (λ x b q k. search (rules, tests))
    ∙ came_any c.args.slots.now (c.args.to - c.args.from) c.args.from (omega (arith, c.requires))
