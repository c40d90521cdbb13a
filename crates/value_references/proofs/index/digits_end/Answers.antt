-- `value_references::index::digits_end`: the digits passed and those left are all. Assumes nothing.
use borrow.Author.Rules.{rules}
use native.Mathlib.Omega.{arith}
use mathlib.Core.Path.{sym, ◌∙◌, ap}
use lib.ListN.{length}
use borrow.Author.Tests.{not-true, not-false}
use Rattle.value_references.proofs.Laws.Indices.{digits_end, digits_stop, digits_more}
use Rattle.value_references.proofs.index.digits_end.Goals as goal

pub returns-then-not-is_digit : goal.returns-then-not-is_digit
returns-then-not-is_digit c =
    let e = digits_stop c.args.s.now c.loop-end.end (search rules) (sym c.is_digit.ensures ∙ not-true _ c.if-not-is_digit.true-raw) in
    omega (arith, c.loop-end.invariant, ap length e)

pub loop-end-preserved : goal.loop-end-preserved
loop-end-preserved c =
    let e = digits_more c.args.s.now c.loop-end.end (search rules) (sym c.is_digit.ensures ∙ not-false _ c.if-not-is_digit.false-raw) in
    omega (arith, c.loop-end.invariant, ap length e)

pub returns : goal.returns
returns c = omega (arith, c.loop-end.invariant, ap length (digits_end c.args.s.now c.loop-end.end (omega arith)))
