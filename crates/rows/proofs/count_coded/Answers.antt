-- `rows::count_coded` meets its contract. The invariant: the lines with the code are those counted and those of what is left. Assumes nothing.
use mathlib.Core.Path.{sym, ◌∙◌}
use Prim.Native.Nat.{◌-◌}
use native.Mathlib.Omega.{arith}
use borrow.Author.Rules.{rules}
use Rattle.text.specs.Lines.{coded}
use Rattle.text.proofs.Laws.Counts.{count_hit, count_miss, count_done}
use Rattle.rows.proofs.count_coded.Goals as goal

pub loop-at-init : goal.loop-at-init
loop-at-init c = (search rules, search rules, omega arith)

pub loop-at-preserved-then-has_code : goal.loop-at-preserved-then-has_code
loop-at-preserved-then-has_code c =
    let hit = count_hit (coded c.args.code.now) c.line_at-line.ensures (sym c.has_code.ensures ∙ c.if-has_code.true) in
    (omega arith, omega arith, omega arith)

pub loop-at-preserved : goal.loop-at-preserved
loop-at-preserved c =
    let miss = count_miss (coded c.args.code.now) c.line_at-line.ensures (sym c.has_code.ensures ∙ c.if-has_code.false) in
    (omega arith, omega arith, omega arith)

pub returns : goal.returns
returns c = omega (arith, count_done (coded c.args.code.now) c.args.file.now c.loop-at.at c.loop-at-test.false)
