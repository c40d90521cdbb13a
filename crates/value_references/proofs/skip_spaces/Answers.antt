-- `value_references::skip_spaces` meets its contract. The invariant: what is left without its spaces is as from `from` on. Assumes nothing.
use mathlib.Core.Path.{◌≡◌, sym, ◌∙◌}
use native.Mathlib.Omega.{arith}
use lib.ListN.{length}
use Rattle.value_references.proofs.Laws.Names.{trim_next, trim_stop, trim_end}
use Rattle.value_references.proofs.skip_spaces.Goals as goal

pub returns-then-s-i-ne-SPACE : goal.returns-then-s-i-ne-SPACE
returns-then-s-i-ne-SPACE c = (omega arith, omega arith, sym (c.loop-i.invariant ∙ trim_stop c.args.s.now c.loop-i.i (omega arith) c.if-s-i-ne-SPACE.true))

pub loop-i-preserved : goal.loop-i-preserved
loop-i-preserved c = c.loop-i.invariant ∙ trim_next c.args.s.now c.loop-i.i (omega arith) c.if-s-i-ne-SPACE.false

pub returns : goal.returns
returns c =
    let z : c.loop-i.i ≡ length c.args.s.now = omega arith in
    (omega arith, omega arith, rw z at (sym (c.loop-i.invariant ∙ trim_end c.args.s.now c.loop-i.i (omega arith))))
