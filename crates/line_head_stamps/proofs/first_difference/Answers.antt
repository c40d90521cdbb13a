-- `line_head_stamps::first_difference` meets its contract. The loop's invariant: the bytes that are left decide whether the two are the same. Assumes nothing.
use mathlib.Core.Path.{◌≡◌, sym, subst, ◌∙◌}
use native.Mathlib.Omega.{arith}
use lib.ListN.{length}
use Rattle.text_bytes.proofs.Laws.Same.{same_hit}
use Rattle.line_head_stamps.specs.Ways.{PartsAt}
use Rattle.line_head_stamps.proofs.Laws.Asking.{code_here, read_same, read_other, parts_before, parts_end}
use Rattle.line_head_stamps.proofs.first_difference.Goals as goal

pub returns-then-ne : goal.returns-then-ne
returns-then-ne c = parts_before c.args.a.now c.args.b.now c.loop-i.i c.loop-i-test.true (λ e. read_other c.args.b.now c.loop-i.i c.get.result _ c.get.ensures.lookup (sym c.ne.ensures ∙ c.if-ne.true) (sym (code_here c.args.a.now c.loop-i.i c.loop-i-test.true) ∙ e))

pub loop-i-preserved : goal.loop-i-preserved
loop-i-preserved c =
    let r = read_same c.args.b.now c.loop-i.i c.get.result _ c.get.ensures.lookup (sym c.ne.ensures ∙ c.if-ne.false) in
    (omega (arith, r.0), sym (same_hit c.args.a.now c.args.b.now c.loop-i.i c.loop-i-test.true r.0 r.1) ∙ c.loop-i.invariant.1)

pub returns : goal.returns
returns c =
    let all : c.loop-i.i ≡ length c.args.a.now = omega arith in
    subst (PartsAt c.args.a.now c.args.b.now) all (parts_end c.args.a.now c.args.b.now c.loop-i.i c.loop-i-test.false (omega arith) c.loop-i.invariant.0 c.loop-i.invariant.1)
