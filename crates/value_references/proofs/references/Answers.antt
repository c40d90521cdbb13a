-- `value_references::references` meets its contract. The invariant: the list is told by what was marked and by what is left. Assumes nothing.
use mathlib.Core.Path.{◌≡◌, ap, ◌∙◌}
use mathlib.Core.Bool.{Bool, ◌&&◌}
use Rattle.text_bytes.specs.Places.{part}
use Prim.Native.Nat.{◌-◌}
use native.Mathlib.Omega.{arith}
use Rattle.value_references.specs.Index.{index_in, sooner}
use Rattle.value_references.specs.References.{ref_to}
use Rattle.value_references.proofs.Laws.Names.{told_start, told_next, told_last, ref_le}
use Rattle.value_references.proofs.references.Goals as goal

pub loop-flaw-init : goal.loop-flaw-init
loop-flaw-init c = (omega arith, told_start c.args.word.now c.args.s.now)

pub mark-requires : goal.mark-requires
unfolding ref_to
mark-requires c =
    let p = part c.loop-flaw.at c.seek-e.result c.args.s.now in
    let e : c.index_in.result ≡ ref_to c.args.word.now p = c.index_in.ensures ∙ ap index_in c.read_reference-found.ensures in
    omega (arith, e, ref_le c.args.word.now p)

pub returns-then-e-s : goal.returns-then-e-s
returns-then-e-s c =
    told_last c.loop-flaw.invariant.1 c.seek-e.ensures c.read_reference-found.result c.read_reference-found.ensures c.index_in.result c.index_in.ensures _ _ _
    (ap (λ (t : Bool). c.loop-flaw.like && t) c.is_read-like.ensures)
    (c.sooner-flaw.ensures ∙ ap (sooner c.loop-flaw.flaw) c.flaw_in.ensures)
    c.mark.ensures c.if-e-s.true _ _
    (ap (λ (t : Bool). (c.loop-flaw.like && c.is_read-like.result) && t) c.is_form.ensures)
    c.flaw_where.ensures

pub loop-flaw-preserved : goal.loop-flaw-preserved
loop-flaw-preserved c = (
  omega arith,
  told_next c.loop-flaw.invariant.1 c.seek-e.ensures c.read_reference-found.result c.read_reference-found.ensures c.index_in.result c.index_in.ensures _ _ _
      (ap (λ (t : Bool). c.loop-flaw.like && t) c.is_read-like.ensures)
      (c.sooner-flaw.ensures ∙ ap (sooner c.loop-flaw.flaw) c.flaw_in.ensures)
      c.mark.ensures c.skip_spaces-at.result (omega arith) c.skip_spaces-at.ensures.2,
)
