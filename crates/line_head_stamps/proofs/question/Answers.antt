-- `line_head_stamps::question` meets its contract: the first place where two names differ is the end of both, or there the lowest four bits that differ part them. Assumes nothing.
use mathlib.Core.Path.{refl, sym, ◌∙◌}
use native.Mathlib.Omega.{arith}
use Rattle.line_head_stamps.proofs.Laws.Asking.{both_ended, ended_both, side_parts}
use Rattle.line_head_stamps.proofs.question.Goals as goal

pub returns-then-place-a : goal.returns-then-place-a
returns-then-place-a c =
    let e = both_ended c.first_difference-place.result _ _ c.if-place-a.true in
    record { a_value = λ s. c.first_difference-place.ensures.equal e.0 e.1; fact = λ other. absurd (other refl) }

pub returns : goal.returns
returns c =
    record {
      a_value = λ s. absurd (omega (arith, s, c.first_difference-place.ensures.within, c.requires, c.differing_bits-shift.ensures.0));
      fact = λ other. side_parts c.args.a.now c.args.b.now c.first_difference-place.result c.differing_bits-shift.result c.code_at.result c.code_at-2.result c.differing_bits-shift.ensures.0 c.code_at.ensures.0 c.code_at-2.ensures.0 c.differing_bits-shift.ensures.1
          (λ e. let d = c.first_difference-place.ensures.ended (sym c.code_at.ensures.0 ∙ e ∙ c.code_at-2.ensures.0) in ended_both c.first_difference-place.result _ _ c.if-place-a.false d.0 d.1);
    }
