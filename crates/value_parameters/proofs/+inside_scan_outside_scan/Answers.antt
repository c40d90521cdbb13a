-- `value_parameters::outside_scan` and `inside_scan`, which call each other, meet their contracts. Assumes nothing.
use mathlib.Core.Path.{◌≡◌, refl, sym, ap, ◌∙◌}
use native.Mathlib.Omega.{arith}
use mathlib.Core.Bool.{Bool, true, false, true≢false}
use Prim.Native.Nat.{ℕ}
use lib.Dec.{eqb}
use Rattle.text_bytes.specs.Places.{part}
use Rattle.value_parameters.specs.Scan.{state, run}
use Rattle.value_parameters.specs.declared.Scan.{Scan}
use Rattle.value_parameters.proofs.Laws.Scans.{run_none, run_inner, run_closes, run_opens, run_stops}
use Rattle.value_parameters.proofs.Laws.Walks.{shut_none, shut_next, filled_at, filled_start, filled_mark, stays, on_comma, on_blank, on_other, on_plain, mark_on}
use Rattle.value_parameters.proofs.+inside_scan_outside_scan.Goals as goal
use Rattle.value_parameters.proofs.+inside_scan_outside_scan.Goals.{outside_scan-then-b-gt-COMMA+else-ends_part, outside_scan-else-b-gt-COMMA+else-b-eq-MARK+then-b-eq-COMMA, outside_scan-else-b-gt-COMMA+else-b-eq-MARK+else-b-eq-COMMA+then-is_blank, outside_scan-else-b-gt-COMMA+else-b-eq-MARK+else-b-eq-COMMA+else-is_blank}

pub inside_scan-loop-i-init : goal.inside_scan-loop-i-init
inside_scan-loop-i-init t c = refl

pub inside_scan-outside_scan-requires : goal.inside_scan-outside_scan-requires
inside_scan-outside_scan-requires t c = (omega arith, (omega arith, omega arith))

pub inside_scan-returns-then-b-eq-MARK : goal.inside_scan-returns-then-b-eq-MARK
inside_scan-returns-then-b-eq-MARK t c =
    let l = c.loop-i in
    let a = c.args in
    let m = c.if-b-eq-MARK.true in
    let w = c.outside_scan.ensures in (
      w.0 ∙ sym (l.invariant ∙ run_closes a.bars a.s.now l.i a.end (omega arith) (omega arith) a.commas l.f c.fills-f.result m c.fills-f.ensures),
      mark_on a.bars a.s.now l.i a.end (omega arith) (omega arith) a.at a.commas false c.fills-f.result (eqb c.outside_scan.result.last 93) c.outside_scan.result.scan (omega arith) m w.0 w.1,
    )

pub inside_scan-loop-i-preserved : goal.inside_scan-loop-i-preserved
inside_scan-loop-i-preserved t c =
    let l = c.loop-i in
    let a = c.args in
    l.invariant ∙ run_inner a.bars a.s.now l.i a.end (omega arith) (omega arith) a.commas l.f c.fills-f.result c.if-b-eq-MARK.false c.fills-f.ensures

pub inside_scan-returns : goal.inside_scan-returns
inside_scan-returns t c =
    let l = c.loop-i in
    let a = c.args in
    let e : l.i ≡ a.end = omega arith in
    let w = c.stands.ensures.0 in
    (w ∙ sym (l.invariant ∙ rw e (run_none a.bars (state a.end a.commas true l.f) a.end a.s.now)), λ q. absurd (true≢false (sym (ap (λ (x : Scan). x.quoted) w) ∙ q)))

pub outside_scan-loop-i-init : goal.outside_scan-loop-i-init
outside_scan-loop-i-init t c =
    let a = c.args in
    (omega arith, ap (λ (t : Bool). run a.bars (state a.at a.commas false t) (part a.at a.end a.s.now)) (sym (filled_start a.commas a.filled a.at)), sym (shut_none a.s.now a.at))

pub outside_scan-returns-then-ends_part : goal.outside_scan-returns-then-ends_part
outside_scan-returns-then-ends_part t c =
    let l = c.loop-i in
    let a = c.args in
    let w = c.stands.ensures in (
      w.0
          ∙ ap (state l.i l.n false) c.fills_from.ensures
          ∙ sym (l.invariant.1 ∙ run_stops a.bars a.s.now l.i a.end (omega arith) (omega arith) l.n (filled_at l.n l.f l.gap l.i) (sym c.ends_part.ensures ∙ c.if-ends_part.true)),
      λ q. stays a.s.now a.at l.i l.last c.stands.result.last c.stands.result.scan (ap (λ (x : Scan). x.at) w.0) w.1 l.invariant.2,
    )

pub outside_scan-inside_scan-requires : goal.outside_scan-inside_scan-requires
outside_scan-inside_scan-requires t c = (omega arith, (omega arith, omega arith))

pub outside_scan-returns-then-b-eq-MARK : goal.outside_scan-returns-then-b-eq-MARK
outside_scan-returns-then-b-eq-MARK t c =
    let l = c.loop-i in
    let a = c.args in
    let m = c.if-b-eq-MARK.true in
    let w = c.inside_scan.ensures in
    let g = c.fills.result in (
      w.0 ∙ sym (l.invariant.1 ∙ run_opens a.bars a.s.now l.i a.end (omega arith) (omega arith) l.n (filled_at l.n l.f l.gap l.i) g m (c.fills.ensures ∙ filled_mark l.n l.f l.gap l.i _ m)),
      mark_on a.bars a.s.now l.i a.end (omega arith) (omega arith) a.at l.n true g (eqb c.inside_scan.result.last 93) c.inside_scan.result.scan (omega arith) m w.0 w.1,
    )

pub outside_scan-loop-i-preserved : goal.outside_scan-loop-i-preserved
outside_scan-loop-i-preserved t c =
    let l = c.loop-i in
    let a = c.args in
    let last = ap (λ (b : ℕ). eqb b 93) c.from-last.ensures ∙ sym (shut_next a.s.now a.at l.i (omega arith)) in
    elim c.if-b-gt-COMMA.branch [
      | outside_scan-then-b-gt-COMMA+else-ends_part w ↦ (omega (arith, w.gap-is), l.invariant.1 ∙ rw (w.n-is, w.f-is, w.gap-is) (on_plain a.bars a.s.now l.i a.end (omega arith) (omega arith) l.n l.f l.gap (omega arith) w.if-b-gt-COMMA.true (sym w.ends_part.ensures ∙ w.if-ends_part.false)), last)
      | outside_scan-else-b-gt-COMMA+else-b-eq-MARK+then-b-eq-COMMA w ↦ (omega (arith, w.gap-is), l.invariant.1 ∙ rw (w.n-is, w.f-is, w.gap-is) (on_comma a.bars a.s.now l.i a.end (omega arith) (omega arith) l.n w.counted-n.result l.f w.fills_from-f.result l.gap w.if-b-gt-COMMA.false w.if-b-eq-MARK.false w.if-b-eq-COMMA.true w.counted-n.ensures w.fills_from-f.ensures), last)
      | outside_scan-else-b-gt-COMMA+else-b-eq-MARK+else-b-eq-COMMA+then-is_blank w ↦ (omega (arith, w.gap-is), l.invariant.1 ∙ rw (w.n-is, w.f-is, w.gap-is) (on_blank a.bars a.s.now l.i a.end (omega arith) (omega arith) l.n l.f l.gap w.if-b-gt-COMMA.false w.if-b-eq-MARK.false w.if-b-eq-COMMA.false (sym w.is_blank.ensures ∙ w.if-is_blank.true)), last)
      | outside_scan-else-b-gt-COMMA+else-b-eq-MARK+else-b-eq-COMMA+else-is_blank w ↦ (omega (arith, w.gap-is), l.invariant.1 ∙ rw (w.n-is, w.f-is, w.gap-is) (on_other a.bars a.s.now l.i a.end (omega arith) (omega arith) l.n l.f l.gap (omega arith) w.if-b-gt-COMMA.false w.if-b-eq-MARK.false w.if-b-eq-COMMA.false (sym w.is_blank.ensures ∙ w.if-is_blank.false)), last)
    ]

pub outside_scan-returns : goal.outside_scan-returns
outside_scan-returns t c =
    let l = c.loop-i in
    let a = c.args in
    let e : l.i ≡ a.end = omega arith in
    let w = c.stands-2.ensures in (
      w.0
          ∙ ap (state a.end l.n false) c.fills_from-2.ensures
          ∙ sym (l.invariant.1 ∙ rw e (run_none a.bars (state a.end l.n false (filled_at l.n l.f l.gap a.end)) a.end a.s.now)),
      λ q. stays a.s.now a.at a.end l.last c.stands-2.result.last c.stands-2.result.scan (ap (λ (x : Scan). x.at) w.0) w.1 (rw e at l.invariant.2),
    )
