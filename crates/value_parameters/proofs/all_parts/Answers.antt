-- `value_parameters::all_parts` meets its contract. The invariant: all parts are parameters just where those from `at` on are. Assumes nothing.
use mathlib.Core.Path.{◌≡◌, sym, ◌∙◌}
use Prim.Native.Nat.{◌-◌, ◌≤◌, ◌<◌}
use native.Mathlib.Omega.{arith}
use borrow.Author.Tests.{eqb-true, not-true, not-false}
use lib.Dec.{eqb}
use lib.ListN.{length, drop, get_or}
use Rattle.text_bytes.specs.Places.{part}
use Rattle.value_parameters.specs.Parameters.{is_parameter}
use Rattle.value_parameters.specs.Scan.{start, run}
use Rattle.value_parameters.proofs.Laws.Parts.{all_whole, not_begun, begun, part_from, part_within, part_judged, parts_bad, parts_last, parts_good}
use Rattle.value_parameters.proofs.all_parts.Goals as goal

pub loop-bars-init : goal.loop-bars-init
loop-bars-init c = (omega arith, all_whole c.args.bars c.args.s.now)

pub returns-then-not-begins_part : goal.returns-then-not-begins_part
returns-then-not-begins_part c = sym (c.loop-bars.invariant.1 ∙ not_begun c.args.bars c.args.s.now c.loop-bars.at (sym c.begins_part.ensures ∙ not-true _ c.if-not-begins_part.true-raw))

pub overflow_add-at : goal.overflow_add-at
overflow_add-at c =
    let opened : get_or c.args.s.now c.loop-bars.at 0 ≡ 91 = eqb-true _ 91 (sym c.begins_part.ensures ∙ not-false _ c.if-not-begins_part.false-raw) in
    let inside : c.loop-bars.at < length c.args.s.now = begun c.args.s.now c.loop-bars.at opened in
    omega (arith, inside)

pub scan_part-w-requires : goal.scan_part-w-requires
scan_part-w-requires c =
    let opened : get_or c.args.s.now c.loop-bars.at 0 ≡ 91 = eqb-true _ 91 (sym c.begins_part.ensures ∙ not-false _ c.if-not-begins_part.false-raw) in
    let inside : c.loop-bars.at < length c.args.s.now = begun c.args.s.now c.loop-bars.at opened in
    omega (arith, inside)

pub returns-then-not-is_whole_part : goal.returns-then-not-is_whole_part
returns-then-not-is_whole_part c =
    let opened : get_or c.args.s.now c.loop-bars.at 0 ≡ 91 = eqb-true _ 91 (sym c.begins_part.ensures ∙ not-false _ c.if-not-begins_part.false-raw) in
    let walked : (c.loop-bars.at < c.scan_part-w.result.scan.at) × (c.scan_part-w.result.scan.at ≤ length c.args.s.now) × (c.scan_part-w.result.scan ≡ run c.args.bars (start c.loop-bars.at) (drop c.loop-bars.at c.args.s.now)) = let v = part_within c.args.bars c.args.s.now c.loop-bars.at opened c.scan_part-w.result.scan c.scan_part-w.ensures.0 in
    (v.0, v.1, part_from c.args.bars c.args.s.now c.loop-bars.at opened c.scan_part-w.result.scan c.scan_part-w.ensures.0) in
    let judged : is_parameter (part c.loop-bars.at c.scan_part-w.result.scan.at c.args.s.now) ≡ c.is_whole_part.result = part_judged c.args.bars c.args.s.now c.loop-bars.at opened c.scan_part-w.result.scan c.scan_part-w.ensures.0 (eqb c.scan_part-w.result.last 93) c.scan_part-w.ensures.1 ∙ sym c.is_whole_part.ensures in
    sym (c.loop-bars.invariant.1 ∙ parts_bad is_parameter c.args.bars c.args.s.now c.loop-bars.at c.scan_part-w.result.scan c.loop-bars.invariant.0 walked.2 (judged ∙ not-true _ c.if-not-is_whole_part.true-raw))

pub returns-then-e-s : goal.returns-then-e-s
returns-then-e-s c =
    let opened : get_or c.args.s.now c.loop-bars.at 0 ≡ 91 = eqb-true _ 91 (sym c.begins_part.ensures ∙ not-false _ c.if-not-begins_part.false-raw) in
    let walked : (c.loop-bars.at < c.scan_part-w.result.scan.at) × (c.scan_part-w.result.scan.at ≤ length c.args.s.now) × (c.scan_part-w.result.scan ≡ run c.args.bars (start c.loop-bars.at) (drop c.loop-bars.at c.args.s.now)) = let v = part_within c.args.bars c.args.s.now c.loop-bars.at opened c.scan_part-w.result.scan c.scan_part-w.ensures.0 in
    (v.0, v.1, part_from c.args.bars c.args.s.now c.loop-bars.at opened c.scan_part-w.result.scan c.scan_part-w.ensures.0) in
    let judged : is_parameter (part c.loop-bars.at c.scan_part-w.result.scan.at c.args.s.now) ≡ c.is_whole_part.result = part_judged c.args.bars c.args.s.now c.loop-bars.at opened c.scan_part-w.result.scan c.scan_part-w.ensures.0 (eqb c.scan_part-w.result.last 93) c.scan_part-w.ensures.1 ∙ sym c.is_whole_part.ensures in
    sym (c.loop-bars.invariant.1 ∙ parts_last is_parameter c.args.bars c.args.s.now c.loop-bars.at c.scan_part-w.result.scan c.loop-bars.invariant.0 walked.2 c.if-e-s.true (judged ∙ not-false _ c.if-not-is_whole_part.false-raw))

pub overflow_add-at-in-loop-bars : goal.overflow_add-at-in-loop-bars
overflow_add-at-in-loop-bars c =
    let opened : get_or c.args.s.now c.loop-bars.at 0 ≡ 91 = eqb-true _ 91 (sym c.begins_part.ensures ∙ not-false _ c.if-not-begins_part.false-raw) in
    let walked : (c.loop-bars.at < c.scan_part-w.result.scan.at) × (c.scan_part-w.result.scan.at ≤ length c.args.s.now) × (c.scan_part-w.result.scan ≡ run c.args.bars (start c.loop-bars.at) (drop c.loop-bars.at c.args.s.now)) = let v = part_within c.args.bars c.args.s.now c.loop-bars.at opened c.scan_part-w.result.scan c.scan_part-w.ensures.0 in
    (v.0, v.1, part_from c.args.bars c.args.s.now c.loop-bars.at opened c.scan_part-w.result.scan c.scan_part-w.ensures.0) in
    omega (arith, walked.1)

pub loop-bars-smaller : goal.loop-bars-smaller
loop-bars-smaller c =
    let opened : get_or c.args.s.now c.loop-bars.at 0 ≡ 91 = eqb-true _ 91 (sym c.begins_part.ensures ∙ not-false _ c.if-not-begins_part.false-raw) in
    let walked : (c.loop-bars.at < c.scan_part-w.result.scan.at) × (c.scan_part-w.result.scan.at ≤ length c.args.s.now) × (c.scan_part-w.result.scan ≡ run c.args.bars (start c.loop-bars.at) (drop c.loop-bars.at c.args.s.now)) = let v = part_within c.args.bars c.args.s.now c.loop-bars.at opened c.scan_part-w.result.scan c.scan_part-w.ensures.0 in
    (v.0, v.1, part_from c.args.bars c.args.s.now c.loop-bars.at opened c.scan_part-w.result.scan c.scan_part-w.ensures.0) in
    omega (arith, walked.0, walked.1)

pub loop-bars-preserved : goal.loop-bars-preserved
loop-bars-preserved c =
    let opened : get_or c.args.s.now c.loop-bars.at 0 ≡ 91 = eqb-true _ 91 (sym c.begins_part.ensures ∙ not-false _ c.if-not-begins_part.false-raw) in
    let walked : (c.loop-bars.at < c.scan_part-w.result.scan.at) × (c.scan_part-w.result.scan.at ≤ length c.args.s.now) × (c.scan_part-w.result.scan ≡ run c.args.bars (start c.loop-bars.at) (drop c.loop-bars.at c.args.s.now)) = let v = part_within c.args.bars c.args.s.now c.loop-bars.at opened c.scan_part-w.result.scan c.scan_part-w.ensures.0 in
    (v.0, v.1, part_from c.args.bars c.args.s.now c.loop-bars.at opened c.scan_part-w.result.scan c.scan_part-w.ensures.0) in
    let judged : is_parameter (part c.loop-bars.at c.scan_part-w.result.scan.at c.args.s.now) ≡ c.is_whole_part.result = part_judged c.args.bars c.args.s.now c.loop-bars.at opened c.scan_part-w.result.scan c.scan_part-w.ensures.0 (eqb c.scan_part-w.result.last 93) c.scan_part-w.ensures.1 ∙ sym c.is_whole_part.ensures in
    let lt : c.scan_part-w.result.scan.at < length c.args.s.now = omega (arith, walked.1) in
    (omega arith, c.loop-bars.invariant.1 ∙ parts_good is_parameter c.args.bars c.args.s.now c.loop-bars.at c.scan_part-w.result.scan c.loop-bars.invariant.0 walked.2 lt (judged ∙ not-false _ c.if-not-is_whole_part.false-raw))
