-- `tally_cells::digits_from` meets its contract. The invariant: what stands from the place up to i is digits, and n is the number that they write. Assumes nothing.
use mathlib.Core.Path.{◌≡◌, sym, ◌∙◌}
use mathlib.Core.Bool.{true}
use mathlib.Core.Logic.{⊎_elim}
use Prim.Native.Nat.{◌-◌, ◌≤◌}
use native.Mathlib.Omega.{arith}
use borrow.Author.Tests.{not-true, not-false}
use lib.ListN.{get_or}
use Rattle.value_references.specs.Index.{is_digit}
use Rattle.tally_cells.proofs.Laws.Reading.{digit_range, so_none, so_next, so_small, so_ends}
use Rattle.tally_cells.proofs.digits_from.Goals as goal

pub loop-i-init : goal.loop-i-init
loop-i-init c = so_none _ _ c.requires

pub bounds-s-i : goal.bounds-s-i
bounds-s-i c = omega (arith, c.stop_after-stop.ensures.1)

pub returns-then-not-is_digit : goal.returns-then-not-is_digit
returns-then-not-is_digit c = so_ends c.loop-i.invariant (omega (arith, c.stop_after-stop.ensures.2)) (λ l m. sym c.is_digit.ensures ∙ not-true c.is_digit.result c.if-not-is_digit.true-raw)

pub overflow_mul-n : goal.overflow_mul-n
overflow_mul-n c = omega (arith, so_small c.loop-i.invariant (omega (arith, c.stop_after-stop.ensures.2)))

pub bounds-s-i-in-loop-i : goal.bounds-s-i-in-loop-i
bounds-s-i-in-loop-i c = omega (arith, c.stop_after-stop.ensures.1)

pub overflow_sub-s : goal.overflow_sub-s
overflow_sub-s c =
    let digit : is_digit (get_or c.args.s.now c.loop-i.i 0) ≡ true = sym c.is_digit.ensures ∙ not-false c.is_digit.result c.if-not-is_digit.false-raw in
    let in_range : let x = get_or c.args.s.now c.loop-i.i 0 in (48 ≤ x) × (x ≤ 57) = digit_range (get_or c.args.s.now c.loop-i.i 0) digit in
    in_range.0

pub overflow_add-n : goal.overflow_add-n
overflow_add-n c =
    let digit : is_digit (get_or c.args.s.now c.loop-i.i 0) ≡ true = sym c.is_digit.ensures ∙ not-false c.is_digit.result c.if-not-is_digit.false-raw in
    let in_range : let x = get_or c.args.s.now c.loop-i.i 0 in (48 ≤ x) × (x ≤ 57) = digit_range (get_or c.args.s.now c.loop-i.i 0) digit in
    let d = in_range in
    omega (arith, c.from.ensures, so_small c.loop-i.invariant (omega (arith, c.stop_after-stop.ensures.2)))

pub loop-i-preserved : goal.loop-i-preserved
loop-i-preserved c =
    let digit : is_digit (get_or c.args.s.now c.loop-i.i 0) ≡ true = sym c.is_digit.ensures ∙ not-false c.is_digit.result c.if-not-is_digit.false-raw in
    so_next c.loop-i.invariant (omega (arith, c.stop_after-stop.ensures.1)) digit c.from.ensures

pub returns : goal.returns
returns c =
    let e : c.loop-i.i ≡ c.stop_after-stop.result = omega (arith, c.stop_after-stop.ensures.0) in
    so_ends (rw e at c.loop-i.invariant) (omega (arith, c.stop_after-stop.ensures.2)) (λ l m. absurd (⊎_elim (λ q. omega arith) (λ q. omega arith) c.stop_after-stop.ensures.3))
