-- `text::lines::next_opening` meets its contract: blocks are passed over, then byte by byte up to the first LF before b. Assumes nothing.
use mathlib.Core.Path.{subst⁻¹}
use Prim.Native.Nat.{ℕ, ◌+◌, ◌<◌}
use native.Mathlib.Omega.{arith}
use lib.ListN.{length}
use Rattle.text.specs.Openings.{Passes}
use Rattle.text.proofs.Laws.Openings.{passes_end, passes_other, reaches_opening, reaches_end}
use Rattle.text.proofs.lines.next_opening.Goals as goal
use Rattle.text.proofs.lines.next_opening.Goals.{then-file-at-eq-LF+else-file-at, else-file-at-eq-LF}

pub loop-at-init : goal.loop-at-init
loop-at-init c = c.pass_lines-passed.ensures

pub bounds-file-at : goal.bounds-file-at
bounds-file-at c = omega (arith, c.loop-at.invariant.within)

pub overflow_add-at : goal.overflow_add-at
overflow_add-at c =
    let follows : c.loop-at.at + 1 < length c.args.file.now = omega (arith, c.loop-at.invariant.within, c.loop-at-test.true) in
    omega (arith, follows, c.requires)

pub bounds-file-at-then-file-at-eq-LF : goal.bounds-file-at-then-file-at-eq-LF
bounds-file-at-then-file-at-eq-LF c =
    let follows : c.loop-at.at + 1 < length c.args.file.now = omega (arith, c.loop-at.invariant.within, c.loop-at-test.true) in
    omega (arith, follows)

pub overflow_add-result : goal.overflow_add-result
overflow_add-result c =
    let follows : c.loop-at.at + 1 < length c.args.file.now = omega (arith, c.loop-at.invariant.within, c.loop-at-test.true) in
    omega (arith, follows, c.requires)

pub overflow_add-result-then-file-at : goal.overflow_add-result-then-file-at
overflow_add-result-then-file-at c =
    let few : c.loop-at.n + 1 < 4294967296 = omega (arith, c.loop-at.invariant.few, c.loop-at.invariant.within, c.requires) in
    omega (arith, few)

pub returns-then-file-at : goal.returns-then-file-at
returns-then-file-at c =
    let follows : c.loop-at.at + 1 < length c.args.file.now = omega (arith, c.loop-at.invariant.within, c.loop-at-test.true) in
    reaches_opening c.loop-at.invariant c.requires.fact follows c.if-file-at-eq-LF.true

pub overflow_add-n : goal.overflow_add-n
overflow_add-n c =
    let few : c.loop-at.n + 1 < 4294967296 = omega (arith, c.loop-at.invariant.few, c.loop-at.invariant.within, c.requires) in
    omega (arith, few)

pub loop-at-preserved : goal.loop-at-preserved
loop-at-preserved c =
    let follows : c.loop-at.at + 1 < length c.args.file.now = omega (arith, c.loop-at.invariant.within, c.loop-at-test.true) in
    elim c.if-file-at-eq-LF.branch [ then-file-at-eq-LF+else-file-at w ↦ subst⁻¹ (λ (m : ℕ). Passes c.args.b c.args.file.now c.args.from (c.loop-at.at + 1) m) w.n-is (passes_end c.loop-at.invariant follows w.if-file-at-eq-LF.true w.if-file-at.false) | else-file-at-eq-LF w ↦ subst⁻¹ (λ (m : ℕ). Passes c.args.b c.args.file.now c.args.from (c.loop-at.at + 1) m) w.n-is (passes_other c.loop-at.invariant follows w.if-file-at-eq-LF.false) ]

pub overflow_add-result-2 : goal.overflow_add-result-2
overflow_add-result-2 c =
    let few : c.loop-at.n + 1 < 4294967296 = omega (arith, c.loop-at.invariant.few, c.loop-at.invariant.within, c.requires) in
    omega (arith, few)

pub returns : goal.returns
returns c = reaches_end c.loop-at.invariant c.requires.fact (omega (arith, c.loop-at-test.false))
