-- `line_head_stamps::nearby` meets its contract. The loop's invariant: a way on from the door is a way from the first. Assumes nothing.
use mathlib.Core.Path.{refl}
use Prim.Native.Nat.{◌+◌, ◌-◌, ◌*◌, ◌<◌}
use native.Mathlib.Omega.{arith}
use lib.ListN.{get_or}
use Rattle.line_head_stamps.specs.Ways.{Goes}
use Rattle.line_head_stamps.proofs.Laws.Passing.{leads_first, goes_door, near_first, near_next, near_goes}
use Rattle.line_head_stamps.proofs.nearby.Goals as goal

pub loop-init : goal.loop-init
loop-init c = (near_first c.requires.count_bound.1 c.requires.count_bound.2 c.requires.door, omega arith)

pub offset_bounds-stamps-door : goal.offset_bounds-stamps-door
offset_bounds-stamps-door c = omega (arith, c.loop.invariant.0.1)

pub bounds-stamps-door : goal.bounds-stamps-door
bounds-stamps-door c = omega (arith, c.loop.invariant.0.1, c.requires.stamps_len)

pub returns-then-held-lt-FORK : goal.returns-then-held-lt-FORK
returns-then-held-lt-FORK c = near_goes c.loop.invariant.0 (λ h. absurd (omega (arith, h, c.if-held-lt-FORK.true)))

pub overflow_mul-door : goal.overflow_mul-door
overflow_mul-door c =
    let below : (get_or c.args.stamps.now c.loop.door 0 - 256) < 256 = omega (arith, c.loop.invariant.0.2) in
    omega (arith, below)

pub overflow_add-door : goal.overflow_add-door
overflow_add-door c =
    let below : (get_or c.args.stamps.now c.loop.door 0 - 256) < 256 = omega (arith, c.loop.invariant.0.2) in
    omega (arith, below)

pub overflow_add-fork : goal.overflow_add-fork
overflow_add-fork c =
    let below : (get_or c.args.stamps.now c.loop.door 0 - 256) < 256 = omega (arith, c.loop.invariant.0.2) in
    omega (arith, below)

pub offset_bounds-stamps-fork : goal.offset_bounds-stamps-fork
offset_bounds-stamps-fork c =
    let below : (get_or c.args.stamps.now c.loop.door 0 - 256) < 256 = omega (arith, c.loop.invariant.0.2) in
    omega (arith, below)

pub bounds-stamps-fork : goal.bounds-stamps-fork
bounds-stamps-fork c =
    let below : (get_or c.args.stamps.now c.loop.door 0 - 256) < 256 = omega (arith, c.loop.invariant.0.2) in
    omega (arith, below, c.requires.stamps_len)

pub overflow_add-door-in-loop : goal.overflow_add-door-in-loop
overflow_add-door-in-loop c =
    let goes : let a = c.args in Goes a.stamps.now a.count a.name.now c.loop.door (8192 + 16 * (get_or c.args.stamps.now c.loop.door 0 - 256) + c.side.result) = goes_door (get_or c.args.stamps.now c.loop.door 0 - 256) c.side.result c.requires.doors c.requires.count_bound.0 (leads_first c.loop.door c.if-held-lt-FORK.false c.loop.invariant.0.2 refl) refl c.side.ensures in
    omega (arith, goes.high)

pub loop-preserved : goal.loop-preserved
loop-preserved c =
    let goes : let a = c.args in Goes a.stamps.now a.count a.name.now c.loop.door (8192 + 16 * (get_or c.args.stamps.now c.loop.door 0 - 256) + c.side.result) = goes_door (get_or c.args.stamps.now c.loop.door 0 - 256) c.side.result c.requires.doors c.requires.count_bound.0 (leads_first c.loop.door c.if-held-lt-FORK.false c.loop.invariant.0.2 refl) refl c.side.ensures in
    (near_next c.loop.invariant.0 c.if-held-lt-FORK.false goes, omega (arith, c.loop-test.true))

pub returns : goal.returns
returns c = near_goes c.loop.invariant.0 (λ h. omega (arith, c.loop-test.false))
