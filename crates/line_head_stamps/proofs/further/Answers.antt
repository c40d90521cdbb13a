-- `line_head_stamps::further` meets its contract. The loop's invariant: what is held leads to a fork, and a way on from the name's door there is one from the first. Forks rise, so it ends; a guess is all that is written. Assumes nothing.
use mathlib.Core.Path.{refl, subst}
use mathlib.Core.List.{List}
use Prim.Native.Nat.{ℕ, ◌+◌, ◌-◌, ◌*◌, ◌≤◌}
use native.Mathlib.Omega.{arith}
use lib.ListN.{get_or, set}
use Rattle.line_head_stamps.specs.Ways.{Guessed, Goes}
use Rattle.line_head_stamps.proofs.Laws.Passing.{leads_first, leads_on, door_rises, goes_door}
use Rattle.line_head_stamps.proofs.Laws.Guessing.{guessed_none, guessed_one, goes_kept}
use Rattle.line_head_stamps.proofs.further.Goals as goal

pub loop-stamps-init : goal.loop-stamps-init
loop-stamps-init c = (refl, c.requires.stamps_len, c.requires.doors, leads_first c.args.from c.requires.bound.0 c.requires.bound.1 refl)

pub overflow_sub-fork : goal.overflow_sub-fork
overflow_sub-fork c = omega (arith, c.loop-stamps.invariant.3.0)

pub bounds-stamps-fork : goal.bounds-stamps-fork
bounds-stamps-fork c = omega (arith, c.loop-stamps.invariant.3.1, c.loop-stamps.invariant.1)

pub bounds-stamps-fork-in-loop-stamps : goal.bounds-stamps-fork-in-loop-stamps
bounds-stamps-fork-in-loop-stamps c = omega (arith, c.loop-stamps.invariant.3.1, c.loop-stamps.invariant.1)

pub overflow_add-door-in-loop-stamps : goal.overflow_add-door-in-loop-stamps
overflow_add-door-in-loop-stamps c =
    let fork : ℕ = c.loop-stamps.held - 256 in
    let few : c.args.count ≤ 254 = c.requires.count_bound.0 in
    let goes : let a = c.args in Goes c.loop-stamps.stamps a.count a.name.now a.from (8192 + 16 * fork + c.side.result) = goes_door fork c.side.result c.loop-stamps.invariant.2 few c.loop-stamps.invariant.3 refl c.side.ensures in
    omega (arith, goes.high)

pub offset_bounds-stamps-door : goal.offset_bounds-stamps-door
offset_bounds-stamps-door c =
    let fork : ℕ = c.loop-stamps.held - 256 in
    let few : c.args.count ≤ 254 = c.requires.count_bound.0 in
    let goes : let a = c.args in Goes c.loop-stamps.stamps a.count a.name.now a.from (8192 + 16 * fork + c.side.result) = goes_door fork c.side.result c.loop-stamps.invariant.2 few c.loop-stamps.invariant.3 refl c.side.ensures in
    omega (arith, goes.high)

pub bounds-stamps-door : goal.bounds-stamps-door
bounds-stamps-door c =
    let fork : ℕ = c.loop-stamps.held - 256 in
    let few : c.args.count ≤ 254 = c.requires.count_bound.0 in
    let goes : let a = c.args in Goes c.loop-stamps.stamps a.count a.name.now a.from (8192 + 16 * fork + c.side.result) = goes_door fork c.side.result c.loop-stamps.invariant.2 few c.loop-stamps.invariant.3 refl c.side.ensures in
    omega (arith, goes.high, c.loop-stamps.invariant.1)

pub bounds-stamps-fork-then-there-guess : goal.bounds-stamps-fork-then-there-guess
bounds-stamps-fork-then-there-guess c = omega (arith, c.loop-stamps.invariant.3.1, c.loop-stamps.invariant.1)

-- the guess is written, or nothing
pub returns-then-there-guess : goal.returns-then-there-guess
returns-then-there-guess c =
    let fork : ℕ = c.loop-stamps.held - 256 in
    let few : c.args.count ≤ 254 = c.requires.count_bound.0 in
    let goes : let a = c.args in Goes c.loop-stamps.stamps a.count a.name.now a.from (8192 + 16 * fork + c.side.result) = goes_door fork c.side.result c.loop-stamps.invariant.2 few c.loop-stamps.invariant.3 refl c.side.ensures in
    let there = get_or c.loop-stamps.stamps (8192 + 16 * fork + c.side.result) 0 in
    let g = guessed_one c.loop-stamps.stamps (13056 + fork) there (omega arith) in
    record {
      guessed = subst (λ (u : List ℕ). Guessed u (set c.loop-stamps.stamps (13056 + fork) there)) c.loop-stamps.invariant.0 g;
      goes = goes_kept g few (omega (arith, c.requires.count_bound.1)) goes;
    }

pub returns-then-guess-lt-FORK : goal.returns-then-guess-lt-FORK
returns-then-guess-lt-FORK c =
    let fork : ℕ = c.loop-stamps.held - 256 in
    let few : c.args.count ≤ 254 = c.requires.count_bound.0 in
    let goes : let a = c.args in Goes c.loop-stamps.stamps a.count a.name.now a.from (8192 + 16 * fork + c.side.result) = goes_door fork c.side.result c.loop-stamps.invariant.2 few c.loop-stamps.invariant.3 refl c.side.ensures in
    record {
      guessed = subst (λ (u : List ℕ). Guessed u c.loop-stamps.stamps) c.loop-stamps.invariant.0 (guessed_none c.loop-stamps.stamps);
      goes = goes;
    }

pub loop-stamps-smaller : goal.loop-stamps-smaller
loop-stamps-smaller c =
    let fork : ℕ = c.loop-stamps.held - 256 in
    let few : c.args.count ≤ 254 = c.requires.count_bound.0 in
    omega (arith, door_rises fork c.side.result c.loop-stamps.invariant.2 few c.loop-stamps.invariant.3 refl c.side.ensures (omega (arith, c.if-there-guess.false, c.if-guess-lt-FORK.false)), c.if-there-guess.false, c.loop-stamps.invariant.3.1)

pub loop-stamps-preserved : goal.loop-stamps-preserved
loop-stamps-preserved c =
    let fork : ℕ = c.loop-stamps.held - 256 in
    let few : c.args.count ≤ 254 = c.requires.count_bound.0 in
    let goes : let a = c.args in Goes c.loop-stamps.stamps a.count a.name.now a.from (8192 + 16 * fork + c.side.result) = goes_door fork c.side.result c.loop-stamps.invariant.2 few c.loop-stamps.invariant.3 refl c.side.ensures in
    (c.loop-stamps.invariant.0, c.loop-stamps.invariant.1, c.loop-stamps.invariant.2, leads_on _ c.if-guess-lt-FORK.false (rw c.if-there-guess.false at goes.holds) c.if-there-guess.false goes)
