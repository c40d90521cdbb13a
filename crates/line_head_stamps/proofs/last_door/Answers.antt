-- `line_head_stamps::last_door` meets its contract. The loop's invariant: a way on from the door is a way from the first, in the list with the guesses of now. Forks rise, so the way ends. Assumes nothing.
use mathlib.Core.Path.{refl, ◌∙◌}
use Prim.Native.Nat.{◌≤◌}
use native.Mathlib.Omega.{arith}
use borrow.Author.Tests.{not-true, not-false}
use lib.ListN.{get_or}
use Rattle.line_head_stamps.specs.Ways.{here}
use Rattle.line_head_stamps.proofs.Laws.Passing.{rank_falls}
use Rattle.line_head_stamps.proofs.Laws.Guessing.{guessed_none, guessed_both, ways_kept, doors_kept}
use Rattle.line_head_stamps.proofs.last_door.Goals as goal

pub returns-then-not-is_live : goal.returns-then-not-is_live
returns-then-not-is_live c =
    record {
      guessed = guessed_none _;
      finds_door = record {
        none = λ z. c.is_live.ensures.fact (not-true c.is_live.result c.if-not-is_live.true-raw);
        stamped = λ some. absurd (some refl);
        way = λ some. absurd (some refl);
        ends = λ some. absurd (some refl);
      };
    }

pub nearby-door-requires : goal.nearby-door-requires
nearby-door-requires c =
    record {
      stamps_len = c.requires.stamps_len;
      count_bound = (c.requires.count_bound.0, omega arith, omega (arith, c.requires.count_bound.1));
      doors = c.requires.doors;
      door = (c.is_live.ensures.stamp_value (not-false c.is_live.result c.if-not-is_live.false-raw)).1;
    }

pub loop-stamps-init : goal.loop-stamps-init
loop-stamps-init c = (guessed_none _, c.requires.stamps_len, c.requires.doors, c.nearby-door.ensures.low, c.nearby-door.ensures.high, c.nearby-door.ensures.holds, c.nearby-door.ensures.way)

pub offset_bounds-stamps-door : goal.offset_bounds-stamps-door
offset_bounds-stamps-door c = omega (arith, c.loop-stamps.invariant.4)

pub bounds-stamps-door : goal.bounds-stamps-door
bounds-stamps-door c = omega (arith, c.loop-stamps.invariant.4, c.loop-stamps.invariant.1)

pub further-door-requires : goal.further-door-requires
further-door-requires c =
    let few : c.args.count ≤ 254 = c.requires.count_bound.0 in
    record {
      stamps_len = c.loop-stamps.invariant.1;
      count_bound = (few, c.loop-stamps.invariant.4);
      doors = c.loop-stamps.invariant.2;
      bound = (c.loop-stamps-test.true, c.loop-stamps.invariant.5);
    }

pub loop-stamps-smaller : goal.loop-stamps-smaller
loop-stamps-smaller c = rank_falls (get_or c.loop-stamps.stamps c.loop-stamps.door 0) _ c.loop-stamps-test.true c.loop-stamps.invariant.5.0 (λ g. omega (arith, c.further-door.ensures.goes.rises g, c.further-door.ensures.guessed.kept c.loop-stamps.door (omega (arith, c.loop-stamps.invariant.4))))

pub loop-stamps-preserved : goal.loop-stamps-preserved
loop-stamps-preserved c =
    let few : c.args.count ≤ 254 = c.requires.count_bound.0 in
    (guessed_both c.loop-stamps.invariant.0 c.further-door.ensures.guessed, c.further-door.ensures.guessed.places ∙ c.loop-stamps.invariant.1, doors_kept c.further-door.ensures.guessed few c.loop-stamps.invariant.2, c.further-door.ensures.goes.low, c.further-door.ensures.goes.high, c.further-door.ensures.goes.holds, λ last w. ways_kept c.further-door.ensures.guessed few c.loop-stamps.door _ (omega (arith, c.loop-stamps.invariant.4)) (omega (arith, c.requires.count_bound.1)) c.loop-stamps.invariant.6 last (c.further-door.ensures.goes.way last w))

pub returns : goal.returns
returns c =
    record {
      guessed = c.loop-stamps.invariant.0;
      finds_door = (
        omega (arith, c.loop-stamps.invariant.3),
        record {
          none = λ z. absurd (omega (arith, z, c.loop-stamps.invariant.3));
          stamped = λ some. c.loop-stamps.invariant.0.kept _ (omega (arith, c.requires.count_bound.1)) ∙ (c.is_live.ensures.stamp_value (not-false c.is_live.result c.if-not-is_live.false-raw)).0;
          way = λ some. c.loop-stamps.invariant.6 c.loop-stamps.door here;
          ends = λ some. omega (arith, c.loop-stamps.invariant.5, c.loop-stamps-test.false);
        },
      );
    }
