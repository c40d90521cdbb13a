-- `line_end::judge_ids` meets its contract. The loop's invariant: what was put, and what the ids left will put, is what all ids put. Assumes nothing.
use mathlib.Core.Path.{refl, sym, ap, ◌∙◌}
use mathlib.Core.Bool.{Bool, false, ◌&&◌}
use mathlib.Core.List.{[]}
use Prim.Native.Nat.{◌+◌, ◌<◌}
use native.Mathlib.Omega.{arith}
use borrow.Author.Rules.{rules}
use lib.ListN.{length, get_or}
use Rattle.scan.specs.Places.{lent, put_all}
use Rattle.scan.specs.Machine.{marks}
use Rattle.line_end.proofs.Laws.Wanting.{absent_at, ids_turn, ids_done}
use Rattle.line_end.proofs.judge_ids.Goals as goal

pub offset_bounds-flags-d : goal.offset_bounds-flags-d
offset_bounds-flags-d c = omega (arith, c.requires.each_bound, c.requires.flags.families)

pub bounds-flags-d : goal.bounds-flags-d
bounds-flags-d c = c.requires.each_bound

pub loop-i-init : goal.loop-i-init
loop-i-init c = (search rules, search rules, λ rest. refl)

pub offset_bounds-slots-from : goal.offset_bounds-slots-from
offset_bounds-slots-from c =
    let slot_in : c.args.from + c.loop-i.i < length c.args.slots.now = omega (arith, c.requires.from_in_bounds, c.loop-i-test.true) in
    search (rules, slot_in)

pub bounds-slots-from : goal.bounds-slots-from
bounds-slots-from c = omega (arith, c.requires.from_in_bounds, c.loop-i-test.true)

pub put_if-c-requires : goal.put_if-c-requires
put_if-c-requires c = omega (arith, c.loop-i.invariant.0, c.loop-i-test.true, c.requires.count_bound)

pub loop-i-preserved : goal.loop-i-preserved
loop-i-preserved c = (
  omega (arith, c.put_if-c.ensures.most, c.loop-i.invariant.0),
  search rules,
  ids_turn c.args.d c.args.asked (marks c.args.slots.now) (get_or c.args.flags.now c.args.d.each []) c.args.from c.args.line_no c.loop-i.i (lent c.args.places.now c.args.count) c.loop-i-test.true refl
      (ap (λ (t : Bool). (c.args.asked && get_or (get_or c.args.flags.now c.args.d.each []) c.loop-i.i false) && t) (absent_at c.args.slots.now (c.args.from + c.loop-i.i))) (omega arith) c.put_if-c.ensures c.loop-i.invariant.2,
)

pub returns : goal.returns
returns c =
    record {
      does = λ rest. ap (put_all (lent c.loop-i.places c.loop-i.c)) (sym (ids_done _ _ _ _ _ _ c.loop-i.i rest c.loop-i-test.false)) ∙ c.loop-i.invariant.2 rest;
      most = omega (arith, c.loop-i.invariant.0, c.loop-i.auto.i-end);
    }
