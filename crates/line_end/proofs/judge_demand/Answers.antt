-- `line_end::judge_demand` meets its contract: the slots of the demanded key say whether a line has it. Assumes nothing.
use mathlib.Core.Path.{◌≡◌, refl}
use mathlib.Core.Bool.{false, ◌&&◌}
use Prim.Native.Nat.{◌<◌}
use native.Mathlib.Omega.{arith}
use lib.ListN.{length, get_or}
use Rattle.book.specs.Book.{SECTIONS, no_demand, key_entries}
use Rattle.book.specs.Text.{book_in}
use Rattle.book.proofs.Laws.Sized.{book_sized}
use Rattle.scan.specs.Machine.{is_asked_in}
use Rattle.line_end.specs.Ends.{seen}
use Rattle.line_end.proofs.Laws.Wanting.{entry_in, section_in, asked_is, once_slots, once_many, once_puts, family_in, ids_slots, ids_many, ids_puts}
use Rattle.line_end.proofs.judge_demand.Goals as goal

pub start_of-from-requires : goal.start_of-from-requires
start_of-from-requires c =
    let inside : c.nth_demand-d.result.entry < length (key_entries (book_in c.args.book.now)) = entry_in _ (book_sized c.args.book.now) _ c.requires.k_in_bounds _ c.nth_demand-d.ensures in
    record { book = c.requires.book; in_bounds = omega (arith, inside) }

pub bounds-end-d : goal.bounds-end-d
bounds-end-d c =
    let section : c.nth_demand-d.result.section < SECTIONS = section_in _ (book_sized c.args.book.now) _ c.requires.k_in_bounds _ c.nth_demand-d.ensures in
    section

pub judge_ids-requires : goal.judge_ids-requires
judge_ids-requires c =
    let f = family_in _ (book_sized c.args.book.now) _ c.requires.k_in_bounds _ c.nth_demand-d.ensures c.args.slots.now c.args.flags.now c.args.end c.requires.whole c.if-d-ne-ONCE.true in
    let n = ids_slots _ (book_sized c.args.book.now) _ c.requires.k_in_bounds _ c.nth_demand-d.ensures c.args.slots.now c.args.flags.now c.args.end c.requires.whole c.if-d-ne-ONCE.true in
    let m = ids_many _ (book_sized c.args.book.now) _ c.requires.k_in_bounds _ c.nth_demand-d.ensures c.args.slots.now c.args.flags.now c.args.end c.requires.whole c.if-d-ne-ONCE.true in
    record {
      each_bound = f;
      from_in_bounds = omega (arith, c.start_of-from.ensures, n, c.requires.whole.long);
      flags = c.requires.whole.shape;
      cell_bound = c.nth_demand-d.ensures.fits;
      count_bound = omega (arith, m, c.requires.no_demand_bound);
    }

pub returns-then-d-ne-ONCE : goal.returns-then-d-ne-ONCE
returns-then-d-ne-ONCE c =
    let asked : (c.is_asked.result && get_or c.args.end.present c.nth_demand-d.result.section false) ≡ is_asked_in (seen c.args.slots.now c.args.flags.now c.args.end) (get_or (book_in c.args.book.now).demands c.args.k no_demand) = asked_is _ (book_sized c.args.book.now) _ c.requires.k_in_bounds _ c.nth_demand-d.ensures c.args.slots.now c.args.flags.now c.args.end c.requires.whole refl c.is_asked.ensures refl in
    ids_puts _ (book_sized c.args.book.now) _ c.requires.k_in_bounds _ c.nth_demand-d.ensures c.args.slots.now c.args.flags.now c.args.end c.requires.whole c.if-d-ne-ONCE.true c.args.end.line asked
    c.start_of-from.ensures c.judge_ids.ensures

pub overflow_add-d : goal.overflow_add-d
overflow_add-d c =
    let inside : c.nth_demand-d.result.entry < length (key_entries (book_in c.args.book.now)) = entry_in _ (book_sized c.args.book.now) _ c.requires.k_in_bounds _ c.nth_demand-d.ensures in
    omega (arith, inside)

pub start_of-to-requires : goal.start_of-to-requires
start_of-to-requires c =
    let inside : c.nth_demand-d.result.entry < length (key_entries (book_in c.args.book.now)) = entry_in _ (book_sized c.args.book.now) _ c.requires.k_in_bounds _ c.nth_demand-d.ensures in
    record { book = c.requires.book; in_bounds = omega (arith, inside) }

pub any_came-requires : goal.any_came-requires
any_came-requires c =
    let m = once_slots _ (book_sized c.args.book.now) _ c.requires.k_in_bounds _ c.nth_demand-d.ensures c.args.slots.now c.args.flags.now c.args.end c.requires.whole c.if-d-ne-ONCE.false in
    (omega (arith, c.start_of-from.ensures, c.start_of-to.ensures, m), omega (arith, c.start_of-to.ensures, m, c.requires.whole.long))

pub put_if-requires : goal.put_if-requires
put_if-requires c =
    let m = once_many _ (book_sized c.args.book.now) _ c.requires.k_in_bounds _ c.nth_demand-d.ensures c.args.slots.now c.args.flags.now c.args.end c.requires.whole c.if-d-ne-ONCE.false in
    omega (arith, m, c.requires.no_demand_bound)

pub returns : goal.returns
returns c =
    let asked : (c.is_asked.result && get_or c.args.end.present c.nth_demand-d.result.section false) ≡ is_asked_in (seen c.args.slots.now c.args.flags.now c.args.end) (get_or (book_in c.args.book.now).demands c.args.k no_demand) = asked_is _ (book_sized c.args.book.now) _ c.requires.k_in_bounds _ c.nth_demand-d.ensures c.args.slots.now c.args.flags.now c.args.end c.requires.whole refl c.is_asked.ensures refl in
    once_puts _ (book_sized c.args.book.now) _ c.requires.k_in_bounds _ c.nth_demand-d.ensures c.args.slots.now c.args.flags.now c.args.end c.requires.whole c.if-d-ne-ONCE.false c.args.end.line asked
    c.any_came.ensures c.start_of-from.ensures c.start_of-to.ensures refl c.put_if.ensures
