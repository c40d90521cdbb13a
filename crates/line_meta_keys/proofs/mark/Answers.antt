-- `line_meta_keys::mark` meets its contract: a known key has a slot within the list, and an unknown one none. Assumes nothing.
use Prim.Native.Nat.{◌<◌}
use lib.ListN.{length}
use native.Mathlib.Omega.{arith}
use Rattle.book.specs.Book.{SLOTS}
use Rattle.book.specs.Text.{book_in}
use Rattle.line_meta_keys.proofs.Laws.Slotting.{inside}
use Rattle.line_meta_keys.proofs.mark.Goals as goal

pub slot_of-slot-requires : goal.slot_of-slot-requires
slot_of-slot-requires c =
    let in_slots = inside (book_in c.args.book.now) c.in-Ok.is c.requires.in_slots in
    record { book = c.requires.book; in_bounds = in_slots.0; j_bound = in_slots.1 }

pub offset_bounds-slots-slot : goal.offset_bounds-slots-slot
offset_bounds-slots-slot c =
    let below : c.slot_of-slot.result < SLOTS = omega (arith, c.slot_of-slot.ensures, (inside (book_in c.args.book.now) c.in-Ok.is c.requires.in_slots).1) in
    omega (arith, below)

pub bounds-slots-slot : goal.bounds-slots-slot
bounds-slots-slot c =
    let below : c.slot_of-slot.result < SLOTS = omega (arith, c.slot_of-slot.ensures, (inside (book_in c.args.book.now) c.in-Ok.is c.requires.in_slots).1) in
    let within : c.slot_of-slot.result < length c.args.slots.now = omega (arith, below, c.requires.slots_len) in
    within

pub offset_bounds-slots-slot-in-Ok : goal.offset_bounds-slots-slot-in-Ok
offset_bounds-slots-slot-in-Ok c =
    let below : c.slot_of-slot.result < SLOTS = omega (arith, c.slot_of-slot.ensures, (inside (book_in c.args.book.now) c.in-Ok.is c.requires.in_slots).1) in
    omega (arith, below)

pub bounds-slots-slot-in-Ok : goal.bounds-slots-slot-in-Ok
bounds-slots-slot-in-Ok c =
    let below : c.slot_of-slot.result < SLOTS = omega (arith, c.slot_of-slot.ensures, (inside (book_in c.args.book.now) c.in-Ok.is c.requires.in_slots).1) in
    let within : c.slot_of-slot.result < length c.args.slots.now = omega (arith, below, c.requires.slots_len) in
    within

pub returns-in-Ok : goal.returns-in-Ok
returns-in-Ok c = rw (c.first_kept.ensures, c.slot_of-slot.ensures, c.in-Ok.is)
