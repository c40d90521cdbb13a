-- `line_meta_keys::judge_key` meets its contract: each field is the definition at what was found. Assumes nothing.
use mathlib.Core.Path.{ap, ◌∙◌}
use mathlib.Core.Bool.{cond, not}
use Prim.Native.Nat.{ℕ, ◌<◌}
use lib.Dec.{eqb}
use native.Mathlib.Omega.{arith}
use Rattle.book.specs.Book.{SLOTS}
use Rattle.book.specs.Text.{book_in}
use Rattle.line_meta_keys.proofs.Laws.Slotting.{inside}
use Rattle.line_meta_keys.proofs.judge_key.Goals as goal

pub slot_of-slot-requires : goal.slot_of-slot-requires
slot_of-slot-requires c =
    let in_slots = inside (book_in c.args.book.now) c.in-Ok.is c.requires.in_slots in
    record { book = c.requires.book; in_bounds = in_slots.0; j_bound = in_slots.1 }

pub offset_bounds-slots-slot : goal.offset_bounds-slots-slot
offset_bounds-slots-slot c =
    let below : c.slot_of-slot.result < SLOTS = omega (arith, c.slot_of-slot.ensures, (inside (book_in c.args.book.now) c.in-Ok.is c.requires.in_slots).1) in
    omega (arith, below)

pub bounds-slots-slot : goal.bounds-slots-slot
bounds-slots-slot c =
    let below : c.slot_of-slot.result < SLOTS = omega (arith, c.slot_of-slot.ensures, (inside (book_in c.args.book.now) c.in-Ok.is c.requires.in_slots).1) in
    omega (arith, below, c.requires.slots_len)

pub returns-in-Err : goal.returns-in-Err
returns-in-Err c = record { of_key = rw c.in-Err.is c.flaw_rule.ensures; of_first = rw c.in-Err.is; of_value = rw c.in-Err.is }

pub returns-in-Ok : goal.returns-in-Ok
returns-in-Ok c =
    let first = rw c.slot_of-slot.ensures at c.first_of-first.ensures in
    record { of_key = rw c.in-Ok.is (c.rule_if.ensures ∙ ap (λ (n : ℕ). cond (not (eqb n 0)) 6 0) first); of_first = rw c.in-Ok.is first; of_value = rw c.in-Ok.is c.judge_value-judged.ensures }
