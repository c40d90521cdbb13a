-- `line_any::judge_line` meets its contract: in each arm the sort says which breaks are put, and what is carried after the line. Assumes nothing.
use mathlib.Core.Path.{◌≡◌, refl, sym, ap, ◌∙◌}
use mathlib.Core.Bool.{true}
use Prim.Native.Nat.{◌<◌}
use native.Mathlib.Omega.{arith}
use lib.ListN.{length}
use Rattle.scan.specs.Machine.{FIRSTS, ids_of}
use Rattle.rules.specs.declared.sorts.Sort.TheVariants.{Silent, Unknown, Meta, Row}
use Rattle.scan.proofs.Laws.Putting.{puts_none}
use Rattle.line_any.proofs.Laws.Steps.{line_puts, follows_kept, follows_meta, header_puts, header_follows}
use Rattle.rules.proofs.Laws.Sorting.{meta_in, meta_sort, header_is, section_in, row_section_lem}
use Rattle.book.specs.Book.{Book, is_section}
use Rattle.book.specs.Text.{book_in}
use Rattle.book.proofs.Laws.Sized.{book_sized}
use Rattle.line_any.proofs.judge_line.Goals as goal

pub judge_meta-count-requires : goal.judge_meta-count-requires
judge_meta-count-requires c =
    let book : Book = book_in c.args.book.now in
    record {
      book = c.requires.book;
      flags = c.requires.flags;
      slots_len = c.requires.slots_len;
      line_value = meta_sort book _ ∙ ap meta_in (sym c.sort_of-sort.ensures ∙ c.in-Meta.is);
      count_bound = c.requires.count_bound;
    }

pub offset_bounds-slots-slot : goal.offset_bounds-slots-slot
offset_bounds-slots-slot c =
    let book : Book = book_in c.args.book.now in
    let section_of_lem : is_section book c.in-Header.h ≡ true = header_is book c.args.line.now c.in-Header.h (sym c.sort_of-sort.ensures ∙ c.in-Header.is) in
    let section_low : c.in-Header.h < 5 = (section_in book (book_sized _) _ section_of_lem).1 in
    let slot_low : c.header_slot-slot.result < FIRSTS = omega (arith, c.header_slot-slot.ensures, section_low) in
    omega (arith, slot_low)

pub bounds-slots-slot : goal.bounds-slots-slot
bounds-slots-slot c =
    let book : Book = book_in c.args.book.now in
    let section_of_lem : is_section book c.in-Header.h ≡ true = header_is book c.args.line.now c.in-Header.h (sym c.sort_of-sort.ensures ∙ c.in-Header.is) in
    let section_low : c.in-Header.h < 5 = (section_in book (book_sized _) _ section_of_lem).1 in
    let slot_low : c.header_slot-slot.result < FIRSTS = omega (arith, c.header_slot-slot.ensures, section_low) in
    let slot_in : c.header_slot-slot.result < length c.args.slots.now = omega (arith, slot_low, c.requires.slots_len) in
    slot_in

pub judge_head-count-requires : goal.judge_head-count-requires
judge_head-count-requires c =
    let book : Book = book_in c.args.book.now in
    let section_of_lem : is_section book c.in-Header.h ≡ true = header_is book c.args.line.now c.in-Header.h (sym c.sort_of-sort.ensures ∙ c.in-Header.is) in
    record {
      count_bound = c.requires.count_bound;
      book = c.requires.book;
      section_value = section_of_lem;
      kinds_len = c.requires.kinds_len;
      stamps_len = c.requires.stamps_len;
      line_len_bound = c.requires.line_len_bound;
    }

pub offset_bounds-slots-slot-in-Header : goal.offset_bounds-slots-slot-in-Header
offset_bounds-slots-slot-in-Header c =
    let book : Book = book_in c.args.book.now in
    let section_of_lem : is_section book c.in-Header.h ≡ true = header_is book c.args.line.now c.in-Header.h (sym c.sort_of-sort.ensures ∙ c.in-Header.is) in
    let section_low : c.in-Header.h < 5 = (section_in book (book_sized _) _ section_of_lem).1 in
    let slot_low : c.header_slot-slot.result < FIRSTS = omega (arith, c.header_slot-slot.ensures, section_low) in
    omega (arith, slot_low)

pub bounds-slots-slot-in-Header : goal.bounds-slots-slot-in-Header
bounds-slots-slot-in-Header c =
    let book : Book = book_in c.args.book.now in
    let section_of_lem : is_section book c.in-Header.h ≡ true = header_is book c.args.line.now c.in-Header.h (sym c.sort_of-sort.ensures ∙ c.in-Header.is) in
    let section_low : c.in-Header.h < 5 = (section_in book (book_sized _) _ section_of_lem).1 in
    let slot_low : c.header_slot-slot.result < FIRSTS = omega (arith, c.header_slot-slot.ensures, section_low) in
    let slot_in : c.header_slot-slot.result < length c.args.slots.now = omega (arith, slot_low, c.requires.slots_len) in
    slot_in

pub after_header-state-requires : goal.after_header-state-requires
after_header-state-requires c =
    let book : Book = book_in c.args.book.now in
    let section_of_lem : is_section book c.in-Header.h ≡ true = header_is book c.args.line.now c.in-Header.h (sym c.sort_of-sort.ensures ∙ c.in-Header.is) in
    let section_low : c.in-Header.h < 5 = (section_in book (book_sized _) _ section_of_lem).1 in
    section_low

pub after_row-state-requires : goal.after_row-state-requires
after_row-state-requires c =
    let book : Book = book_in c.args.book.now in
    (row_section_lem book (book_sized _) c.args.line.now c.in-Row.r (sym c.sort_of-sort.ensures ∙ c.in-Row.is)).1

pub returns-in-Silent : goal.returns-in-Silent
returns-in-Silent c =
    let book : Book = book_in c.args.book.now in
    let e = (sym c.sort_of-sort.ensures ∙ c.in-Silent.is) in
    record {
      puts = line_puts book (ids_of c.args.flags.now) c.args.step.state c.args.kinds.now c.args.slots.now c.args.step.line c.args.line.now Silent e (puts_none _) (omega arith);
      follows = follows_kept e c.requires.kinds_len c.requires.slots_len refl refl;
      stamps_len_2 = c.requires.stamps_len;
    }

pub returns-in-Unknown : goal.returns-in-Unknown
returns-in-Unknown c =
    let book : Book = book_in c.args.book.now in
    let e = (sym c.sort_of-sort.ensures ∙ c.in-Unknown.is) in
    record {
      puts = line_puts book (ids_of c.args.flags.now) c.args.step.state c.args.kinds.now c.args.slots.now c.args.step.line c.args.line.now Unknown e (rw c.control_of-control.ensures at c.judge_unknown-count.ensures) (omega arith);
      follows = follows_kept e c.requires.kinds_len c.requires.slots_len refl refl;
      stamps_len_2 = c.requires.stamps_len;
    }

pub returns-in-Meta : goal.returns-in-Meta
returns-in-Meta c =
    let book : Book = book_in c.args.book.now in
    let e = (sym c.sort_of-sort.ensures ∙ c.in-Meta.is) in
    record {
      puts = line_puts book (ids_of c.args.flags.now) c.args.step.state c.args.kinds.now c.args.slots.now c.args.step.line c.args.line.now Meta e (rw c.control_of-control.ensures at c.judge_meta-count.ensures.puts) (omega arith);
      follows = follows_meta e c.requires.kinds_len c.judge_meta-count.ensures.keeps_keys.keys c.judge_meta-count.ensures.keeps_keys.headers c.judge_meta-count.ensures.keeps_keys.places;
      stamps_len_2 = c.requires.stamps_len;
    }

pub returns-in-Header : goal.returns-in-Header
returns-in-Header c =
    let book : Book = book_in c.args.book.now in
    let e = (sym c.sort_of-sort.ensures ∙ c.in-Header.is) in
    record {
      puts = header_puts book (ids_of c.args.flags.now) c.args.step.state c.args.kinds.now c.args.slots.now c.args.step.line c.args.line.now c.in-Header.h e c.header_slot-slot.ensures c.control_of-control.ensures c.judge_head-count.ensures.puts (omega arith);
      follows = header_follows (book_sized _) c.in-Header.h e c.header_slot-slot.ensures c.after_header-state.ensures c.count_cells-width.ensures c.first_kept.ensures c.requires.slots_len c.judge_head-count.ensures.keeps_kinds.columns c.judge_head-count.ensures.keeps_kinds.kind_places;
      stamps_len_2 = c.judge_head-count.ensures.keeps_kinds.stamp_places;
    }

pub returns-in-Row : goal.returns-in-Row
returns-in-Row c =
    let book : Book = book_in c.args.book.now in
    let e = (sym c.sort_of-sort.ensures ∙ c.in-Row.is) in
    record {
      puts = line_puts book (ids_of c.args.flags.now) c.args.step.state c.args.kinds.now c.args.slots.now c.args.step.line c.args.line.now (Row c.in-Row.r) e (rw c.control_of-control.ensures at c.judge_row-count.ensures) (omega arith);
      follows = rw c.after_row-state.ensures (follows_kept e c.requires.kinds_len c.requires.slots_len refl refl);
      stamps_len_2 = c.requires.stamps_len;
    }
