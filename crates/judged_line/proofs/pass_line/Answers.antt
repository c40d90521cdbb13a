-- `judged_line::pass_line` meets its contract: a row and a header change what is carried by their section, a metadata line by its key, and any other line changes
-- nothing. Assumes nothing.
use mathlib.Core.Path.{◌≡◌, refl, sym, ap, ◌∙◌}
use mathlib.Core.Logic.{⊎_elim}
use Prim.Native.Nat.{◌<◌}
use native.Mathlib.Omega.{arith}
use borrow.Author.Tests.{lt-ltb}
use lib.ListN.{length}
use Rattle.book.specs.Book.{Book}
use Rattle.book.specs.Text.{book_in}
use Rattle.book.proofs.Laws.Sized.{book_sized}
use Rattle.rules.specs.declared.sorts.Sort.TheVariants.{Silent, Unknown}
use Rattle.rules.proofs.Laws.Sorting.{meta_in, meta_sort, header_section, row_section_lem}
use Rattle.scan.specs.Machine.{FIRSTS}
use Rattle.judged_line.proofs.Laws.Passing.{passes_kept, passes_meta, passes_header}
use Rattle.judged_line.proofs.pass_line.Goals as goal

pub judge_meta-requires : goal.judge_meta-requires
judge_meta-requires c =
    let book : Book = book_in c.args.book.now in
    record {
      book = c.requires.book;
      flags = c.requires.flags;
      slots_len = c.requires.slots_len;
      line_value = meta_sort book _ ∙ ap meta_in (sym c.sort_of-sort.ensures ∙ c.in-Meta.is);
      count_bound = omega arith;
    }

pub offset_bounds-slots-slot : goal.offset_bounds-slots-slot
offset_bounds-slots-slot c =
    let book : Book = book_in c.args.book.now in
    let section_low : (0 < c.in-Header.h) × (c.in-Header.h < 5) = header_section book (book_sized _) c.args.line.now c.in-Header.h (sym c.sort_of-sort.ensures ∙ c.in-Header.is) in
    let slot_low : c.header_slot-slot.result < FIRSTS = omega (arith, c.header_slot-slot.ensures, section_low.1) in
    omega (arith, slot_low)

pub bounds-slots-slot : goal.bounds-slots-slot
bounds-slots-slot c =
    let book : Book = book_in c.args.book.now in
    let section_low : (0 < c.in-Header.h) × (c.in-Header.h < 5) = header_section book (book_sized _) c.args.line.now c.in-Header.h (sym c.sort_of-sort.ensures ∙ c.in-Header.is) in
    let slot_low : c.header_slot-slot.result < FIRSTS = omega (arith, c.header_slot-slot.ensures, section_low.1) in
    let slot_in : c.header_slot-slot.result < length c.args.slots.now = omega (arith, slot_low, c.requires.slots_len) in
    slot_in

pub offset_bounds-slots-slot-in-Header : goal.offset_bounds-slots-slot-in-Header
offset_bounds-slots-slot-in-Header c =
    let book : Book = book_in c.args.book.now in
    let section_low : (0 < c.in-Header.h) × (c.in-Header.h < 5) = header_section book (book_sized _) c.args.line.now c.in-Header.h (sym c.sort_of-sort.ensures ∙ c.in-Header.is) in
    let slot_low : c.header_slot-slot.result < FIRSTS = omega (arith, c.header_slot-slot.ensures, section_low.1) in
    omega (arith, slot_low)

pub bounds-slots-slot-in-Header : goal.bounds-slots-slot-in-Header
bounds-slots-slot-in-Header c =
    let book : Book = book_in c.args.book.now in
    let section_low : (0 < c.in-Header.h) × (c.in-Header.h < 5) = header_section book (book_sized _) c.args.line.now c.in-Header.h (sym c.sort_of-sort.ensures ∙ c.in-Header.is) in
    let slot_low : c.header_slot-slot.result < FIRSTS = omega (arith, c.header_slot-slot.ensures, section_low.1) in
    let slot_in : c.header_slot-slot.result < length c.args.slots.now = omega (arith, slot_low, c.requires.slots_len) in
    slot_in

pub after_header-state-requires : goal.after_header-state-requires
after_header-state-requires c =
    let book : Book = book_in c.args.book.now in
    let section_low : (0 < c.in-Header.h) × (c.in-Header.h < 5) = header_section book (book_sized _) c.args.line.now c.in-Header.h (sym c.sort_of-sort.ensures ∙ c.in-Header.is) in
    section_low.1

pub after_row-state-requires : goal.after_row-state-requires
after_row-state-requires c =
    let book : Book = book_in c.args.book.now in
    (row_section_lem book (book_sized _) c.args.line.now c.in-Row.r (sym c.sort_of-sort.ensures ∙ c.in-Row.is)).1

-- a silent line, or one with an unknown code
pub returns-in-Silent : goal.returns-in-Silent
returns-in-Silent c =
    ⊎_elim
    (λ (q : c.sort_of-sort.result ≡ Silent). let e = sym c.sort_of-sort.ensures ∙ q in record { passes = passes_kept e c.requires.slots_len refl refl; header_value = rw e })
    (λ (q : c.sort_of-sort.result ≡ Unknown). let e = sym c.sort_of-sort.ensures ∙ q in record { passes = passes_kept e c.requires.slots_len refl refl; header_value = rw e })
    c.in-Silent.is

-- a metadata line
pub returns-in-Meta : goal.returns-in-Meta
returns-in-Meta c =
    let book : Book = book_in c.args.book.now in
    let e = (sym c.sort_of-sort.ensures ∙ c.in-Meta.is) in
    record {
      passes = passes_meta e c.judge_meta.ensures.keeps_keys.keys c.judge_meta.ensures.keeps_keys.headers c.judge_meta.ensures.keeps_keys.places;
      header_value = rw e;
    }

-- a header
pub returns-in-Header : goal.returns-in-Header
returns-in-Header c =
    let book : Book = book_in c.args.book.now in
    let section_low : (0 < c.in-Header.h) × (c.in-Header.h < 5) = header_section book (book_sized _) c.args.line.now c.in-Header.h (sym c.sort_of-sort.ensures ∙ c.in-Header.is) in
    let e = (sym c.sort_of-sort.ensures ∙ c.in-Header.is) in
    record {
      passes = passes_header (book_sized _) c.in-Header.h e c.header_slot-slot.ensures c.after_header-state.ensures c.count_cells-width.ensures c.first_kept.ensures c.requires.slots_len;
      header_value = rw e (sym (lt-ltb 0 c.in-Header.h section_low.0));
    }

-- a row
pub returns-in-Row : goal.returns-in-Row
returns-in-Row c =
    let book : Book = book_in c.args.book.now in
    let e = (sym c.sort_of-sort.ensures ∙ c.in-Row.is) in
    record { passes = rw c.after_row-state.ensures (passes_kept e c.requires.slots_len refl refl); header_value = rw e }
