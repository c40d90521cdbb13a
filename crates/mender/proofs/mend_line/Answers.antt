-- `mender::mend_line` meets its contract: a row is filled, a header is laid and learnt, and any other line is laid as it is. Assumes nothing.
use mathlib.Core.Path.{refl, sym, ◌∙◌}
use Prim.Native.Nat.{◌+◌}
use Rattle.book.specs.Book.{Book}
use Rattle.book.specs.Text.{book_in}
use Rattle.book.proofs.Laws.Sized.{book_sized}
use Rattle.rules.proofs.Laws.Sorting.{header_section}
use Rattle.mender.proofs.Laws.Passing.{kept_mends, kept_passes, kept_plain, head_passes}
use Rattle.mender.proofs.mend_line.Goals as goal

-- a line of no section, or a metadata line
pub returns-in-Silent : goal.returns-in-Silent
returns-in-Silent c =
    let book : Book = book_in c.args.book.now in
    let whole = kept_plain book c.args.line.now (rw c.sort_of-sort.ensures at c.in-Silent.is) c.args.walk c.args.kinds.now c.requires.kinds_len c.keep_line.ensures.to_after c.keep_line.ensures.line_value in
    record { mends = whole.0; passes = whole.1.0; line_value = whole.1.1 }

-- a header
pub returns-in-Header : goal.returns-in-Header
returns-in-Header c =
    let book : Book = book_in c.args.book.now in
    let e = (sym c.sort_of-sort.ensures ∙ c.in-Header.is) in
    let z = (header_section book (book_sized _) c.args.line.now c.in-Header.h e).0 in
    record {
      mends = kept_mends book c.args.line.now e c.args.walk.section c.args.walk.width c.args.kinds.now (c.args.walk.line + 1) refl refl c.lay-to.ensures refl;
      passes = head_passes book c.args.line.now c.in-Header.h e z c.args.walk.section c.args.walk.width c.args.kinds.now c.count_cells-width.ensures c.learn_kinds.ensures.kinds_of c.learn_kinds.ensures.kinds_len_2;
      line_value = refl;
    }

-- a row
pub returns-in-Row : goal.returns-in-Row
returns-in-Row c =
    let book : Book = book_in c.args.book.now in
    let e = (sym c.sort_of-sort.ensures ∙ c.in-Row.is) in
    record {
      mends = rw e c.fill_row-done.ensures;
      passes = kept_passes book c.args.line.now e c.args.walk.section c.args.walk.width c.args.kinds.now refl refl refl refl refl c.requires.kinds_len;
      line_value = refl;
    }
