-- `rows::row_of` meets its contract: row 0 has none before it, row r has r less 1. Assumes nothing.
use mathlib.Core.Path.{◌≡◌}
use Prim.Native.Nat.{◌-◌}
use native.Mathlib.Omega.{arith}
use Rattle.book.specs.Book.{book_of}
use Rattle.book.specs.Text.{book_in}
use Rattle.rows.specs.Rows.{row_of}
use Rattle.rows.proofs.row_of.Goals as goal

pub code_of-code-requires : goal.code_of-code-requires
unfolding book_in book_of
code_of-code-requires c = record { has_directory = c.directory-book.ensures.has_directory; section_value = c.requires.1 }

pub returns-then-row-eq0 : goal.returns-then-row-eq0
unfolding row_of book_in book_of
returns-then-row-eq0 c =
    let z : c.args.row - 1 ≡ 0 = omega arith in
    rw (← c.code_of-code.ensures, z) c.nth_coded.ensures

pub returns : goal.returns
unfolding row_of book_in book_of
returns c = rw (← c.code_of-code.ensures) c.nth_coded-2.ensures
