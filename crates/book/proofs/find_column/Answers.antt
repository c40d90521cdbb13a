-- `book::find_column`: table k of the book, from 1 on, has the columns of section k from the first; a number before or past them is that of no section. Assumes nothing.
use native.Mathlib.Omega.{arith}
use mathlib.Core.Path.{ap, sym, ◌∙◌}
use mathlib.Core.List.{List}
use Prim.Native.Nat.{ℕ, ◌-◌, ◌<◌}
use lib.ListN.{length}
use Rattle.book_names.specs.Names.{Entry, lookup_in}
use Rattle.book.specs.Text.{book_in}
use Rattle.book.proofs.Laws.Columns.{columns_none}
use Rattle.book.proofs.Laws.Directing.{section_below, section_past, columns_at}
use Rattle.book.proofs.find_column.Goals as goal

pub returns-then-section-first : goal.returns-then-section-first
returns-then-section-first c =
    let b = book_in c.args.book.now in
    sym (columns_none b c.args.section c.args.name.now (section_below b c.args.section (omega (arith, c.requires.directory.first))))

pub returns-then-from-k : goal.returns-then-from-k
returns-then-from-k c =
    let b = book_in c.args.book.now in
    sym (columns_none b c.args.section c.args.name.now (section_past b c.args.section (omega (arith, c.requires.directory.first)) (omega (arith, c.requires.directory.first, c.requires.directory.count))))

pub search-requires : goal.search-requires
search-requires c =
    let k = c.args.section - c.from-first.result in
    let n : k < length (book_in c.args.book.now).sections = omega (arith, c.requires.directory.count) in
    record { table = (c.requires.columns k n).table; k_in_bounds = omega (arith, c.requires.directory.size) }

pub returns : goal.returns
returns c =
    c.search.ensures
    ∙ ap (λ (es : List Entry). lookup_in es c.args.name.now)
    (columns_at c.requires c.args.section (c.args.section - c.from-first.result) (omega (arith, c.requires.directory.first)) (ap (λ (n : ℕ). c.args.section - n) (c.from-first.ensures ∙ c.requires.directory.first)) (omega (arith, c.requires.directory.count)))
