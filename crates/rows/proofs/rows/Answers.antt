-- `rows::rows` meets its contract: at each `return` the tests that led there say which answer it is. Assumes nothing.
use mathlib.Core.Path.{◌≡◌, sym, ◌∙◌}
use mathlib.Core.Bool.{true}
use borrow.Author.Tests.{not-true, not-false}
use Rattle.text.specs.Lines.{lines}
use Rattle.book.specs.Book.{is_section, book_of}
use Rattle.book.specs.Text.{book_in}
use Rattle.rows.proofs.Laws.Finding.{rows_over, rows_nowhere, rows_there}
use Rattle.rows.proofs.rows.Goals as goal

pub returns-then-file-gt-LIMIT : goal.returns-then-file-gt-LIMIT
returns-then-file-gt-LIMIT c = rows_over c.args.file.now c.args.section c.if-file-gt-LIMIT.true

pub returns-then-not-is_section : goal.returns-then-not-is_section
unfolding book_in book_of
returns-then-not-is_section c = rows_nowhere c.args.file.now c.args.section c.if-file-gt-LIMIT.false (sym c.is_section.ensures ∙ not-true c.is_section.result c.if-not-is_section.true-raw)

pub code_of-code-requires : goal.code_of-code-requires
unfolding book_in book_of
code_of-code-requires c =
    let of_section : is_section (book_of (lines c.args.file.now)) c.args.section ≡ true = sym c.is_section.ensures ∙ not-false c.is_section.result c.if-not-is_section.false-raw in
    record { has_directory = c.directory-book.ensures.has_directory; section_value = of_section }

pub returns : goal.returns
unfolding book_in book_of
returns c =
    let of_section : is_section (book_of (lines c.args.file.now)) c.args.section ≡ true = sym c.is_section.ensures ∙ not-false c.is_section.result c.if-not-is_section.false-raw in
    rows_there c.args.file.now c.args.section c.if-file-gt-LIMIT.false of_section c.code_of-code.ensures c.count_coded.ensures
