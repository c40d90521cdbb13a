-- `book::column`: a short name, an `opt_` name, or the section's table of the book. Assumes nothing.
use mathlib.Core.Path.{sym, ◌∙◌}
use Rattle.book.specs.Text.{book_in}
use Rattle.book.proofs.Laws.Columns.{column_table, column_bare, column_opt, column_short}
use Rattle.book.proofs.column.Goals as goal

pub returns-then-name-lt-SHORTEST : goal.returns-then-name-lt-SHORTEST
returns-then-name-lt-SHORTEST c = sym (column_short c.args.book.now c.args.section c.args.name.now c.if-name-lt-SHORTEST.true)

pub returns-then-name-le4 : goal.returns-then-name-le4
returns-then-name-le4 c = sym (column_bare (book_in c.args.book.now) c.args.section c.args.name.now (sym c.is_opt.ensures ∙ c.if-is_opt.true) c.if-name-le4.true)

pub returns-then-is_opt : goal.returns-then-is_opt
returns-then-is_opt c = sym (column_opt (book_in c.args.book.now) c.args.section c.args.name.now (sym c.is_opt.ensures ∙ c.if-is_opt.true) c.if-name-le4.false)

pub returns : goal.returns
returns c = c.find_column.ensures ∙ sym (column_table (book_in c.args.book.now) c.args.section c.args.name.now (sym c.is_opt.ensures ∙ c.if-is_opt.false))
