-- `weight_counts::count_line` meets its contract: a line that is no protein row adds nothing. Assumes nothing.
use mathlib.Core.Path.{sym, ◌∙◌}
use Rattle.text_bytes.specs.Bytes.{bytes}
use Rattle.book.specs.Book.{is_section, mz_tab, section_of}
use Rattle.weight_counts.proofs.Laws.Raising.{row_room, row_counted, other_line}
use Rattle.weight_counts.proofs.count_line.Goals as goal

pub count_row-requires : goal.count_row-requires
unfolding mz_tab is_section section_of bytes
count_row-requires c =
    record {
      marks = c.requires.marks;
      room = row_room c.args.marks.now c.args.line.now (sym c.has_code.ensures ∙ c.if-has_code.true) c.requires.room;
    }

pub returns-then-has_code : goal.returns-then-has_code
unfolding mz_tab is_section section_of bytes
returns-then-has_code c = row_counted c.args.marks.now c.args.line.now (sym c.has_code.ensures ∙ c.if-has_code.true) c.count_row.ensures

pub returns-else-has_code : goal.returns-else-has_code
unfolding mz_tab is_section section_of bytes
returns-else-has_code c = other_line c.args.marks.now c.args.line.now (sym c.has_code.ensures ∙ c.if-has_code.false) c.args.weights.now
