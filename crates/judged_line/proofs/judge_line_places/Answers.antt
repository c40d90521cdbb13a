-- `judged_line::judge_line_places` meets its contract: the limit decides, then whether the line is there, and else its breaks are put. Assumes nothing.
use borrow.Author.Tests.{lt-ltb}
use lib.ListN.{length}
use Rattle.std.proofs.lemmas.Result.{err_from_is_err_and}
use Rattle.text.specs.Lines.{LIMIT}
use Rattle.book.specs.Book.{book_of}
use Rattle.book.specs.Text.{book_in}
use Rattle.judging.proofs.Laws.Calling.{number_one}
use Rattle.judged_line.specs.Judged.{judged_line}
use Rattle.judged_line.proofs.Laws.Alone.{answered}
use Rattle.judged_line.proofs.judge_line_places.Goals as goal

pub returns-in_err-begun : goal.returns-in_err-begun
unfolding judged_line
returns-in_err-begun c =
    let far = c.in_err-begun.ensures.refused in
    let p = err_from_is_err_and c.from_residual.result c.from_residual.ensures.1 in
    rw (p.1, p.2, c.in_err-begun.ensures.number, number_one c.args.file.now far, lt-ltb LIMIT (length c.args.file.now) far)

pub judge_alone-requires : goal.judge_alone-requires
judge_alone-requires c = record { book = c.book-rows.ensures; going = c.in_ok-begun.ensures.going; stand_value = c.in_ok-begun.ensures.stand }

pub returns : goal.returns
unfolding book_in book_of
returns c = rw c.ok_or.ensures.value (answered c.args.file.now c.args.line c.args.places.now c.judge_alone.new.places c.in_ok-begun.ensures.going.limit c.judge_alone.result c.judge_alone.ensures)
