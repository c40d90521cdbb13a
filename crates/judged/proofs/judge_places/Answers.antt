-- `judged::judge_places` meets its contract: the limit decides, and else all breaks are put. Assumes nothing.
use mathlib.Core.Path.{ap}
use native.Mathlib.Omega.{arith}
use borrow.Author.Tests.{lt-ltb, le-ltb}
use lib.ListN.{length}
use Rattle.std.proofs.lemmas.Result.{err_from_is_err_and}
use Rattle.text.specs.Lines.{LIMIT}
use Rattle.rules.specs.Rules.{breaks}
use Rattle.book.specs.Book.{book_of}
use Rattle.book.specs.Text.{book_in}
use Rattle.book.proofs.Laws.Sized.{book_sized}
use Rattle.judging.proofs.Laws.Parting.{part_whole}
use Rattle.judging.proofs.Laws.Calling.{number_one}
use Rattle.judged.specs.Judged.{judged, ended}
use Rattle.judged.proofs.judge_places.Goals as goal

pub returns-in_err-first : goal.returns-in_err-first
unfolding judged
returns-in_err-first c =
    let far = c.in_err-first.ensures.refused in
    let p = err_from_is_err_and c.from_residual.result c.from_residual.ensures.1 in
    rw (p.1, p.2, c.in_err-first.ensures.number, number_one c.args.file.now far, lt-ltb LIMIT (length c.args.file.now) far)

pub next_part-whole-requires : goal.next_part-whole-requires
next_part-whole-requires c = record { le_room = omega arith; book = c.book-rows.ensures; going = c.in_ok-first.ensures.going }

pub returns : goal.returns
unfolding judged breaks book_in book_of
returns c =
    let limit = c.in_ok-first.ensures.going.limit in
    rw (le-ltb LIMIT (length c.args.file.now) limit) (ap ended (part_whole (book_sized c.args.file.now) c.in_ok-first.ensures.stand c.next_part-whole.ensures.parts limit (omega arith)))
