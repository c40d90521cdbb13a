-- `mender::mend` meets its contract: the limit decides, then what a first walk says of the copy's length, and else a second walk writes. Assumes nothing.
use Rattle.book.specs.Book.{book_of}
use Rattle.book.specs.Text.{book_in}
use Rattle.mender.proofs.Laws.Writing.{mended_long, mended_none, mended_room, mended_done}
use Rattle.mender.proofs.mend.Goals as goal

pub returns-then-file-gt-LIMIT : goal.returns-then-file-gt-LIMIT
returns-then-file-gt-LIMIT c = mended_long c.args.file.now c.args.copy.now c.args.changes.now c.if-file-gt-LIMIT.true

pub returns-then-no_room : goal.returns-then-no_room
unfolding book_in book_of
returns-then-no_room c = mended_none c.args.file.now c.args.copy.now c.args.changes.now c.if-file-gt-LIMIT.false c.mend_lines-planned.ensures c.if-no_room.true

pub returns : goal.returns
unfolding book_in book_of
returns c =
    mended_done c.args.file.now c.args.copy.now c.args.changes.now c.if-file-gt-LIMIT.false
    (mended_room c.args.file.now c.args.copy.now c.args.changes.now c.if-file-gt-LIMIT.false c.mend_lines-planned.ensures c.if-no_room.false)
    c.mend_lines.ensures
