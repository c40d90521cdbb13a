-- What the call for one line gives back: request 2026-14. Assumes nothing.
use Rattle.std.specs.Prelude.{ℕ, Bool, cond, ◌&&◌, List, length, leb, ltb}
use Rattle.numbers.specs.Numbers.{TOO_LONG, NO_ROW}
use Rattle.text_bytes.specs.Bytes.{Bytes}
use Rattle.text.specs.Lines.{LIMIT, lines}
use Rattle.scan.specs.Places.{lent, put_all}
use Rattle.rules.specs.Edited.{of_line}
use Rattle.judged.specs.Judged.{Outcome, outcome, ended}

-- line n is one of the file's, from 1 to N
abbrev pub is_line : Bytes → ℕ → Bool
is_line file n = leb 1 n && leb n (length (lines file))

-- a file that is too long is refused, and then a line that is not there, and nothing is written; else the line's breaks are counted, and those that fit are
-- written, four places each
unfoldable pub judged_line : Bytes → ℕ → List ℕ → Outcome
judged_line file n ys =
    cond (ltb LIMIT (length file)) (outcome TOO_LONG 0 ys)
    (cond (is_line file n) (ended (put_all (lent ys 0) (of_line file n))) (outcome NO_ROW 0 ys))
