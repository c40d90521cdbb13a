-- What the judging call over plain places gives back: paper 01, 'Calls and what they give back'. Assumes nothing.
use Rattle.std.specs.Prelude.{ℕ, cond, List, length, ltb}
use Rattle.numbers.specs.Numbers.{TOO_LONG}
use Rattle.text_bytes.specs.Bytes.{Bytes}
use Rattle.text.specs.Lines.{LIMIT}
use Rattle.scan.specs.Places.{Lent, lent, put_all}
use Rattle.rules.specs.Rules.{breaks}

-- the number, the count of all breaks, and the lent list afterwards
pub record Outcome : Type 0 where
  pub number : ℕ
  pub count : ℕ
  pub places : List ℕ

abbrev pub outcome : ℕ → ℕ → List ℕ → Outcome
outcome n k ys = record { number = n; count = k; places = ys }

abbrev pub ended : Lent → Outcome
ended o = outcome 0 o.count o.places

-- a file that is too long is refused, and nothing is written; else all breaks are counted, and those that fit are written, four places each
unfoldable pub judged : Bytes → List ℕ → Outcome
judged file ys = cond (ltb LIMIT (length file)) (outcome TOO_LONG 0 ys) (ended (put_all (lent ys 0) (breaks file)))
