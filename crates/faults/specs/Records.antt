-- What the judging call over records gives back: paper 01, 'Calls and what they give back'. Assumes nothing.
use Rattle.std.specs.Prelude.{ℕ, cond, List, map, length, ltb}
use Rattle.std.proofs.lemmas.List.Edits.{sets}
use Rattle.numbers.specs.Numbers.{TOO_LONG}
use Rattle.text_bytes.specs.Bytes.{Bytes}
use Rattle.text.specs.Lines.{LIMIT}
use Rattle.rules.specs.Rules.{breaks}
use Rattle.fault_steps.specs.declared.Fault.{Fault}
use Rattle.fault_steps.specs.Records.{fault_of}

-- the number, the count of all breaks, and the lent list afterwards
pub record Outcome : Type 0 where
  pub number : ℕ
  pub count : ℕ
  pub faults : List Fault

abbrev pub outcome : ℕ → ℕ → List Fault → Outcome
outcome n k ys = record { number = n; count = k; faults = ys }

-- a file that is too long is refused, and nothing is written; else all breaks are counted, and those that fit are written, a record each; `sets` past the end of a list
-- changes nothing
unfoldable pub judged : Bytes → List Fault → Outcome
judged file ys = cond (ltb LIMIT (length file)) (outcome TOO_LONG 0 ys) (outcome 0 (length (breaks file)) (sets ys 0 (map fault_of (breaks file))))
