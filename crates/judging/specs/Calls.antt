-- What the judging calls share: what is carried from part to part, and what it begins with. No public contract cites this file. Assumes nothing.
use Rattle.std.specs.Prelude.{ℕ, ◌≤◌, ◌<◌, ◌≡◌, cond, length, replicate, ltb, List, Result, IfOk, IfErr}
use Rattle.numbers.specs.declared.Refusal.{Refusal}
use Rattle.numbers.specs.Numbers.{TOO_LONG}
use Rattle.numbers.specs.Refusals.{number_in}
use Rattle.text_bytes.specs.Bytes.{Bytes}
use Rattle.text.specs.Lines.{LIMIT}
use Rattle.book.specs.Book.{Book}
use Rattle.scan.specs.Machine.{FIRSTS}
use Rattle.book_ids.specs.Ids.{Declared}
use Rattle.judging.specs.Parts.{beginning, Midway}
use Rattle.judging.specs.declared.calls.Carried.{Carried}

-- the number of a call: 1 where the file is too long
unfoldable pub length_number : Bytes → ℕ
length_number file = cond (ltb LIMIT (length file)) TOO_LONG 0

-- in the middle of a file
pub record Going (b : Book) (file : Bytes) (s : Carried) (slots : List ℕ) : Type 0 where
  pub limit : length file ≤ LIMIT
  pub midway : Midway b file s.stand s.kinds slots
  pub declared : Declared b s.flags file
  pub columns : length s.kinds ≡ 256
  pub keys : length slots ≡ FIRSTS

-- before the first line, where no key has come; a file that is too long is refused
pub record Begun (b : Book) (file : Bytes) (r : Result Carried Refusal) : Type 0 where
  pub number : number_in r ≡ length_number file
  pub refused : IfErr r (λ e. LIMIT < length file)
  pub stand : IfOk r (λ s. s.stand ≡ beginning s.stand.state.asking)
  pub going : IfOk r (λ s. Going b file s (replicate FIRSTS 0))
