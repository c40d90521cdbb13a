-- The steps from part to part that the call over records goes: what is still to write, and what a step does. No public contract cites this file. Assumes nothing.
use Rattle.std.specs.Prelude.{ℕ, zero, suc, ◌+◌, ◌-◌, ◌*◌, ◌≤◌, ◌<◌, ◌≡◌, true, false, cond, List, [], ◌∷◌, map, length, drop, get_or, ltb}
use Rattle.std.proofs.lemmas.List.Edits.{sets}
use Rattle.text_bytes.specs.Bytes.{Bytes}
use Rattle.text.specs.Lines.{LIMIT, lines}
use Rattle.rules.specs.Breaks.{Break}
use Rattle.rules.specs.Rules.{breaks}
use Rattle.judging.specs.Parts.{put_so_far}
use Rattle.judging.specs.Calls.{Going}
use Rattle.fault_steps.specs.declared.Fault.{Fault}
use Rattle.fault_steps.specs.declared.Progress.{Progress}
use Rattle.fault_steps.specs.Records.{fault_of}
use Rattle.book.specs.Book.{book_of}

-- the places of a part: 4,096 breaks
abbrev pub PLACES : ℕ
PLACES = 16384

abbrev pub fault : ℕ → ℕ → ℕ → ℕ → Fault
fault r l c f = record { rule = r; line = l; cell = c; first = f }

-- the record whose numbers begin at place j
abbrev pub record_at : List ℕ → ℕ → Fault
record_at ps j = fault (get_or ps j 0) (get_or ps (j + 1) 0) (get_or ps (j + 2) 0) (get_or ps (j + 3) 0)

-- t records, from place j on
abbrev pub records : List ℕ → ℕ → ℕ → List Fault
records ps j zero = []
records ps j (suc t) = record_at ps j ∷ records ps (j + 4) t

-- what is reported of a file: nothing where it is too long
unfoldable pub reported : Bytes → List Break
reported file = cond (ltb LIMIT (length file)) [] (breaks file)

-- the records that are still to come
abbrev pub remaining : Bytes → Progress → List Fault
remaining file s = map fault_of (drop s.count (reported file))

-- it grows smaller with each step
unfoldable pub away : Bytes → Progress → ℕ
away file s = cond s.more (suc (length file - s.carried.stand.at)) 0

-- what holds between two steps
pub record Between (file : Bytes) (s : Progress) (slots : List ℕ) : Type 0 where
  pub limit : length file ≤ LIMIT
  pub counted : s.count ≡ put_so_far s.carried.stand
  pub going : s.more ≡ true → Going (book_of (lines file)) file s.carried slots
  pub done : s.more ≡ false → s.count ≡ length (reported file)

-- a step from s to r: the places hold records, of which the list has room for `fit`, from `from` on; with them and those to come it is what it was to be
pub record Moves (file : Bytes) (s r : Progress) (places : List ℕ) : Type 0 where
  pub cap : r.cap ≡ s.cap
  pub inside : r.from + r.fit ≤ r.cap
  pub held : r.fit * 4 ≤ length places
  pub writes : (ys : List Fault) → length ys ≡ s.cap
      → sets ys s.count (remaining file s) ≡ sets (sets ys r.from (records places 0 r.fit)) r.count (remaining file r)
  pub less : away file r < away file s
