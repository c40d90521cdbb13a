-- What `judge_line_places`, and `mztab_judge_line`, promise of line l of a file: n is the number, k the count, ys the lent places before and zs after; and what
-- is promised of an edit of one cell. Assumes nothing.
use Rattle.std.specs.Prelude.{◌≡◌, List, ℕ}
use Rattle.text_bytes.specs.Bytes.{Bytes}
use Rattle.text.specs.Lines.{lines}
use Rattle.book.specs.Book.{book_of}
use Rattle.rules.specs.Breaks.{Break, break_with, In, Sorted}
use Rattle.rules.specs.Rules.{breaks}
use Rattle.rules.specs.Promised.{IsBroken, FirstOf}
use Rattle.rules.specs.Edited.{on_line}
use Rattle.judged.specs.Promised.{Lists}

-- the breaks of the line are those that the judging call lists of it: each that stands there, once, in order of cell, then rule, and nothing else, with the
-- first place where something comes again
pub record ReportsLine (file : Bytes) (l : ℕ) (bs : List Break) : Type 0 where
  pub part : bs ≡ on_line l (breaks file)
  pub sorted : Sorted bs
  pub broken : (n c k f : ℕ) → In (break_with n c k f) bs → (n ≡ l) × IsBroken file n c k f
  pub listed : (c k f : ℕ) → IsBroken file l c k f → In (break_with l c k f) bs
  pub first : (n c k f : ℕ) → In (break_with n c k f) bs → FirstOf (book_of (lines file)) (lines file) n c k f

-- of a line that is there, in a file within the limit
pub record Promised (file : Bytes) (l : ℕ) (bs : List Break) (ys : List ℕ) (n k : ℕ) (zs : List ℕ) : Type 0 where
  pub reports : ReportsLine file l bs
  pub lists : Lists bs ys n k zs
