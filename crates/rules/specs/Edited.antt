-- What one edited line can do: request 2026-14. The breaks with one line's part anew; lines that are alike; and rules that know of other rows nothing but
-- that they are there. Assumes nothing.
use Rattle.std.specs.Prelude.{ℕ, ◌≡◌, Bool, cond, not, List, [], ◌∷◌, ◌++◌, eqb, ltb}
use Rattle.text_bytes.specs.Bytes.{Bytes}
use Rattle.text.specs.Lines.{lines}
use Rattle.book.specs.Book.{Book, book_of}
use Rattle.rules.specs.Sorts.{sort_of}
use Rattle.rules.specs.Breaks.{Break, spot, spot_at, Rule, at_cell, at_line}
use Rattle.rules.specs.Rules.{rules}
use Rattle.rules.specs.declared.sorts.Sort.TheVariants.{Row}

-- the breaks that pass a test, in their order
unfoldable pub kept : (Break → Bool) → List Break → List Break
kept t [] = []
kept t (b ∷ bs) = cond (t b) (b ∷ kept t bs) (kept t bs)

-- those of line n
abbrev pub on_line : ℕ → List Break → List Break
on_line n bs = kept (λ g. eqb g.line n) bs

-- those of all lines but line n
abbrev pub others : ℕ → List Break → List Break
others n bs = kept (λ g. not (eqb g.line n)) bs

-- those before line n, then a new part for it, then those after it
abbrev pub renewed : ℕ → List Break → List Break → List Break
renewed n part bs = kept (λ g. ltb g.line n) bs ++ (part ++ kept (λ g. ltb n g.line) bs)

-- the breaks of line n of a file, by a book
abbrev pub line_of : Book → List Bytes → ℕ → List Break
line_of b file n = at_line (rules b) (spot_at file n) n

-- and by its own
abbrev pub of_line : Bytes → ℕ → List Break
of_line file n = line_of (book_of (lines file)) (lines file) n

-- two lines are alike: the same line, or two rows of one section
pub data Alike (b : Book) : Bytes → Bytes → Type 0 where
  equal : {l : Bytes} → Alike b l l
  rows : {l m : Bytes} {s : ℕ} → sort_of b l ≡ Row s → sort_of b m ≡ Row s → Alike b l m

-- line by line
pub data Alikes (b : Book) : List Bytes → List Bytes → Type 0 where
  done : Alikes b [] []
  next : {l m : Bytes} {ls ms : List Bytes} → Alike b l m → Alikes b ls ms → Alikes b (l ∷ ls) (m ∷ ms)

-- rules are local: of the lines above and of the file they know nothing but what alike lines share
abbrev pub Local : Book → List Rule → Type 0
Local b rs =
    (here : Bytes) (n c : ℕ) (above above' file file' : List Bytes) → Alikes b above above' → Alikes b file file'
    → at_cell rs (spot above here file) n c ≡ at_cell rs (spot above' here file') n c
