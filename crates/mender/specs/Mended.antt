-- What the mending call gives back: request 2026-02. Assumes nothing.
use Rattle.std.specs.Prelude.{ℕ, cond, ◌||◌, List, [], ◌∷◌, length, ltb}
use Rattle.numbers.specs.Numbers.{TOO_LONG, NO_ROOM}
use Rattle.text_bytes.specs.Bytes.{Bytes}
use Rattle.text.specs.Lines.{LIMIT}
use Rattle.rules.specs.Breaks.{Break}
use Rattle.rules.specs.Mended.{changes_of, copy_of}
use Rattle.mender_places.specs.declared.Copied.{Copied}

-- the number, the copy's length, the count of all changes, and the lent buffer and list afterwards
pub record Outcome : Type 0 where
  pub number : ℕ
  pub length : ℕ
  pub count : ℕ
  pub copy : Bytes
  pub changes : List ℕ

abbrev pub outcome : ℕ → ℕ → ℕ → Bytes → List ℕ → Outcome
outcome n m k ys zs = record { number = n; length = m; count = k; copy = ys; changes = zs }

-- of a refusal: no byte and no change
abbrev pub none : Copied
none = record { to = 0; count = 0 }

-- a buffer with these bytes from its first place on, as far as it goes; the places behind them stay as they were
unfoldable pub with_bytes : Bytes → Bytes → Bytes
with_bytes [] ys = ys
with_bytes (x ∷ xs) [] = []
with_bytes (x ∷ xs) (y ∷ ys) = x ∷ with_bytes xs ys

-- a list with line and cell of each change from its first place on, two places each, as far as it has both; the others stay as they were
unfoldable pub with_changes : List Break → List ℕ → List ℕ
with_changes [] zs = zs
with_changes (g ∷ gs) [] = []
with_changes (g ∷ gs) (y ∷ []) = y ∷ []
with_changes (g ∷ gs) (y ∷ (z ∷ zs)) = g.line ∷ g.cell ∷ with_changes gs zs

-- the file too long; the copy longer than the limit or than the buffer: tried in this order, with 0 and 0, and nothing is written
unfoldable pub mended : Bytes → Bytes → List ℕ → Outcome
mended file ys zs =
    cond (ltb LIMIT (length file)) (outcome TOO_LONG 0 0 ys zs)
    (cond (ltb LIMIT (length (copy_of file)) || ltb (length ys) (length (copy_of file))) (outcome NO_ROOM 0 0 ys zs)
    (outcome 0 (length (copy_of file)) (length (changes_of file)) (with_bytes (copy_of file) ys) (with_changes (changes_of file) zs)))
