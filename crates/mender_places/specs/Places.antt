-- What is written into a lent buffer and a lent list, byte by byte and change by change: both count on where there is no place. No public contract cites this
-- file. Assumes nothing.
use Rattle.std.specs.Prelude.{ℕ, ◌+◌, ◌*◌, ◌≤◌, ◌≡◌, cond, List, [], ◌∷◌, length, set, leb}
use Rattle.text_bytes.specs.Bytes.{Bytes}
use Rattle.rules.specs.Breaks.{Break}
use Rattle.scan.specs.Places.{Lent, lent}

-- the bytes, one after the other, each where there is a place for it
unfoldable pub lay_all : Lent → Bytes → Lent
lay_all o [] = o
lay_all o (x ∷ xs) = lay_all (lent (set o.places o.count x) (o.count + 1)) xs

-- one change more, line and cell: written where both places are there
unfoldable pub noted : Lent → Break → Lent
noted o g =
    lent (cond (leb (2 * o.count + 2) (length o.places)) (set (set o.places (2 * o.count) g.line) (2 * o.count + 1) g.cell) o.places) (o.count + 1)

unfoldable pub note_all : Lent → List Break → Lent
note_all o [] = o
note_all o (g ∷ gs) = note_all (noted o g) gs

-- what every function that mends does: it lays these bytes and notes these changes, so many of either at most
pub record Mends (xs : Bytes) (gs : List Break) (far few : ℕ) (o o' q q' : Lent) : Type 0 where
  pub lays : o' ≡ lay_all o xs
  pub notes : q' ≡ note_all q gs
  pub most_bytes : o'.count ≤ o.count + far
  pub most_changes : q'.count ≤ q.count + few

-- a byte of the file gives at most five of the copy, a tab with `null` after it, and one change
abbrev pub COPY_MOST : ℕ
COPY_MOST = 83886080

abbrev pub CHANGES_MOST : ℕ
CHANGES_MOST = 16777216
