-- The lent list of places, four for each break: rule, line, cell, first. Assumes nothing.
use Rattle.std.specs.Prelude.{ℕ, ◌+◌, ◌*◌, ◌≤◌, ◌≡◌, cond, List, [], ◌∷◌, length, get_or, set, leb}
use Rattle.book.specs.Book.{WANTS}
use Rattle.rules.specs.Breaks.{Break}

-- the places, and how many breaks were put
pub record Lent : Type 0 where
  pub places : List ℕ
  pub count : ℕ

abbrev pub lent : List ℕ → ℕ → Lent
lent ys k = record { places = ys; count = k }

abbrev pub four : List ℕ → ℕ → Break → List ℕ
four ys at b = set (set (set (set ys at b.rule) (at + 1) b.line) (at + 2) b.cell) (at + 3) b.first

-- one break more: counted in any case, and written where all of its places are there
unfoldable pub put : Lent → Break → Lent
put o b =
    lent (cond (leb (4 * o.count + 4) (length o.places)) (four o.places (4 * o.count) b) o.places) (o.count + 1)

unfoldable pub put_all : Lent → List Break → Lent
put_all o [] = o
put_all o (b ∷ bs) = put_all (put o b) bs

-- rule, line, cell and first of a break stand from place a on
pub record Written (ys : List ℕ) (a : ℕ) (f : Break) : Type 0 where
  pub rule : get_or ys a 0 ≡ f.rule
  pub line : get_or ys (a + 1) 0 ≡ f.line
  pub cell : get_or ys (a + 2) 0 ≡ f.cell
  pub first : get_or ys (a + 3) 0 ≡ f.first

-- HOW MANY AT MOST

-- what a count may reach: whoever puts at most m breaks asks that the count and m stay below it
abbrev pub CEILING : ℕ
CEILING = 4294967295

-- of a column name, and of a header's names, at most 255; with what is put of them at cell 1
abbrev pub NAME_MOST : ℕ
NAME_MOST = 5

abbrev pub NAMES_MOST : ℕ
NAMES_MOST = 1275

abbrev pub HEADED_MOST : ℕ
HEADED_MOST = 1276

-- of a row's cells after the first, at most 255
abbrev pub CELLS_MOST : ℕ
CELLS_MOST = 765

-- of a line: a header has the most, 1,280
abbrev pub LINE_MOST : ℕ
LINE_MOST = 1300

-- at the end
abbrev pub END_MOST : ℕ
END_MOST = WANTS

-- of a file: one of each of 22 rules at a cell, at most two cells a byte, and two at each cell at the end
abbrev pub FILE_MOST : ℕ
FILE_MOST = 738200632

-- what every judging function does: it puts the breaks that f sets in front of what is put after it, and at most m of them
pub record Puts (f : List Break → List Break) (m : ℕ) (o o' : Lent) : Type 0 where
  pub does : (rest : List Break) → put_all o' rest ≡ put_all o (f rest)
  pub most : o'.count ≤ o.count + m
