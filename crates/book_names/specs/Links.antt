-- The links of a table: they lead from a byte to the entries whose names begin with it. Assumes nothing.
use Rattle.std.specs.Prelude.{ℕ, ◌+◌, ◌≤◌, ◌<◌, ◌≡◌, cond, List, [], ◌∷◌, eqb, length, get_or, take, drop}
use Rattle.text_bytes.specs.Bytes.{Bytes, SPACE}
use Rattle.book_names.specs.Names.{OPEN, Piece, byte, place, Entry, form_of}
use Rattle.book_names.specs.Table.{entries}

-- the first byte of a pattern's text, a space where it has none
unfoldable pub head_of : List Piece → ℕ
head_of [] = SPACE
head_of (byte x ∷ ps) = x
head_of (place ∷ ps) = OPEN

-- the first entry whose name begins with b, the number past the last where there is none; r numbers the entries
unfoldable pub next_head : ℕ → List Entry → ℕ → ℕ
next_head b [] r = r
next_head b (x ∷ xs) r =
    let later = next_head b xs (r + 1) in
    cond (eqb (head_of (form_of x)) b) r later

-- the links of the bytes; those of the entries come after them
abbrev pub HEADS : ℕ
HEADS = 256

-- these bytes link the entries from number r on: a byte to the first that begins with it, and an entry to the next that begins as it does
pub record Linked (r : ℕ) (es : List Entry) (links : Bytes) : Type 0 where
  pub size : HEADS + length es ≤ length links
  pub heads : (b : ℕ) → b < HEADS → get_or links b 0 ≡ next_head b (drop r es) r
  pub nexts : (q : ℕ) (x : Entry) (xs : List Entry) → r ≤ q → drop q es ≡ x ∷ xs → get_or links (HEADS + q) 0 ≡ next_head (head_of (form_of x)) xs (q + 1)

-- the links of the table t were written in a text from `at` on: b before, b' after
pub record Links (t : Bytes) (at : ℕ) (b b' : Bytes) : Type 0 where
  pub long : length b' ≡ length b
  pub kept : take at b' ≡ take at b
  pub linked : Linked 0 (entries t) (drop at b')
