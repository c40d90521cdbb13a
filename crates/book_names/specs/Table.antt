-- A table as the code holds it: rows of one width in one text, a row a line of the table with spaces after it. Assumes nothing.
use Rattle.std.specs.Prelude.{ℕ, zero, suc, ◌/◌, List, [], ◌∷◌, map, length, take, drop}
use Rattle.text_bytes.specs.Bytes.{Bytes}
use Rattle.book_names.specs.Names.{Entry, entry_of}

-- the bytes of a row: those of the longest line
abbrev pub WIDTH : ℕ
WIDTH = 54

-- n rows
unfoldable pub cut : ℕ → Bytes → List Bytes
cut zero t = []
cut (suc n) t = take WIDTH t ∷ cut n (drop WIDTH t)

-- the rows of a table; bytes that make no whole row are none
unfoldable pub rows : Bytes → List Bytes
rows t = cut (length t / WIDTH) t

-- the entries of a table
abbrev pub entries : Bytes → List Entry
entries t = map entry_of (rows t)
