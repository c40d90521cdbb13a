-- The list by which a name of a header is known to have come before: what stands where, and what is written. No rule speaks of it. Assumes nothing.
use Rattle.std.specs.Prelude.{ℕ, zero, suc, ◌+◌, ◌*◌, ◌/◌, ◌%◌, ◌^◌, ◌<◌, List, [], ◌∷◌, get_or, set}
use Rattle.text_bytes.specs.Bytes.{Bytes}
use Rattle.text_bytes.specs.Places.{part}

-- PLACES: the stamps, and from here on their doors, the doors of the forks, what each fork asks, where each name begins, where it ends, and what each fork guesses
abbrev pub DOORS : ℕ
DOORS = 4096

abbrev pub BRANCHES : ℕ
BRANCHES = 8192

abbrev pub ASKS : ℕ
ASKS = 12288

abbrev pub STARTS : ℕ
STARTS = 12544

abbrev pub ENDS : ℕ
ENDS = 12800

abbrev pub GUESSES : ℕ
GUESSES = 13056

abbrev pub ROOM : ℕ
ROOM = 13312

-- the door of a fork on one of its sides, 0 to 15
abbrev pub branch : ℕ → ℕ → ℕ
branch fork side = BRANCHES + 16 * fork + side

-- a door holds the number of one of the first m names, or 256 more: that of the fork that came with it
abbrev pub IsDoor : ℕ → ℕ → Type 0
IsDoor m held = (held < 512) × (held % 256 < m)

-- name number j of the line
unfoldable pub name_at : List ℕ → Bytes → ℕ → Bytes
name_at t line j = part (get_or t (STARTS + j) 0) (get_or t (ENDS + j) 0) line

-- THE HASH: times 33 and the byte, of which 16 bits are kept
unfoldable pub hash_from : ℕ → Bytes → ℕ
hash_from h [] = h
hash_from h (x ∷ xs) = hash_from ((h * 33 + x) % 65536) xs

-- the place of a name's stamp
unfoldable pub hash_of : Bytes → ℕ
hash_of name = hash_from 0 name % DOORS

-- WHAT A FORK ASKS: the code at a place is the byte and one more, 0 past the end
unfoldable pub byte_code : Bytes → ℕ → ℕ
byte_code [] place = 0
byte_code (x ∷ xs) zero = x + 1
byte_code (x ∷ xs) (suc place) = byte_code xs place

-- 16 times a place and a shift ask for four bits of the code there, and these are the side of a name
unfoldable pub side_of : ℕ → Bytes → ℕ
side_of ask name = byte_code name (ask / 16) / 2 ^ (ask % 16) % 16

-- what no fork asks: the answer of two names that are equal
abbrev pub SAME : ℕ
SAME = 4294967295

-- WHAT IS WRITTEN: n places from one on hold a number
unfoldable pub covered : List ℕ → ℕ → ℕ → ℕ → List ℕ
covered t from zero held = t
covered t from (suc n) held = set (covered t from n held) (from + n) held

-- name number m stands from a place up to another, and is behind all doors of its fork
unfoldable pub entered : List ℕ → ℕ → ℕ → ℕ → List ℕ
entered t m start end = covered (set (set t (STARTS + m) start) (ENDS + m) end) (BRANCHES + 16 * m) 16 m

-- a door leads to fork m, where on one side is what the door held
unfoldable pub forked : List ℕ → ℕ → ℕ → ℕ → ℕ → List ℕ
forked t door m ask their = set (set (set t (ASKS + m) ask) (branch m their) (get_or t door 0)) door (256 + m)
