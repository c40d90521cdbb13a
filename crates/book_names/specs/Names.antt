-- The names that a line of a table stands for, and the look-up of a name in a table. Assumes nothing.
use Rattle.std.specs.Prelude.{ℕ, zero, suc, ◌+◌, ◌*◌, ◌-◌, Bool, true, false, cond, Result, List, [], ◌∷◌, ◌++◌, eqb, get_or, drop, Ok, Err}
use Rattle.text_bytes.specs.Bytes.{Bytes, SPACE}
use Rattle.value_references.specs.Index.{MOST, written, index_at, is_form, sooner}
use Rattle.value_references.specs.declared.index.Index.{Index}
use Rattle.value_references.specs.declared.index.Index.TheVariants.{Not, Bad, Is}
use Rattle.value_references.specs.declared.index.Flaw.{Flaw}
use Rattle.value_references.specs.declared.index.Flaw.TheVariants.{Form}
use Rattle.book_names.specs.declared.Match.{Match}
use Rattle.book_names.specs.declared.Match.TheVariants.{Differs, Misses, Fits}
use Rattle.book_names.specs.declared.Known.{Known}

-- `[`
abbrev pub OPEN : ℕ
OPEN = 91

-- `]`
abbrev pub CLOSE : ℕ
CLOSE = 93

-- a pattern is made of bytes that stand for themselves and places for an index
pub data Piece : Type 0 where
  byte : ℕ → Piece
  place : Piece

-- the pieces of a pattern, which a space ends. `[` begins a place, and the two bytes after it belong to it (the `n]` of `[n]`): k counts those still to pass over
unfoldable pub pieces_from : ℕ → Bytes → List Piece
pieces_from zero [] = []
pieces_from (suc k) [] = []
pieces_from zero (x ∷ xs) =
    let hole = place ∷ pieces_from 2 xs in
    let more = byte x ∷ pieces_from 0 xs in
    cond (eqb x SPACE) [] (cond (eqb x OPEN) hole more)
pieces_from (suc k) (x ∷ xs) = pieces_from k xs

abbrev pub pieces : Bytes → List Piece
pieces pattern = pieces_from 0 pattern

-- a line of a table: the letters of its kind and its family, and the pieces of its name
pub data Entry : Type 0 where
  entry : ℕ → ℕ → List Piece → Entry

abbrev pub kind_of : Entry → ℕ
kind_of (entry k f ps) = k

abbrev pub family_of : Entry → ℕ
family_of (entry k f ps) = f

abbrev pub form_of : Entry → List Piece
form_of (entry k f ps) = ps

unfoldable pub entry_of : Bytes → Entry
entry_of line = entry (get_or line 0 0) (get_or line 1 0) (pieces (drop 3 line))

-- the name that a pattern stands for, its first place filled by i and its second by j
unfoldable pub filled : List Piece → ℕ → ℕ → Bytes
filled [] i j = []
filled (byte p ∷ ps) i j = p ∷ filled ps i j
filled (place ∷ ps) i j = written i ++ filled ps j 0

-- what a name with a bad index is that would be m with a good one in its place: m tells of the indices after it, so the leftmost decides
abbrev pub missing : Flaw → Match → Match
missing z Differs = Differs
missing z (Misses w) = Misses z
missing z (Fits i j) = Misses z

-- a bad index is passed over as if it were 1
abbrev pub on_index : Index → (ℕ → ℕ → Match) → Match
on_index Not f = Differs
on_index (Bad z w) f = missing z (f 1 w)
on_index (Is v w) f = f v w

-- the indices that a name gives to the places of a pattern, at most two; i and j are those read before, 0 for none
unfoldable pub fits : List Piece → Bytes → ℕ → ℕ → Match
fits [] [] i j = Fits i j
fits [] (x ∷ s) i j = Differs
fits (byte p ∷ ps) [] i j = Differs
fits (byte p ∷ ps) (x ∷ s) i j = let m = fits ps s i j in cond (eqb x p) m Differs
fits (place ∷ ps) s i j =
    on_index (index_at s) λ v w.
    let first = fits ps (drop w s) v j in
    let second = fits ps (drop w s) i v in
    cond (eqb i 0) first (cond (eqb j 0) second Differs)

-- what a table says of a name: what it knows of it, or the flaw for which it is unknown
abbrev pub Found : Type 0
Found = Result Known Flaw

-- a name known at entry e, with the letters k of its kind and f of its family and the indices i and j
abbrev pub known_as : ℕ → ℕ → ℕ → ℕ → ℕ → Found
known_as e k f i j = Ok (record { entry = e; kind = k; family = f; i = i; j = j })

-- whether a table has a name
abbrev pub is_known : Found → Bool
is_known (Err w) = false
is_known (Ok k) = true

-- whether it has none like it: neither the name, nor one that is the same but for its indices
abbrev pub is_strange : Found → Bool
is_strange (Err w) = is_form w
is_strange (Ok k) = false

-- the flaw for which a name is known but for its indices, Form for none
abbrev pub why_not : Found → Flaw
why_not (Err w) = w
why_not (Ok k) = Form

-- what is said of a name that misses an entry with the flaw z, where those after it say d: known stays known
abbrev pub misses : Flaw → Found → Found
misses z (Err w) = Err (sooner z w)
misses z (Ok k) = Ok k

abbrev pub on_match : Match → Found → (ℕ → ℕ → Found) → Found
on_match Differs d f = d
on_match (Misses z) d f = misses z d
on_match (Fits i j) d f = f i j

-- the first entry whose pattern the name fits, e numbers the entries; where there is none, the flaw for which it misses the first that it would fit but for its indices
unfoldable pub first_of : ℕ → List Entry → Bytes → Found
first_of e [] name = Err Form
first_of e (x ∷ xs) name =
    let other = first_of (e + 1) xs name in
    on_match (fits (form_of x) name 0 0) other (λ i j. known_as e (kind_of x) (family_of x) i j)

abbrev pub lookup_in : List Entry → Bytes → Found
lookup_in entries name = first_of 0 entries name

-- SLOTS: the known names of a table are numbered without a gap, entry by entry

-- how many names a pattern stands for: one for each index at each of its places
unfoldable pub spread : List Piece → ℕ
spread [] = 1
spread (byte p ∷ ps) = spread ps
spread (place ∷ ps) = MOST * spread ps

-- where the names of entry e begin: those of the entries before it come first
unfoldable pub start_of : List Entry → ℕ → ℕ
start_of es zero = 0
start_of [] (suc e) = 0
start_of (x ∷ es) (suc e) = spread (form_of x) + start_of es e

-- which of its pattern's names has these indices, 0 for none
abbrev pub among : ℕ → ℕ → ℕ
among i j = cond (eqb j 0) (i - 1) ((i - 1) * MOST + (j - 1))

-- a number for each known name of a table
abbrev pub slot_of : List Entry → ℕ → ℕ → ℕ → ℕ
slot_of es e i j = start_of es e + among i j
