-- The ids of a file: which it declares, by families 0 sample, 1 assay, 2 study variable, 3 run. Assumes nothing.
use Rattle.std.specs.Prelude.{ℕ, ◌+◌, ◌-◌, ◌<◌, ◌≡◌, Bool, true, false, cond, ◌&&◌, List, [], ◌∷◌, ◌++◌, map, eqb, length, get_or, drop, set, Option, Some, None}
use Rattle.text_bytes.specs.Bytes.{Bytes, bytes, begins, any}
use Rattle.text.specs.Lines.{lines, is_field, key_cell}
use Rattle.value_references.specs.Index.{written, index_at, index_in}
use Rattle.value_references.specs.References.{families, family}
use Rattle.book_names.specs.Names.{is_known}
use Rattle.book.specs.Book.{Book, up_from, key_of}
use Rattle.book_ids.specs.declared.Id.{Id}

-- whether a line declares id i of family f: an MTD line that has three cells and a known key beginning with it
unfoldable pub declares : Book → ℕ → ℕ → Bytes → Bool
declares b f i line = is_field line && is_known (key_of b (key_cell line)) && begins (family f ++ written i) (key_cell line)

-- whether any line of the file declares it
unfoldable pub declared : Book → Bytes → ℕ → ℕ → Bool
declared b file f i = any (declares b f i) (lines file)

-- THE FLAGS

-- the flag of family f at place i
abbrev pub flag : List (List Bool) → ℕ → ℕ → Bool
flag t f i = get_or (get_or t f []) i false

-- four families of 64 flags: index i stands at place i - 1
pub record Flags (t : List (List Bool)) : Type 0 where
  pub families : length t ≡ 4
  pub indices : (f : ℕ) → f < 4 → length (get_or t f []) ≡ 64

-- they say of every id whether the file declares it
pub record Declared (b : Book) (t : List (List Bool)) (file : Bytes) : Type 0 where
  pub shape : Flags t
  pub flags : (f i : ℕ) → f < 4 → i < 64 → flag t f i ≡ declared b file f (i + 1)

-- whether a flag is marked, or a slot, from one up to another
unfoldable pub is_marked : List Bool → ℕ → ℕ → Bool
is_marked flags from to = any (λ s. get_or flags s false) (up_from (to - from) from)

-- WHAT THE CODE FINDS

-- the index that stands after a word at the front of a name, 0 for none
unfoldable pub index_after : Bytes → Bytes → ℕ
index_after w name = cond (begins w name) (index_in (index_at (drop (length w) name))) 0

-- the id that a name begins with; f numbers the words
abbrev pub id : ℕ → ℕ → Id
id f i = record { family = f; index = i }

unfoldable pub id_in : ℕ → List Bytes → Bytes → Option Id
id_in f [] name = None
id_in f (w ∷ ws) name =
    let other = id_in (f + 1) ws name in
    cond (eqb (index_after w name) 0) other (Some (id f (index_after w name)))

unfoldable pub id_of : Bytes → Option Id
id_of name = id_in 0 (map bytes families) name

-- the id that a known key begins with
unfoldable pub key_id : Book → Bytes → Option Id
key_id b name = cond (is_known (key_of b name)) (id_of name) None

-- the id that a line declares
unfoldable pub line_id : Book → Bytes → Option Id
line_id b line = cond (is_field line) (key_id b (key_cell line)) None

-- the flags with the id's one set
unfoldable pub marked : List (List Bool) → Option Id → List (List Bool)
marked t None = t
marked t (Some d) = set t d.family (set (get_or t d.family []) (d.index - 1) true)
