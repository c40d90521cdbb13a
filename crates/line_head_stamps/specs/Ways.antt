-- The way of a name from its stamp's door through forks to the number of a name, and that each name's way ends at the number of the first that is equal.
-- No rule speaks of it. Assumes nothing.
use Rattle.std.specs.Prelude.{ℕ, zero, suc, ◌+◌, ◌-◌, ◌/◌, ◌%◌, ◌≤◌, ◌<◌, ◌≡◌, List, length, get_or}
use Rattle.text_bytes.specs.Bytes.{Bytes, same, first_kept}
use Rattle.line_head_stamps.specs.Stamps.{ROOM, DOORS, BRANCHES, ASKS, STARTS, ENDS, GUESSES, IsDoor, branch, name_at, hash_of, byte_code, side_of}

-- two names are the same up to a place, which is the end of both or tells them apart
pub record PartsAt (a b : Bytes) (place : ℕ) : Type 0 where
  pub within : place ≤ length a
  pub equal : place ≡ length a → place ≡ length b → a ≡ b
  pub ended : byte_code a place ≡ byte_code b place → (place ≡ length a) × (place ≡ length b)

-- nothing but guesses has changed, and nothing rests on a guess
pub record Guessed (t t' : List ℕ) : Type 0 where
  pub places : length t' ≡ length t
  pub kept : (i : ℕ) → i < GUESSES → get_or t' i 0 ≡ get_or t i 0

-- from the last door back to the first: a door that holds a fork leads to that of its doors which is on the name's side
pub data Way (t : List ℕ) (m : ℕ) (name : Bytes) (last : ℕ) : ℕ → Type 0 where
  here : Way t m name last last
  on : {door : ℕ} (fork : ℕ) → get_or t door 0 ≡ 256 + fork → fork < m → Way t m name last (branch fork (side_of (get_or t (ASKS + fork) 0) name)) → Way t m name last door

-- a door of a fork, with a name of another side
pub record Astray (t : List ℕ) (door : ℕ) (name : Bytes) : Type 0 where
  pub branched : BRANCHES ≤ door
  pub other : side_of (get_or t (ASKS + (door - BRANCHES) / 16) 0) name ≡ (door - BRANCHES) % 16 → ⊥

-- behind the doors of the first m forks are names or later forks, so that each way ends
pub record Doors (t : List ℕ) (m : ℕ) : Type 0 where
  pub holds : (fork side : ℕ) → fork < m → side < 16 → IsDoor m (get_or t (branch fork side) 0)
  pub rises : (fork side : ℕ) → fork < m → side < 16 → 256 ≤ get_or t (branch fork side) 0 → 256 + fork < get_or t (branch fork side) 0

-- a way of the name goes from one door on to another, and a way on from there is one from the first
pub record Goes (t : List ℕ) (m : ℕ) (name : Bytes) (from door : ℕ) : Type 0 where
  pub low : DOORS ≤ door
  pub high : door < ASKS
  pub holds : IsDoor m (get_or t door 0)
  pub rises : 256 ≤ get_or t door 0 → get_or t from 0 < get_or t door 0
  pub way : (last : ℕ) → Way t m name last door → Way t m name last from

-- the way of the name, whose stamp stands at h, ends at this door; it is 0 where there is no such stamp of line n
pub record FindsDoor (t : List ℕ) (n m h : ℕ) (name : Bytes) (door : ℕ) : Type 0 where
  pub none : door ≡ 0 → get_or t h 0 ≡ n → IsDoor m (get_or t (DOORS + h) 0) → ⊥
  pub stamped : (door ≡ 0 → ⊥) → get_or t h 0 ≡ n
  pub way : (door ≡ 0 → ⊥) → Way t m name door (DOORS + h)
  pub ends : (door ≡ 0 → ⊥) → get_or t door 0 < m

-- the way of a name ends at the number of the first equal name
pub record Known (t : List ℕ) (n : ℕ) (line : Bytes) (m : ℕ) (name : Bytes) : Type 0 where
  pub stamped : get_or t (hash_of name) 0 ≡ n
  pub door : ℕ
  pub way : Way t m name door (DOORS + hash_of name)
  pub ends : get_or t door 0 < m
  pub equal : name_at t line (get_or t door 0) ≡ name
  pub first : (j : ℕ) → j < get_or t door 0 → name_at t line j ≡ name → ⊥

-- the first m names of line n are noted
pub record Noted (t : List ℕ) (n : ℕ) (line : Bytes) (m : ℕ) : Type 0 where
  pub places : length t ≡ ROOM
  pub starts : (j : ℕ) → j < m → get_or t (STARTS + j) 0 ≤ get_or t (ENDS + j) 0
  pub ends : (j : ℕ) → j < m → get_or t (ENDS + j) 0 ≤ length line
  pub doors : Doors t m
  pub known : (j : ℕ) → j < m → Known t n line m (name_at t line j)

-- the cell of the first of m names that is equal, 0 for none; name number 0 stands in cell 2
unfoldable pub first_named : List ℕ → Bytes → Bytes → ℕ → ℕ
first_named t line name zero = 0
first_named t line name (suc m) = first_kept (first_named t line name m) (same name (name_at t line m)) (m + 2)

-- where a name stands first among m, which are noted, is answered, and it is noted as one more
pub record Adds (t t' : List ℕ) (n : ℕ) (line : Bytes) (m : ℕ) (name : Bytes) (first : ℕ) : Type 0 where
  pub answer : first ≡ first_named t line name m
  pub noted : Noted t' n line (m + 1)
  pub names : (z : Bytes) → first_named t' line z (m + 1) ≡ first_kept (first_named t line z m) (same z name) (m + 2)
