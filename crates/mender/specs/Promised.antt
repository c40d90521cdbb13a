-- What `mend`, and `mztab_mend`, promise of a file: n is the number, m the length, k the count, ys the lent buffer before and xs after, zs the lent list before and
-- cs after. Assumes nothing.
use Rattle.std.specs.Prelude.{◌≡◌, List, [], cond, ◌⊎◌, ℕ, ◌+◌, ◌-◌, ◌*◌, ◌≤◌, ◌<◌, length, get_or, take}
use Rattle.text_bytes.specs.Bytes.{Bytes}
use Rattle.text.specs.Lines.{lines, cell, width}
use Rattle.text.specs.Joined.{line_ends}
use Rattle.rules.specs.Breaks.{Break, break_at}
use Rattle.rules.specs.Rules.{breaks}
use Rattle.rules.specs.Mended.{NULL, changes_of, left_of, is_changed}

-- of what is refused with the number w
pub record Refused (w : ℕ) (ys : Bytes) (zs : List ℕ) (n m k : ℕ) (xs : Bytes) (cs : List ℕ) : Type 0 where
  pub number : n ≡ w
  pub none_laid : m ≡ 0
  pub count : k ≡ 0
  pub untouched : xs ≡ ys
  pub unlisted : cs ≡ zs

-- the places of change i are there, and it is one of k
abbrev pub HasPlaces : ℕ → List ℕ → ℕ → Type 0
HasPlaces k zs i = (i < k) × (2 * i + 2 ≤ length zs)

-- of the lent list, where the changes are gs: all are counted, each that fits stands at its places, and every other place is as it was
pub record Lists (gs : List Break) (zs : List ℕ) (k : ℕ) (cs : List ℕ) : Type 0 where
  pub count : k ≡ length gs
  pub long : length cs ≡ length zs
  pub line : (i : ℕ) → HasPlaces k zs i → get_or cs (2 * i) 0 ≡ (get_or gs i (break_at 0 0 0)).line
  pub cell_of : (i : ℕ) → HasPlaces k zs i → get_or cs (2 * i + 1) 0 ≡ (get_or gs i (break_at 0 0 0)).cell
  pub untouched : (j : ℕ) → ((i : ℕ) → HasPlaces k zs i → (j < 2 * i) ⊎ (2 * i + 2 ≤ j)) → get_or cs j 0 ≡ get_or zs j 0

-- of a copy: the lines of the file with their ends, cell by cell, with `null` where a change is; its breaks are those of the file without the mended ones; and
-- mended again nothing changes
pub record Copies (file copy : Bytes) : Type 0 where
  pub size : length copy ≡ length file + 4 * length (changes_of file)
  pub count : length (lines copy) ≡ length (lines file)
  pub ends : line_ends copy ≡ line_ends file
  pub widths : (l : ℕ) → 1 ≤ l → l ≤ length (lines file) → width (get_or (lines copy) (l - 1) []) ≡ width (get_or (lines file) (l - 1) [])
  pub cells : (l c : ℕ) → 1 ≤ l → l ≤ length (lines file) → 1 ≤ c → c ≤ width (get_or (lines file) (l - 1) [])
      → cell c (get_or (lines copy) (l - 1) []) ≡ cond (is_changed (changes_of file) l c) NULL (cell c (get_or (lines file) (l - 1) []))
  pub left : breaks copy ≡ left_of file
  pub settled : changes_of copy ≡ []
  pub same : changes_of file ≡ [] → copy ≡ file

-- of a file within the limit, whose copy is within it and has room in the buffer: the copy stands at the front of the buffer, and what is behind it is as it was
pub record Promised (file ys : Bytes) (zs : List ℕ) (n m k : ℕ) (xs : Bytes) (cs : List ℕ) : Type 0 where
  pub number : n ≡ 0
  pub fits : m ≤ length ys
  pub long : length xs ≡ length ys
  pub copies : Copies file (take m xs)
  pub behind : (j : ℕ) → m ≤ j → get_or xs j 0 ≡ get_or ys j 0
  pub lists : Lists (changes_of file) zs k cs
