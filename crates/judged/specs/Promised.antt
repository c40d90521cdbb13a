-- What `judge_places`, and `mztab_judge`, promise of a file: n is the number, k the count, ys the lent places before and zs after. What becomes of the lent
-- places is said once, for the call for one line too. Assumes nothing.
use Rattle.std.specs.Prelude.{◌≡◌, List, map, ◌⊎◌, ℕ, ◌+◌, ◌*◌, ◌≤◌, ◌<◌, length, get_or}
use Rattle.text_bytes.specs.Bytes.{Bytes}
use Rattle.book.specs.Book.{up_from}
use Rattle.rules.specs.Breaks.{Break, break_with, break_at}
use Rattle.rules.specs.Promised.{IsBroken, Reports}
use Rattle.scan.specs.Places.{Written}

-- of what is refused with the number w
pub record Refused (w : ℕ) (ys : List ℕ) (n k : ℕ) (zs : List ℕ) : Type 0 where
  pub number : n ≡ w
  pub count : k ≡ 0
  pub untouched : zs ≡ ys

-- the places of break i are there, and it is one of k
abbrev pub HasPlaces : ℕ → List ℕ → ℕ → Type 0
HasPlaces k ys i = (i < k) × (4 * i + 4 ≤ length ys)

-- of the lent places, where the breaks are bs: all are counted, each that fits stands at its places, and every other place is as it was
pub record Lists (bs : List Break) (ys : List ℕ) (n k : ℕ) (zs : List ℕ) : Type 0 where
  pub number : n ≡ 0
  pub count : k ≡ length bs
  pub long : length zs ≡ length ys
  pub stands : (i : ℕ) → HasPlaces k ys i → Written zs (4 * i) (get_or bs i (break_at 0 0 0))
  pub untouched : (j : ℕ) → ((i : ℕ) → HasPlaces k ys i → (j < 4 * i) ⊎ (4 * i + 4 ≤ j)) → get_or zs j 0 ≡ get_or ys j 0

-- of a file within the limit, whose breaks are bs
pub record Promised (file : Bytes) (bs : List Break) (ys : List ℕ) (n k : ℕ) (zs : List ℕ) : Type 0 where
  pub reports : Reports file bs
  pub lists : Lists bs ys n k zs
  pub none_broken : k ≡ 0 → (l c r f : ℕ) → IsBroken file l c r f → ⊥
  pub accepted : ((l c r f : ℕ) → IsBroken file l c r f → ⊥) → k ≡ 0

-- WHAT A HOST READS: the break that stands as the i-th, and the first k of them
abbrev pub read_at : List ℕ → ℕ → Break
read_at zs i = break_with (get_or zs (4 * i + 1) 0) (get_or zs (4 * i + 2) 0) (get_or zs (4 * i) 0) (get_or zs (4 * i + 3) 0)

abbrev pub read_all : ℕ → List ℕ → List Break
read_all k zs = map (read_at zs) (up_from k 0)
