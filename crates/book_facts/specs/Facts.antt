-- Facts of a file: its mode and its type, which decide what is demanded of it, and its version line. Assumes nothing.
use Rattle.std.specs.Prelude.{ℕ, ◌+◌, ◌≡◌, cond, ◌&&◌, List, [], ◌∷◌, eqb, get_or}
use Prim.Native.String.{String}
use Rattle.text_bytes.specs.Bytes.{Bytes, bytes, same}
use Rattle.text.specs.Lines.{cell, is_field}
use Rattle.book.specs.Letters.{MODE, TYPE, NONE}
use Rattle.book_kinds.specs.Kinds.{of_kind}
use Rattle.book_facts.specs.declared.Facts.{Facts}

-- a, or b where a is 0, which stands for none
abbrev pub earlier : ℕ → ℕ → ℕ
earlier a b = cond (eqb a 0) b a

-- the first that f answers for these lines, of which the first has the number n; 0 where it answers 0 for all
unfoldable pub earliest : (ℕ → Bytes → ℕ) → ℕ → List Bytes → ℕ
earliest f n [] = 0
earliest f n (l ∷ ls) = let later = earliest f (n + 1) ls in earlier (f n l) later

-- the first letter of a value of this kind that stands with this key; 0 for none
abbrev pub letter_at : String → ℕ → Bytes → Bytes → ℕ
letter_at sought kind key value = cond (same key (bytes sought) && of_kind kind NONE value) (get_or value 0 0) 0

abbrev pub mode_at : Bytes → Bytes → ℕ
mode_at key value = letter_at "mzTab-mode" MODE key value

abbrev pub type_at : Bytes → Bytes → ℕ
type_at key value = letter_at "mzTab-type" TYPE key value

-- the number of a line with the key of the version
abbrev pub version_at : ℕ → Bytes → ℕ
version_at n key = cond (same key (bytes "mzTab-version")) n 0

-- MTD lines of three cells alone say anything
abbrev pub mode_in : ℕ → Bytes → ℕ
mode_in n l = cond (is_field l) (mode_at (cell 2 l) (cell 3 l)) 0

abbrev pub type_in : ℕ → Bytes → ℕ
type_in n l = cond (is_field l) (type_at (cell 2 l) (cell 3 l)) 0

abbrev pub version_in : ℕ → Bytes → ℕ
version_in n l = cond (is_field l) (version_at n (cell 2 l)) 0

-- OF A FILE: the first valid mode, by its letter, C Complete or S Summary; the first valid type, I Identification or Q Quantification; 0 for none
unfoldable pub mode_of : List Bytes → ℕ
mode_of file = earliest mode_in 1 file

unfoldable pub type_of : List Bytes → ℕ
type_of file = earliest type_in 1 file

-- the number of the first line with a version, valid or not; 0 for none
unfoldable pub version_of : List Bytes → ℕ
version_of file = earliest version_in 1 file

-- an answer has them
pub record FactsOf (file : List Bytes) (r : Facts) : Type 0 where
  pub mode : r.mode ≡ mode_of file
  pub typed : r.typed ≡ type_of file
  pub version : r.version ≡ version_of file

-- LINE BY LINE: what a field, what a line adds
abbrev pub noted_field : Facts → ℕ → Bytes → Bytes → Facts
noted_field x n key value = record { mode = earlier x.mode (mode_at key value); typed = earlier x.typed (type_at key value); version = earlier x.version (version_at n key) }

unfoldable pub noted : Facts → ℕ → Bytes → Facts
noted x n l = record { mode = earlier x.mode (mode_in n l); typed = earlier x.typed (type_in n l); version = earlier x.version (version_in n l) }
