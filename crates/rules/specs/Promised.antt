-- What is promised of a list of breaks: it has each break of the file once, in order, and nothing else. Assumes nothing.
use Rattle.std.specs.Prelude.{◌⊎◌, ◌≡◌, Bool, true, false, List, [], ℕ, ◌-◌, ◌≤◌, ◌<◌, get_or}
use Rattle.text_bytes.specs.Bytes.{Bytes}
use Rattle.text.specs.Lines.{lines, cell}
use Rattle.book.specs.Book.{Book, book_of}
use Rattle.rules.specs.Breaks.{Break, break_with, Breaks, Lacks, In, Sorted}
use Rattle.rules.specs.Sorts.{header}
use Rattle.rules.specs.Rules.{same_key, of_section, rules, end_rules, ends}

-- rule k is broken at cell c of line n, by a book, and what stands there stands first at f: at a line of the file, or the one after its last
abbrev pub IsBrokenBy : Book → List Bytes → ℕ → ℕ → ℕ → ℕ → Type 0
IsBrokenBy b file n c k f = Breaks (rules b) file n c k f ⊎ Lacks (end_rules b) (ends b) file n c k f

-- and by the file's own
abbrev pub IsBroken : Bytes → ℕ → ℕ → ℕ → ℕ → Type 0
IsBroken file n c k f = IsBrokenBy (book_of (lines file)) (lines file) n c k f

-- THE FOURTH NUMBER f of a break of rule k at cell c of line n: for rule 6 the earliest line with the key, for 9 the earliest header of the section, for 13 the
-- first cell of the header with the name, each above or before the break; for all other rules 0. What stands there is equal, and nothing before it is

-- line f, from 1, is the first of the lines for which a test holds
pub record FirstLine (p : Bytes → Bool) (file : List Bytes) (n f : ℕ) : Type 0 where
  pub low : 1 ≤ f
  pub above : f < n
  pub equal : p (get_or file (f - 1) []) ≡ true
  pub earliest : (i : ℕ) → 1 ≤ i → i < f → p (get_or file (i - 1) []) ≡ false

-- cell f is the first of the names with these bytes
pub record FirstName (l : Bytes) (c f : ℕ) : Type 0 where
  pub low : 2 ≤ f
  pub before : f < c
  pub equal : cell f l ≡ cell c l
  pub earliest : (i : ℕ) → 2 ≤ i → i < f → cell i l ≡ cell c l → ⊥

pub record FirstOf (b : Book) (file : List Bytes) (n c k f : ℕ) : Type 0 where
  pub key : k ≡ 6 → FirstLine (same_key (get_or file (n - 1) [])) file n f
  pub header_line : k ≡ 9 → FirstLine (of_section b (header b (get_or file (n - 1) []))) file n f
  pub name : k ≡ 13 → FirstName (get_or file (n - 1) []) c f
  pub none : (k ≡ 6 → ⊥) → (k ≡ 9 → ⊥) → (k ≡ 13 → ⊥) → f ≡ 0

-- each break comes before all that stand after it, so none stands twice; a break is listed exactly where that rule is broken at that cell of that line; and
-- its fourth number is the first place
pub record Reports (file : Bytes) (bs : List Break) : Type 0 where
  pub sorted : Sorted bs
  pub broken : (n c k f : ℕ) → In (break_with n c k f) bs → IsBroken file n c k f
  pub listed : (n c k f : ℕ) → IsBroken file n c k f → In (break_with n c k f) bs
  pub first : (n c k f : ℕ) → In (break_with n c k f) bs → FirstOf (book_of (lines file)) (lines file) n c k f
