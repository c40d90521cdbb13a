-- What is worked out of the lines above: all that is carried but the kinds of the nearest header's columns, and where that header stands. No public contract cites
-- this file. Assumes nothing.
use Rattle.std.specs.Prelude.{ℕ, ◌-◌, ◌<◌, ◌≤◌, ◌≡◌, List, ◌∷◌, length, take, drop}
use Rattle.text_bytes.specs.Bytes.{Bytes}
use Rattle.text.specs.Lines.{lines, cells}
use Rattle.book.specs.Book.{Book}
use Rattle.rules.specs.Rules.{nearest}
use Rattle.scan.specs.Machine.{KindsOf}
use Rattle.scan.specs.Carried.{Follows, Scan}
use Rattle.scan.specs.declared.state.State.{State}
use Rattle.book_facts.specs.Asked.{AskingOf}
use Rattle.judged_line.specs.declared.Reached.{Reached}

-- the state and the first lines follow line n, and so do kinds that nobody has worked out
abbrev pub Passes : Book → State → List ℕ → ℕ → Bytes → State → List ℕ → Type 0
Passes b s slots n l s' slots' = (ks : List ℕ) → length ks ≡ 256 → (ks' : List ℕ) × Follows b s ks slots n l s' ks' slots'

-- a scan stands there that has passed n lines, but for its kinds
abbrev pub Reaches : Book → Bytes → ℕ → ℕ → State → List ℕ → Type 0
Reaches b file at n s slots = (ks : List ℕ) × ((length ks ≡ 256) × Scan b file at n s ks slots)

-- where one of the first n lines is a header, the nearest begins at `head`
abbrev pub Headed : Book → Bytes → ℕ → ℕ → State → Type 0
Headed b file n head s = 0 < s.section → (head < length file) × ((rest : List Bytes) × (lines (drop head file) ≡ nearest b (take n (lines file)) ∷ rest))

-- line n is there: where it begins, and that what is found stands for the lines above it
pub record Sought (b : Book) (file : Bytes) (n : ℕ) (slots : List ℕ) (r : Reached) : Type 0 where
  pub low : 1 ≤ n
  pub on : r.at < length file
  pub reaches : Reaches b file r.at (n - 1) r.state slots
  pub headed : Headed b file (n - 1) r.head r.state
  pub asking : AskingOf b (lines file) r.state.asking

-- the kinds are those of the columns of the header that begins at `head`, one of the section
pub record Learnt (b : Book) (file : Bytes) (head section : ℕ) (kinds : List ℕ) : Type 0 where
  pub columns : 0 < section → (l : Bytes) (rest : List Bytes) → lines (drop head file) ≡ l ∷ rest → length (cells l) ≤ 256 → KindsOf b section (drop 1 (cells l)) kinds
