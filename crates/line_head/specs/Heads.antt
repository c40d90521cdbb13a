-- What judging a header keeps for the rows under it. No public contract cites this file. Assumes nothing.
use Rattle.std.specs.Prelude.{ℕ, ◌≤◌, ◌≡◌, List, length, drop}
use Rattle.text_bytes.specs.Bytes.{Bytes}
use Rattle.text.specs.Lines.{cells}
use Rattle.scan.specs.Machine.{KindsOf}
use Rattle.line_head_stamps.specs.Stamps.{ROOM}
use Rattle.book.specs.Book.{Book}

-- the names' kinds are kept, and the lists have their lengths
pub record Kept (b : Book) (section : ℕ) (names : List Bytes) (kinds stamps : List ℕ) : Type 0 where
  pub columns : KindsOf b section names kinds
  pub kind_places : length kinds ≡ 256
  pub stamp_places : length stamps ≡ ROOM

-- the same of a header, where it has not over 256 cells
pub record KeepsKinds (b : Book) (section : ℕ) (line : Bytes) (kinds stamps : List ℕ) : Type 0 where
  pub columns : length (cells line) ≤ 256 → KindsOf b section (drop 1 (cells line)) kinds
  pub kind_places : length kinds ≡ 256
  pub stamp_places : length stamps ≡ ROOM
