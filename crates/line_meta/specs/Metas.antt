-- How a metadata line changes the slots of the keys that came before. No public contract cites this file. Assumes nothing.
use Rattle.std.specs.Prelude.{ℕ, ◌<◌, ◌≡◌, List, length, get_or}
use Rattle.text_bytes.specs.Bytes.{Bytes, first_kept}
use Rattle.scan.specs.Machine.{has_slot, FIRSTS, header_slot}
use Rattle.book.specs.Book.{SLOTS, Book}

-- the slots after line n have the first lines of the keys that came before, the line's own too; those of headers stay
pub record KeepsKeys (b : Book) (l : Bytes) (n : ℕ) (slots slots' : List ℕ) : Type 0 where
  pub keys : (i : ℕ) → i < SLOTS → get_or slots' i 0 ≡ first_kept (get_or slots i 0) (has_slot b i l) n
  pub headers : (i : ℕ) → get_or slots' (header_slot i) 0 ≡ get_or slots (header_slot i) 0
  pub places : length slots' ≡ FIRSTS
