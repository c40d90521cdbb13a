-- What judging a metadata key and its value finds, and the slot of a known key. No public contract cites this file. Assumes nothing.
use Rattle.std.specs.Prelude.{ℕ, ◌≤◌, ◌<◌, ◌≡◌, true, List, length, get_or, set, Ok, Err}
use Rattle.text_bytes.specs.Bytes.{Bytes, first_kept}
use Rattle.book_names.specs.Names.{slot_of, Found}
use Rattle.book.specs.Book.{SLOTS, Book, key_entries}
use Rattle.scan.specs.Machine.{Ids, first_in, key_rule, value_rule}
use Rattle.line_meta_keys.specs.declared.Judgement.{Judgement}

-- of a key and its value: the rules that they break, and where the key stands first
pub record Judged (b : Book) (slots : List ℕ) (ids : Ids) (found : Found) (key value : Bytes) (r : Judgement) : Type 0 where
  pub of_key : r.key ≡ key_rule (first_in b slots key found) found
  pub of_first : r.first ≡ first_in b slots key found
  pub of_value : r.value ≡ value_rule ids found value

-- a known key has an entry of the book and one of the slots
abbrev pub InSlots : Book → Found → Type 0
InSlots b (Err w) = Unit
InSlots b (Ok k) = (k.entry ≤ length (key_entries b)) × (slot_of (key_entries b) k.entry k.i k.j < SLOTS)

-- the slots with a known key on line n: its own keeps the first line
abbrev pub slotted : Book → List ℕ → Found → ℕ → List ℕ
slotted b slots (Err w) n = slots
slotted b slots (Ok k) n = set slots (slot_of (key_entries b) k.entry k.i k.j) (first_kept (get_or slots (slot_of (key_entries b) k.entry k.i k.j) 0) true n)
