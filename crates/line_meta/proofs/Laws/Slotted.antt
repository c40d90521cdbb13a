-- The slots after a metadata line have the first lines of the keys that came before, the line's own too. Assumes nothing.
use mathlib.Core.Path.{◌≡◌, refl}
use Prim.Native.Nat.{ℕ}
use mathlib.Core.Bool.{true, and-false}
use mathlib.Core.List.{List, []}
use lib.ListN.{length, get_or}
use borrow.Author.Tests.{eq-eqb, ne_eqb}
use Rattle.text_bytes.specs.Bytes.{Bytes}
use Rattle.text_bytes.proofs.Laws.Firsts.{kept_none}
use Rattle.text.specs.Lines.{cells, cell, is_meta, is_field}
use Rattle.book.specs.Book.{Book, key_of}
use Rattle.scan.specs.Machine.{has_slot, FIRSTS}
use Rattle.line_meta_keys.specs.Keys.{InSlots, slotted}
use Rattle.line_meta_keys.proofs.Laws.Slotting.{marked_length, marked_slot, marked_header}
use Rattle.line_meta.specs.Metas.{KeepsKeys}

module _ (b : Book) (slots : List ℕ) (whole : length slots ≡ FIRSTS) (l : Bytes) (n : ℕ) where
  -- a metadata line of three cells marks its key
  pub keeps_three : is_meta l ≡ true → InSlots b (key_of b (get_or (cells l) 1 [])) → length (cells l) ≡ 3 → KeepsKeys b l n slots (slotted b slots (key_of b (get_or (cells l) 1 [])) n)
  unfolding has_slot cell is_field
  keeps_three m s t = record {
    keys = λ i h. rw (m, eq-eqb (length (cells l)) 3 t) (marked_slot b slots whole n (key_of b (get_or (cells l) 1 [])) i h);
    headers = marked_header b slots whole n (key_of b (get_or (cells l) 1 [])) s;
    places = marked_length b slots whole n (key_of b (get_or (cells l) 1 []));
  }

  -- and any other none
  pub keeps_other : (length (cells l) ≡ 3 → ⊥) → KeepsKeys b l n slots slots
  unfolding has_slot is_field
  keeps_other t = record {
    keys = λ i h. rw (ne_eqb (length (cells l)) 3 t, and-false (is_meta l)) (kept_none (get_or slots i 0) n);
    headers = λ i. refl;
    places = whole;
  }
