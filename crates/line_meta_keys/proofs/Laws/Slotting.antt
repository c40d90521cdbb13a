-- The slots of keys: a known key has one, and it is the one that is set. Assumes nothing.
use Prim.Native.Nat.{ℕ, ◌≤◌, ◌<◌}
use mathlib.Core.Path.{◌≡◌, refl, sym, ◌∙◌}
use mathlib.Core.Bool.{Bool, true, false}
use mathlib.Core.List.{List}
use native.Mathlib.Omega.{arith}
use lib.Dec.{eqb}
use lib.Seq.{get_or-set_same, get_or-set_other}
use lib.ListN.{length, get_or, set, length-set}
use borrow.Author.Tests.{eqb-true, eqb-false}
use Rattle.std.specs.Prelude.{Ok, Err}
use Rattle.text_bytes.specs.Bytes.{Bytes, first_kept}
use Rattle.text_bytes.proofs.Laws.Firsts.{kept_none}
use Rattle.book_names.specs.declared.Known.{Known}
use Rattle.book_names.specs.Names.{slot_of, Found}
use Rattle.book.specs.Book.{SLOTS, Book, key_entries, key_of}
use Rattle.book_names.proofs.Laws.Known.{slot_below}
use Rattle.scan.specs.Machine.{is_slot, FIRSTS, header_slot}
use Rattle.line_meta_keys.specs.Keys.{InSlots, slotted}
use Rattle.book.proofs.Laws.Sized.{book_sized}
use Rattle.book.specs.Text.{book_in}

-- a known key has one of the slots
pub in_slots : (t x : Bytes) → InSlots (book_in t) (key_of (book_in t) x)
unfolding key_of
in_slots t x = go (key_of (book_in t) x) refl
  where
    go : (r : Found) → key_of (book_in t) x ≡ r → InSlots (book_in t) r
    go (Err w) q = tt
    go (Ok k) q =
        let s = slot_below (key_entries (book_in t)) x k.entry k.kind k.family k.i k.j q in
        (omega (arith, s.0), omega (arith, s.1, (book_sized t).slots))

pub inside : (b : Book) {r : Found} {k : Known} → r ≡ Ok k → InSlots b r → (k.entry ≤ length (key_entries b)) × (slot_of (key_entries b) k.entry k.i k.j < SLOTS)
inside b q h = rw q at h

module _ (b : Book) (slots : List ℕ) (whole : length slots ≡ FIRSTS) (n : ℕ) where
  pub marked_length : (r : Found) → length (slotted b slots r n) ≡ FIRSTS
  marked_length (Err w) = whole
  marked_length (Ok k) = length-set slots (slot_of (key_entries b) k.entry k.i k.j) _ ∙ whole

  set_slot : (s i : ℕ) → i < SLOTS → get_or (set slots s (first_kept (get_or slots s 0) true n)) i 0 ≡ first_kept (get_or slots i 0) (eqb s i) n
  set_slot s i h = go (eqb s i) refl
    where
      go : (t : Bool) → eqb s i ≡ t → get_or (set slots s (first_kept (get_or slots s 0) true n)) i 0 ≡ first_kept (get_or slots i 0) t n
      go true e = let z : s ≡ i = eqb-true s i e in rw z (get_or-set_same slots i (first_kept (get_or slots i 0) true n) 0 (omega arith))
      go false e = get_or-set_other slots s i (first_kept (get_or slots s 0) true n) 0 (λ z. eqb-false s i e (sym z)) ∙ kept_none (get_or slots i 0) n

  pub marked_slot : (r : Found) (i : ℕ) → i < SLOTS → get_or (slotted b slots r n) i 0 ≡ first_kept (get_or slots i 0) (is_slot b i r) n
  marked_slot (Err w) i h = kept_none (get_or slots i 0) n
  marked_slot (Ok k) i h = set_slot (slot_of (key_entries b) k.entry k.i k.j) i h

  -- no slot of headers is one of a key's
  pub marked_header : (r : Found) → InSlots b r → (i : ℕ) → get_or (slotted b slots r n) (header_slot i) 0 ≡ get_or slots (header_slot i) 0
  marked_header (Err w) h i = refl
  marked_header (Ok k) h i = get_or-set_other slots (slot_of (key_entries b) k.entry k.i k.j) (header_slot i) _ 0 (λ z. omega (arith, h.1, z))
