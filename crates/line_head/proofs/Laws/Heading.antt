-- Cell 1 of a header and its names. Assumes nothing.
use mathlib.Core.Path.{◌≡◌}
use mathlib.Core.Bool.{Bool, true, false}
use mathlib.Core.List.{List, []}
use Prim.Native.Nat.{ℕ}
use native.Mathlib.Omega.{arith}
use lib.Dec.{ltb}
use lib.ListN.{length, drop}
use Rattle.text_bytes.specs.Bytes.{Bytes}
use Rattle.book_facts.specs.Asked.{asked_by}
use Rattle.book_facts.specs.declared.Asking.{Asking}
use Rattle.rules.specs.Breaks.{break_at, when}
use Rattle.scan.specs.Places.{HEADED_MOST, LINE_MOST, Lent, Puts}
use Rattle.scan.specs.Machine.{Ids, Asked, each_cell, plain_rest, head_breaks, head_first, name_breaks}
use Rattle.scan.proofs.Laws.Putting.{puts2}
use Rattle.line_head_required.proofs.Laws.Requiring.{lacks_none}
use Rattle.book.specs.Book.{Book, is_section}
use Rattle.book.specs.Text.{book_in}

-- A HEADER: cell 1, and what comes after it
module _ (b : Book) (asked : Asked) (section first : ℕ) (later : Bool) (ids : Ids) (cc n : ℕ) (xs : List Bytes) {o o₁ o₂ : Lent}
    (p : Puts (head_first first later (ltb 256 (length xs)) cc n) 4 o o₁) where
  pub head_wide : ltb 256 (length xs) ≡ true → Puts (plain_rest cc n) 1 o₁ o₂ → Puts (head_breaks b asked section first later ids cc n xs) LINE_MOST o o₂
  unfolding head_breaks
  head_wide t q = record { does = λ rest. rw t ((puts2 (rw t at p) q).does rest); most = omega arith }

  pub head_named : ltb 256 (length xs) ≡ false → Puts (name_breaks b asked section ids cc n (drop 1 xs)) HEADED_MOST o₁ o₂ → Puts (head_breaks b asked section first later ids cc n xs) LINE_MOST o o₂
  unfolding head_breaks
  head_named t q = record { does = λ rest. rw t ((puts2 (rw t at p) q).does rest); most = omega arith }

-- there is no name
pub names_none : (t : Bytes) (a : Asking) (section : ℕ) (ids : Ids) (first n : ℕ) (xs : List Bytes) {o o' : Lent} → is_section (book_in t) section ≡ true → xs ≡ []
    → Puts (when true (break_at n 1 16)) 1 o o' → Puts (name_breaks (book_in t) (asked_by a) section ids first n xs) HEADED_MOST o o'
unfolding each_cell
names_none t a section ids first n xs s e p = record { does = λ rest. rw (e, lacks_none t a section s) (p.does rest); most = omega arith }
