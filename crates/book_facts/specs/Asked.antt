-- Of which files something is asked, a demand on the metadata or a required column: by a letter of the book. Assumes nothing.
use Rattle.std.specs.Prelude.{ℕ, ◌≡◌, Bool, true, false, cond, ◌&&◌, ◌||◌, List, [], eqb, get_or}
use Rattle.text_bytes.specs.Bytes.{Bytes, any}
use Rattle.value_references.specs.Index.{MOST}
use Rattle.book.specs.Letters.{ASSAYS, ALWAYS, TYPED, COMPLETE, QUANTIFIED, BOTH, ASSAYED}
use Rattle.book.specs.Book.{Book, up_from}
use Rattle.book_ids.specs.Ids.{declares, is_marked}
use Rattle.book_facts.specs.Facts.{mode_of, type_of}
use Rattle.book_facts.specs.declared.Facts.{Facts}
use Rattle.book_facts.specs.declared.Asking.{Asking}

-- of a file of this mode and type, 0 for none (67 is C Complete, 81 Q Quantification); `assay` says whether some assay is declared
unfoldable pub asks : ℕ → ℕ → ℕ → Bool → Bool
asks asked mode type assay =
    cond (eqb asked ALWAYS) true
    (cond (eqb mode 0 || eqb type 0) false
    (cond (eqb asked TYPED) true
    (cond (eqb asked COMPLETE) (eqb mode 67)
    (cond (eqb asked QUANTIFIED) (eqb type 81)
    (cond (eqb asked BOTH) (eqb type 81 && eqb mode 67)
    (cond (eqb asked ASSAYED) (eqb type 81 && (eqb mode 67 || assay)) false))))))

-- some id of a family is declared
abbrev pub is_declared : Book → List Bytes → ℕ → Bool
is_declared b file f = any (λ i. any (declares b f i) file) (up_from MOST 1)

-- OF A FILE: by its first valid mode and type, and by whether it declares an assay
abbrev pub asked_of : Book → List Bytes → ℕ → Bool
asked_of b file letter = asks letter (mode_of file) (type_of file) (is_declared b file ASSAYS)

-- WHAT THE FIRST PASS FOUND, and by it
abbrev pub asking_by : Facts → List (List Bool) → Asking
asking_by facts flags = record { mode = facts.mode; typed = facts.typed; assay = is_marked (get_or flags ASSAYS []) 0 MOST }

-- it says what the file has
pub record AskingOf (b : Book) (file : List Bytes) (a : Asking) : Type 0 where
  pub mode : a.mode ≡ mode_of file
  pub typed : a.typed ≡ type_of file
  pub assay : a.assay ≡ is_declared b file ASSAYS

abbrev pub asked_by : Asking → ℕ → Bool
asked_by a letter = asks letter a.mode a.typed a.assay
