-- What the call `rows` gives back: the number of rows of a section, whatever breaks the file has. Assumes nothing.
use Rattle.std.specs.Prelude.{ℕ, ◌≡◌, cond, length, ltb}
use Rattle.std.proofs.Common.{sym, ap, ◌∙◌}
use Rattle.numbers.specs.Numbers.{TOO_LONG, NO_SECTION}
use Rattle.text_bytes.specs.Bytes.{Bytes}
use Rattle.text.specs.Lines.{LIMIT, lines}
use Rattle.rows.specs.Rows.{row_count}
use Rattle.book.specs.Book.{is_section, book_of}

-- its number and its answer
pub record Counted : Type 0 where
  pub number : ℕ
  pub rows : ℕ

abbrev pub counted : ℕ → ℕ → Counted
counted n k = record { number = n; rows = k }

-- the file too long, no such section: tried in this order, with 0
unfoldable pub rows_in : Bytes → ℕ → Counted
rows_in file section =
    cond (ltb LIMIT (length file)) (counted TOO_LONG 0)
    (cond (is_section (book_of (lines file)) section) (counted 0 (row_count file section))
    (counted NO_SECTION 0))

-- no second outcome fits
pub rows_once : (file : Bytes) (section : ℕ) {n m k l : ℕ} → counted n k ≡ rows_in file section → counted m l ≡ rows_in file section → (n ≡ m) × (k ≡ l)
rows_once file section p q = (ap (λ (x : Counted). x.number) (p ∙ sym q), ap (λ (x : Counted). x.rows) (p ∙ sym q))
