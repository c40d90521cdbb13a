-- The weights of a file's study variables: for each the protein rows whose abundance for it is not `null`. Request 2026-10. Assumes nothing.
use Rattle.std.specs.Prelude.{ℕ, suc, ◌≡◌, Bool, false, cond, not, ◌&&◌, List, length, eqb, ltb}
use Rattle.std.proofs.Common.{sym, ap, ◌∙◌}
use Rattle.std.proofs.Math.Option.{Option, none, some}
use Rattle.numbers.specs.Numbers.{TOO_LONG, NOT_ACCEPTED, NOT_AS_MANY}
use Rattle.text_bytes.specs.Bytes.{Bytes, is, count}
use Rattle.text.specs.Lines.{LIMIT, lines, coded}
use Rattle.book.specs.Book.{row_code, mz_tab}
use Rattle.rows.specs.Rows.{header_of, column_named, cell_at}
use Rattle.rules.specs.Rules.{is_accepted}
use Rattle.fee_shares.specs.Sums.{list_to}
use Rattle.weight_counts.specs.Variables.{PROTEIN, abundance, VARIABLES}

-- a cell that is there and is not `null`
abbrev pub is_given : Option Bytes → Bool
is_given none = false
is_given (some cell) = not (is cell "null")

-- a protein row with such a cell in column c
unfoldable pub has_in : ℕ → Bytes → Bool
has_in c l = coded (row_code mz_tab PROTEIN) l && is_given (cell_at l c)

-- THE WEIGHT of study variable i: the protein rows whose cell under its column is not `null`; none where the header has no such column
unfoldable pub weight_of : Bytes → ℕ → ℕ
weight_of file i = count (has_in (column_named (header_of file PROTEIN) (abundance i))) (lines file)

abbrev pub weights_of : Bytes → List ℕ
weights_of file = list_to VARIABLES (λ (i : ℕ). weight_of file (suc i))

-- the file too long, not accepted, another number of places than 64: tried in this order; else 0
unfoldable pub refusal : Bytes → ℕ → ℕ
refusal file places = cond (ltb LIMIT (length file)) TOO_LONG (cond (is_accepted file) (cond (eqb places VARIABLES) 0 NOT_AS_MANY) NOT_ACCEPTED)

-- the number, and the lent list afterwards
pub record Outcome : Type 0 where
  pub number : ℕ
  pub weights : List ℕ

abbrev pub outcome : ℕ → List ℕ → Outcome
outcome n ys = record { number = n; weights = ys }

-- a refused call leaves the list as it is
unfoldable pub weighed : Bytes → List ℕ → Outcome
weighed file ys = outcome (refusal file (length ys)) (cond (eqb (refusal file (length ys)) 0) (weights_of file) ys)

-- no second outcome fits
pub weights_once : (file : Bytes) (ys : List ℕ) {n m : ℕ} {vs ws : List ℕ} → outcome n vs ≡ weighed file ys → outcome m ws ≡ weighed file ys → (n ≡ m) × (vs ≡ ws)
weights_once file ys p q = (ap (λ (x : Outcome). x.number) (p ∙ sym q), ap (λ (x : Outcome). x.weights) (p ∙ sym q))
