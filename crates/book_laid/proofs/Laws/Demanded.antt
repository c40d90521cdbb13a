-- The demands of a book as the text has them: each in its bytes, one after the other. Assumes nothing.
use Prim.Native.Nat.{ℕ, zero, suc, ◌+◌, ◌*◌, ◌<◌}
use Prim.Native.String.{String}
use mathlib.Core.Path.{◌≡◌, refl, ap, sym, ◌∙◌, subst⁻¹}
use mathlib.Core.List.{List, [], ◌∷◌, ◌++◌}
use native.Mathlib.Omega.{arith}
use lib.ListN.{length, get_or}
use lib.Seq.{get_or-append-add}
use Rattle.text_bytes.specs.Bytes.{Bytes}
use Rattle.book.specs.Book.{Demand, no_demand}
use Rattle.book.specs.Text.{SIZE, number_at, entry_for, demand_rows}
use Rattle.book_laid.proofs.Laws.Starting.{number_behind}

-- the bytes of a demand stand at place i of a text
pub record RowAt (ks : List String) (d : Demand) (t : Bytes) (i : ℕ) : Type 0 where
  pub cell : number_at t i ≡ d.cell
  pub entry : get_or t (i + 2) 0 ≡ entry_for ks d.form
  pub asked : get_or t (i + 3) 0 ≡ d.asked
  pub section : get_or t (i + 4) 0 ≡ d.section
  pub each : get_or t (i + 5) 0 ≡ d.each
  pub rule : get_or t (i + 6) 0 ≡ d.rule

-- behind another text
pub row_behind : (ks : List String) (d : Demand) (s t : Bytes) (i : ℕ) → RowAt ks d t i → RowAt ks d (s ++ t) (length s + i)
row_behind ks d s t i r =
    record {
      cell = number_behind s t i ∙ r.cell;
      entry = past 2 ∙ r.entry;
      asked = past 3 ∙ r.asked;
      section = past 4 ∙ r.section;
      each = past 5 ∙ r.each;
      rule = past 6 ∙ r.rule;
    }
  where
    past : (m : ℕ) → get_or (s ++ t) (length s + i + m) 0 ≡ get_or t (i + m) 0
    past m = let e : length s + i + m ≡ length s + (i + m) = omega arith in rw e (get_or-append-add s t (i + m) 0)

-- demand k of these, whatever comes after them
pub rows_read : (ks : List String) (ds : List Demand) (rest : Bytes) (k : ℕ) → k < length ds → RowAt ks (get_or ds k no_demand) (demand_rows ks ds ++ rest) (SIZE * k)
unfolding demand_rows
rows_read ks [] rest k h = absurd (omega arith)
rows_read ks (d ∷ ds) rest zero h = record { cell = omega arith; entry = refl; asked = refl; section = refl; each = refl; rule = refl }
rows_read ks (d ∷ ds) rest (suc k) h =
    let e : SIZE * suc k ≡ SIZE + SIZE * k = omega arith in
    subst⁻¹ (RowAt ks (get_or ds k no_demand) (demand_rows ks (d ∷ ds) ++ rest)) e (row_behind ks (get_or ds k no_demand) (demand_rows ks (d ∷ [])) (demand_rows ks ds ++ rest) (SIZE * k) (rows_read ks ds rest k (omega arith)))
