-- The kinds of the names so far, and one name more. Assumes nothing.
use mathlib.Core.Path.{◌≡◌, ap, ◌∙◌}
use mathlib.Core.List.{List, [], ◌∷◌}
use mathlib.Core.Logic.{⊎_elim}
use Prim.Native.Nat.{ℕ, ◌+◌, ◌-◌, ◌≤◌, ◌<◌}
use native.Mathlib.Nat.{eq-or-lt_of_le}
use native.Mathlib.Omega.{arith}
use lib.Seq.{get_or-set_same, get_or-set_other}
use lib.ListN.{length, drop, get_or, set, length-drop}
use Rattle.text_bytes.specs.Bytes.{Bytes}
use Rattle.book.specs.Book.{Book, column_of}
use Rattle.rules.specs.Rules.{kind_in}
use Rattle.scan.proofs.Laws.Celling.{column_here}

-- THE KINDS of the names before cell c are kept
abbrev pub KindsTo : Book → ℕ → ℕ → List Bytes → List ℕ → Type 0
KindsTo book section c xs kinds = (i : ℕ) → i + 2 < c → get_or kinds (i + 1) 0 ≡ kind_in (column_of book section (get_or xs i []))

module _ (book : Book) (xs : List Bytes) {x : Bytes} {tail : List Bytes} (c : ℕ) (low : 2 ≤ c) (here : drop (c - 2) xs ≡ x ∷ tail) where
  pub kinds_step : (section : ℕ) (kinds : List ℕ) → c - 1 < length kinds → KindsTo book section c xs kinds → KindsTo book section (c + 1) xs (set kinds (c - 1) (kind_in (column_of book section x)))
  kinds_step section kinds lt h i li =
      let le : i + 2 ≤ c = omega arith in
      ⊎_elim
      (λ (q : i + 2 ≡ c).
      let a : i + 1 ≡ c - 1 = omega arith in
      let b : i ≡ c - 2 = omega arith in
      rw (a, b, get_or-set_same kinds (c - 1) (kind_in (column_of book section x)) 0 lt, column_here xs c low here))
      (λ (q : i + 2 < c). get_or-set_other kinds (c - 1) (i + 1) (kind_in (column_of book section x)) 0 (λ z. omega arith) ∙ h i q)
      (eq-or-lt_of_le le)

-- THE LINE goes on behind the cell before one that it has
pub unended : {e n : ℕ} (c : ℕ) (xs : List Bytes) → e ≤ n → (e ≡ n → drop c xs ≡ []) → c < length xs → e < n
unended {e} {n} c xs le none lt = ⊎_elim (λ (q : e ≡ n). absurd (omega (arith, ap length (none q), length-drop c xs))) (λ (q : e < n). q) (eq-or-lt_of_le le)
