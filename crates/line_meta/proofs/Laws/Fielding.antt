-- The puts of a metadata line, one after the other, are its breaks. Assumes nothing.
use Prim.Native.Nat.{ℕ, ◌<◌}
use mathlib.Core.Path.{◌≡◌, ap}
use mathlib.Core.Bool.{Bool, not}
use mathlib.Core.List.{List, [], ◌∷◌}
use mathlib.Core.Logic.{⊎_elim}
use native.Mathlib.Nat.{eq-or-lt_of_le}
use native.Mathlib.Omega.{arith}
use lib.Dec.{eqb}
use lib.ListN.{length, get_or, drop}
use borrow.Author.Tests.{eq-eqb, ne_eqb}
use Rattle.text_bytes.specs.Bytes.{Bytes}
use Rattle.text_bytes.specs.Places.{Ends}
use Rattle.text.specs.Lines.{cells}
use Rattle.book.specs.Book.{Book, key_of}
use Rattle.rules.specs.Breaks.{break_at, when}
use Rattle.scan.specs.Places.{LINE_MOST, Lent, Puts}
use Rattle.scan.specs.Machine.{Ids, each_cell, control_at, plain_rest, rule_at, meta_cell, meta_breaks}
use Rattle.scan.proofs.Laws.Putting.{puts2, puts3}
use Rattle.scan.proofs.Laws.Celling.{cell_here, cells_last}
use Rattle.line_meta_keys.specs.Keys.{Judged}
use Rattle.line_meta_keys.specs.declared.Judgement.{Judgement}

-- more than one cell: a tab stands there
pub first_tab : {l : List ℕ} {e : ℕ} → Ends 9 l 0 e → length (cells l) ≡ 3 → e < length l
first_tab {l} {e} h n =
    ⊎_elim (λ (q : e ≡ length l). absurd (omega (arith, ap length (cell_here h), ap length (cells_last h q)))) (λ (q : e < length l). q) (eq-or-lt_of_le h.within)

-- THE KEY AND THE VALUE
module _ (b : Book) (cc n : ℕ) {slots : List ℕ} {ids : Ids} {key value : Bytes} {r : Judgement} {o o₁ o₂ : Lent} (j : Judged b slots ids (key_of b key) key value r)
    (h₁ : Puts (λ rest. control_at cc n 2 (rule_at r.key n 2 r.first rest)) 2 o o₁)
    (h₂ : Puts (λ rest. control_at cc n 3 (rule_at r.value n 3 0 rest)) 2 o₁ o₂) where
  pub three_puts : (xs : List Bytes) → drop 1 xs ≡ key ∷ value ∷ [] → Puts (each_cell (meta_cell b slots ids (get_or xs 1 []) (get_or xs 2 []) cc n) 2 (drop 1 xs)) 4 o o₂
  unfolding each_cell
  three_puts [] e = absurd (omega (arith, ap length e))
  three_puts (x ∷ xs) e = rw e (rw (j.of_key, j.of_first, j.of_value) at (puts2 h₁ h₂))

-- THE WHOLE LINE
module _ (b : Book) (table : Bool) (slots : List ℕ) (ids : Ids) (cc n : ℕ) (xs : List Bytes) {o o₁ o₂ o₃ o₄ : Lent}
    (h₁ : Puts (control_at cc n 1) 1 o o₁) (h₂ : Puts (when (not (eqb (length xs) 3)) (break_at n 1 3)) 1 o₁ o₂) (h₃ : Puts (when table (break_at n 1 4)) 1 o₂ o₃) where
  pub meta_three : length xs ≡ 3 → Puts (each_cell (meta_cell b slots ids (get_or xs 1 []) (get_or xs 2 []) cc n) 2 (drop 1 xs)) 4 o₃ o₄ → Puts (meta_breaks b table slots ids cc n xs) LINE_MOST o o₄
  unfolding meta_breaks
  meta_three t h = record { does = λ rest. rw (eq-eqb (length xs) 3 t) ((puts2 (puts3 h₁ (rw (eq-eqb (length xs) 3 t) at h₂) h₃) h).does rest); most = omega arith }

  pub meta_other : (length xs ≡ 3 → ⊥) → Puts (plain_rest cc n) 1 o₃ o₄ → Puts (meta_breaks b table slots ids cc n xs) LINE_MOST o o₄
  unfolding meta_breaks
  meta_other t h = record { does = λ rest. rw (ne_eqb (length xs) 3 t) ((puts2 (puts3 h₁ (rw (ne_eqb (length xs) 3 t) at h₂) h₃) h).does rest); most = omega arith }
