-- Bytes passed without an early end: a byte that stands in none of them, and some byte that passes a test. Assumes nothing.
use mathlib.Core.Path.{◌≡◌, refl, sym, ap, ◌∙◌}
use mathlib.Core.Bool.{Bool, true, false, ◌||◌, or-false}
use mathlib.Core.List.{List, [], ◌∷◌, ◌++◌}
use Prim.Native.Nat.{ℕ, ◌+◌, ◌≤◌, ◌<◌}
use native.Mathlib.Omega.{arith}
use lib.Dec.{eqb}
use lib.ListN.{length, drop, get_or, length-append, length-drop, drop_of_length-le}
use lib.Seq.{drop-drop}
use Rattle.text_bytes.specs.Bytes.{any}
use Rattle.text_bytes.specs.Places.{up_to, Ends}
use Rattle.text_bytes.proofs.Laws.Pieces.{drop_step, up_to_hit, up_to_miss}
use Rattle.text_bytes.proofs.Laws.Tests.{or_none}

-- A BYTE that stands in none of the first k from a place on
abbrev pub Clear : ℕ → List ℕ → ℕ → ℕ → Type 0
Clear b l at k = up_to b (drop at l) ≡ k + up_to b (drop (at + k) l)

module _ (b : ℕ) (l : List ℕ) (at k : ℕ) where
  pub clear_none : k ≡ 0 → Clear b l at k
  clear_none z = let e : at + k ≡ at = omega arith in rw (e, z) (omega arith)

  pub clear_more : at + k < length l → (get_or l (at + k) 0 ≡ b → ⊥) → Clear b l at k → Clear b l at (k + 1)
  clear_more h ne e =
      let j : at + (k + 1) ≡ at + k + 1 = omega arith in
      rw j (omega (arith, e, up_to_miss b l (at + k) h ne))

  -- and then it stands there
  pub clear_ends : at + k < length l → get_or l (at + k) 0 ≡ b → Clear b l at k → Ends b l at (at + k)
  clear_ends h e n = let z = up_to_hit b l (at + k) h e in record { starts = omega arith; within = omega arith; at = omega (arith, n, z) }

pub clear_one : (b : ℕ) (l : List ℕ) (at : ℕ) → at < length l → (get_or l at 0 ≡ b → ⊥) → Clear b l at 1
clear_one b l at h ne = omega (arith, up_to_miss b l at h ne)

-- SOME BYTE that passes a test
or_turn : (a b c : Bool) → (a || (b || c)) ≡ ((a || b) || c)
or_turn true b c = refl
or_turn false b c = refl

module _ (p : ℕ → Bool) (l : List ℕ) (i : ℕ) where
  pub met_more : (a r : Bool) → i < length l → r ≡ p (get_or l i 0) → (a || any p (drop i l)) ≡ ((a || r) || any p (drop (i + 1) l))
  unfolding any
  met_more a r h e = rw (drop_step l i h, e) (or_turn a (p (get_or l i 0)) (any p (drop (i + 1) l)))

  pub met_end : (a : Bool) → length l ≤ i → (a || any p (drop i l)) ≡ a
  unfolding any
  met_end a h = rw (drop_of_length-le l h) (or-false a)

-- A PIECE of a text, with what is left behind it
past : (x r : List ℕ) → drop (length x) (x ++ r) ≡ r
past [] r = refl
past (y ∷ x) r = past x r

up_to_past : (b : ℕ) (x r : List ℕ) → any (λ y. eqb y b) x ≡ false → up_to b (x ++ r) ≡ length x + up_to b r
unfolding any up_to
up_to_past b [] r h = omega arith
up_to_past b (y ∷ x) r h =
    let q = or_none (eqb y b) (any (λ z. eqb z b) x) h in
    rw q.0 (omega (arith, up_to_past b x r q.1))

module _ (i : ℕ) (l x r : List ℕ) (e : drop i l ≡ x ++ r) where
  pub piece_rest : r ≡ drop (i + length x) l
  piece_rest = sym (past x r) ∙ ap (drop (length x)) (sym e) ∙ drop-drop (length x) i l

  pub piece_within : i ≤ length l → i + length x ≤ length l
  piece_within h = omega (arith, ap length e, length-append x r, length-drop i l)

  -- a byte that does not stand in it
  pub piece_clear : (b : ℕ) → any (λ y. eqb y b) x ≡ false → Clear b l i (length x)
  piece_clear b h = ap (up_to b) e ∙ up_to_past b x r h ∙ ap (λ (t : List ℕ). length x + up_to b t) piece_rest
