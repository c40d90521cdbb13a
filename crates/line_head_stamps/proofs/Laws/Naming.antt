-- Where a name stands first among others. Assumes nothing.
use mathlib.Core.Path.{◌≡◌, refl, sym, ap, ◌∙◌}
use mathlib.Core.Bool.{Bool, true, false}
use mathlib.Core.List.{List}
use mathlib.Core.Logic.{⊎_elim}
use Prim.Native.Nat.{ℕ, zero, suc, ◌+◌, ◌<◌}
use native.Mathlib.Nat.{not-suc-le-zero, eq-or-lt_of_le, le_of_suc-le-suc}
use native.Mathlib.Numerals.{add-one}
use native.Mathlib.Omega.{arith}
use lib.ListN.{get_or}
use borrow.Author.Tests.{ne_eqb}
use Rattle.text_bytes.specs.Bytes.{Bytes, same, first_kept}
use Rattle.text_bytes.proofs.Laws.Same.{same_equal, same_self}
use Rattle.text_bytes.specs.Places.{part}
use Rattle.line_head_stamps.specs.Stamps.{STARTS, ENDS, name_at}
use Rattle.line_head_stamps.specs.Ways.{first_named}

-- the name whose number a door holds, by its places
pub name_there : (t : List ℕ) (line : Bytes) (door : ℕ) {k start stop : ℕ} → k ≡ get_or t door 0 → start ≡ get_or t (STARTS + k) 0 → stop ≡ get_or t (ENDS + k) 0 → part start stop line ≡ name_at t line (get_or t door 0)
unfolding name_at
name_there t line door e s f = rw (s, f, e)

-- a name that is equal to none
pub named_none : (t : List ℕ) (line z : Bytes) (m : ℕ) → ((j : ℕ) → j < m → name_at t line j ≡ z → ⊥) → first_named t line z m ≡ 0
unfolding first_named
named_none t line z zero f = refl
named_none t line z (suc m) f = rw (named_none t line z m (λ j l. f j (omega arith))) (go (same z (name_at t line m)) refl)
  where
    go : (b : Bool) → same z (name_at t line m) ≡ b → first_kept 0 b (m + 2) ≡ 0
    go true q = absurd (f m (omega arith) (sym (same_equal z (name_at t line m) q)))
    go false q = refl

-- a name that is equal to number j, and to none before it
pub named_one : (t : List ℕ) (line z : Bytes) (m j : ℕ) → j < m → name_at t line j ≡ z → ((i : ℕ) → i < j → name_at t line i ≡ z → ⊥) → j + 2 ≡ first_named t line z m
unfolding first_named
named_one t line z zero j l e f = absurd (not-suc-le-zero l)
named_one t line z (suc m) j l e f =
    ⊎_elim (λ (q : j ≡ m). rw (sym (ap (λ (i : ℕ). i + 2) q), named_none t line z m (λ i k. f i (omega arith)), ap (λ (i : ℕ). name_at t line i) (sym q) ∙ e, same_self z))
    (λ (q : j < m). rw (← named_one t line z m j q e f, ne_eqb (j + 2) 0 (λ z. omega arith)))
    (eq-or-lt_of_le (le_of_suc-le-suc l))

-- the first m stay where their places do
named_stays : (t t' : List ℕ) (line z : Bytes) (m : ℕ) → ((j : ℕ) → j < m → name_at t' line j ≡ name_at t line j) → first_named t' line z m ≡ first_named t line z m
unfolding first_named
named_stays t t' line z zero f = refl
named_stays t t' line z (suc m) f = rw (named_stays t t' line z m (λ j l. f j (omega arith)), f m (omega arith))

-- one name more
pub named_more : (t t' : List ℕ) (line x : Bytes) (m : ℕ) → ((j : ℕ) → j < m → name_at t' line j ≡ name_at t line j) → name_at t' line m ≡ x
    → (z : Bytes) → first_named t' line z (m + 1) ≡ first_kept (first_named t line z m) (same z x) (m + 2)
unfolding first_named
named_more t t' line x m f e z = rw (add-one m, named_stays t t' line z m f, e)
