-- When something is asked, letter by letter. Assumes nothing.
use mathlib.Core.Path.{◌≡◌, sym, ap, ◌∙◌}
use mathlib.Core.Bool.{Bool, true, false, cond, ◌&&◌, ◌||◌, or-true}
use Prim.Native.Nat.{ℕ}
use lib.Dec.{eqb}
use borrow.Author.Tests.{eq-eqb, ne_eqb}
use Rattle.book_facts.specs.Asked.{asks}

module _ (a m t : ℕ) (y : Bool) where
  pub ask_always : a ≡ 42 → true ≡ asks a m t y
  unfolding asks
  ask_always e = rw (eq-eqb a 42 e)

  module _ (other : a ≡ 42 → ⊥) where
    pub ask_no_mode : m ≡ 0 → false ≡ asks a m t y
    unfolding asks
    ask_no_mode e = rw (ne_eqb a 42 other, eq-eqb m 0 e)

    pub ask_no_type : t ≡ 0 → false ≡ asks a m t y
    unfolding asks
    ask_no_type e = rw (ne_eqb a 42 other, eq-eqb t 0 e, or-true (eqb m 0))

    -- by mode and type
    module _ (mode : m ≡ 0 → ⊥) (type : t ≡ 0 → ⊥) where
      abbrev pub by : ℕ → Bool
      by a =
          cond (eqb a 43) true
          (cond (eqb a 67) (eqb m 67)
          (cond (eqb a 113) (eqb t 81)
          (cond (eqb a 81) (eqb t 81 && eqb m 67)
          (cond (eqb a 65) (eqb t 81 && (eqb m 67 || y)) false))))

      asks_by : by a ≡ asks a m t y
      unfolding asks
      asks_by = rw (ne_eqb a 42 other, ne_eqb m 0 mode, ne_eqb t 0 type)

      pub ask_key : (k : ℕ) → a ≡ k → by k ≡ asks a m t y
      ask_key k e = sym (ap by e) ∙ asks_by

      pub ask_rest : (a ≡ 43 → ⊥) → (a ≡ 67 → ⊥) → (a ≡ 113 → ⊥) → (a ≡ 81 → ⊥) → (a ≡ 65 → ⊥) → false ≡ asks a m t y
      ask_rest p q r s u = rw (← asks_by, ne_eqb a 43 p, ne_eqb a 67 q, ne_eqb a 113 r, ne_eqb a 81 s, ne_eqb a 65 u)
