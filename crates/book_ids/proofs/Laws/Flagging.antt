-- Slots from one up to another. Assumes nothing.
use mathlib.Core.Path.{◌≡◌, refl}
use mathlib.Core.Bool.{Bool, true, false, beq, ◌||◌}
use mathlib.Core.List.{List}
use Prim.Native.Nat.{ℕ, zero, suc, ◌+◌, ◌-◌, ◌≤◌, ◌<◌}
use native.Mathlib.Numerals.{add-one}
use native.Mathlib.Omega.{arith}
use lib.ListN.{length, get_or, take, drop}
use lib.Seq.{drop-cons}
use Rattle.std.specs.List.{list_any}
use Rattle.text_bytes.specs.Bytes.{any}
use Rattle.book.specs.Book.{up_from}

-- the slots that are left decide
module _ (slots : List Bool) (i to : ℕ) where
  abbrev pub left : Bool
  left = any (λ s. get_or slots s false) (up_from (to - i) i)

  next : i < to → left ≡ (get_or slots i false || any (λ s. get_or slots s false) (up_from (to - (i + 1)) (i + 1)))
  unfolding up_from any
  next h = let e : to - i ≡ suc (to - (i + 1)) = omega arith in rw (e, add-one i)

  pub mark_here : i < to → get_or slots i false ≡ true → left ≡ true
  mark_here h t = rw (next h, t)

  pub mark_next : i < to → get_or slots i false ≡ false → left ≡ any (λ s. get_or slots s false) (up_from (to - (i + 1)) (i + 1))
  mark_next h t = rw (next h, t)

  pub mark_none : to ≤ i → left ≡ false
  unfolding up_from any
  mark_none h = let e : to - i ≡ 0 = omega arith in rw e

beq_true : (b : Bool) → beq b true ≡ b
beq_true true = refl
beq_true false = refl

-- a part of n slots from i on has a marked one where one of them is
pub part_marked : (slots : List Bool) (n i : ℕ) → i + n ≤ length slots → list_any (λ s. beq s true) (take n (drop i slots)) ≡ any (λ s. get_or slots s false) (up_from n i)
unfolding up_from any
part_marked slots zero i h = refl
part_marked slots (suc n) i h =
    let lt : i < length slots = omega arith in
    rw (drop-cons slots i false lt, beq_true (get_or slots i false), part_marked slots n (suc i) (omega arith))
