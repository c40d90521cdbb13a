-- The truth value of a test that a walk has computed. Assumes nothing.
use mathlib.Core.Path.{◌≡◌, refl}
use mathlib.Core.Bool.{Bool, true, false}
use lib.Dec.{T as Holds}

pub yes_is : (t : Bool) → Holds t → t ≡ true
yes_is true _ = refl
yes_is false h = absurd h

pub no_is : (t : Bool) → (Holds t → ⊥) → t ≡ false
no_is true f = absurd (f tt)
no_is false _ = refl
