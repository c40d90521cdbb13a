-- The words of std on the tests of a list, and ours. Assumes nothing.
use mathlib.Core.Path.{◌≡◌, refl, ap}
use mathlib.Core.Bool.{Bool, ◌&&◌}
use mathlib.Core.List.{List, [], ◌∷◌}
use Rattle.std.specs.List.{list_all}
use Rattle.text_bytes.specs.Bytes.{all}

-- that all elements pass
pub every_all : {A : Type 0} (p : A → Bool) (xs : List A) → list_all p xs ≡ all p xs
unfolding all
every_all p [] = refl
every_all p (x ∷ xs) = ap (λ (b : Bool). p x && b) (every_all p xs)
