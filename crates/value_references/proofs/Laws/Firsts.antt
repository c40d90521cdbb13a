-- Which of two flaws comes first. Assumes nothing.
use mathlib.Core.Path.{◌≡◌, refl}
use Rattle.value_references.specs.Index.{sooner}
use Rattle.value_references.specs.declared.index.Flaw.{Flaw}
use Rattle.value_references.specs.declared.index.Flaw.TheVariants.{Form, Zero, Over}

pub sooner_none : (z : Flaw) → sooner z Form ≡ z
sooner_none Form = refl
sooner_none Zero = refl
sooner_none Over = refl

pub sooner_again : (f z w : Flaw) → sooner f (sooner z w) ≡ sooner (sooner f z) w
sooner_again Form z w = refl
sooner_again Zero z w = refl
sooner_again Over z w = refl
