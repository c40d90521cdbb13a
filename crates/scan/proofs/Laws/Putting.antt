-- Putting breaks one after the other. Assumes nothing.
use mathlib.Core.Path.{◌≡◌, refl, ◌∙◌}
use mathlib.Core.List.{List, [], ◌∷◌, ◌++◌}
use Prim.Native.Nat.{ℕ, ◌+◌}
use native.Mathlib.Omega.{arith}
use lib.ListN.{length}
use Rattle.rules.specs.Breaks.{Break}
use Rattle.scan.specs.Places.{Lent, put, put_all, Puts}

pub put_append : (fs gs : List Break) (o : Lent) → put_all o (fs ++ gs) ≡ put_all (put_all o fs) gs
unfolding put_all
put_append [] gs o = refl
put_append (f ∷ fs) gs o = put_append fs gs (put o f)

-- each break put counts
pub put_count : (fs : List Break) (o : Lent) → (put_all o fs).count ≡ o.count + length fs
unfolding put_all put
put_count [] o = omega arith
put_count (f ∷ fs) o = put_count fs (put o f) ∙ omega arith

-- two and three calls, one after the other
pub puts2 : {f g : List Break → List Break} {m n : ℕ} {o o₁ o₂ : Lent} → Puts f m o o₁ → Puts g n o₁ o₂ → Puts (λ rest. f (g rest)) (m + n) o o₂
puts2 {g = g} h k = record { does = λ rest. k.does rest ∙ h.does (g rest); most = omega arith }

pub puts3 : {e f g : List Break → List Break} {l m n : ℕ} {o o₁ o₂ o₃ : Lent} → Puts e l o o₁ → Puts f m o₁ o₂ → Puts g n o₂ o₃ → Puts (λ rest. e (f (g rest))) (l + (m + n)) o o₃
puts3 h k l = puts2 h (puts2 k l)

-- nothing is put
pub puts_none : (o : Lent) → Puts (λ rest. rest) 0 o o
puts_none o = record { does = λ rest. refl; most = omega arith }
