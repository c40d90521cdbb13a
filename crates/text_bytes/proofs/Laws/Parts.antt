-- A part of a part, and an element of a list by its number. Assumes nothing.
use mathlib.Core.Path.{◌≡◌, refl, sym}
use mathlib.Core.List.{List, [], ◌∷◌}
use mathlib.Core.Option.{some}
use Prim.Native.Nat.{ℕ, zero, suc, ◌+◌, ◌-◌, ◌≤◌, ◌<◌}
use native.Mathlib.Omega.{arith}
use lib.ListN.{length, get_elem?, take, drop}
use lib.Seq.{take-nil, take-take, drop-drop}
use Rattle.text_bytes.specs.Bytes.{Bytes}

pub drop_take : (l : Bytes) (b n : ℕ) → drop b (take n l) ≡ take (n - b) (drop b l)
drop_take l zero n = let e : n - 0 ≡ n = omega arith in rw e
drop_take [] (suc b) n = rw take-nil (sym (take-nil (n - suc b)))
drop_take (x ∷ xs) (suc b) zero = let e : 0 - suc b ≡ 0 = omega arith in rw e
drop_take (x ∷ xs) (suc b) (suc n) = let e : suc n - suc b ≡ n - b = omega arith in rw e (drop_take xs b n)

-- the part of a part, by places of the whole
pub part_part : (f : Bytes) (a n b m : ℕ) → b + m ≤ n → take m (drop b (take n (drop a f))) ≡ take m (drop (a + b) f)
part_part f a n b m h = rw (drop_take (drop a f) b n, drop-drop b a f, take-take m (n - b) (drop (a + b) f) (omega arith))

-- the elements after the first, by their numbers
pub get_next : {A : Type 0} (p : A) (ps : List A) (k : ℕ) → (k ≡ 0 → ⊥) → get_elem? (p ∷ ps) k ≡ get_elem? ps (k - 1)
get_next p ps zero ne = absurd (ne refl)
get_next p ps (suc k) ne = let e : suc k - 1 ≡ k = omega arith in rw e

-- an element that is there has a number below the length
pub get_below : {A : Type 0} (l : List A) (k : ℕ) (x : A) → get_elem? l k ≡ some x → k < length l
get_below [] k x h = absurd (let z : ◌≡◌ {A = ℕ} 0 1 = cc in omega arith)
get_below (y ∷ ys) zero x h = omega arith
get_below (y ∷ ys) (suc k) x h = omega (arith, get_below ys k x h)
