-- Where no letter of an exponent stands, a numeral is what it was before exponents: digits, or digits on each side of one dot. Assumes nothing.
use mathlib.Core.Path.{◌≡◌, refl, ap}
use mathlib.Core.Bool.{false, and-true}
use mathlib.Core.List.{List, [], ◌∷◌}
use Prim.Native.Nat.{ℕ}
use Rattle.text_bytes.specs.Bytes.{any, split_on}
use Rattle.text_bytes.proofs.Laws.Tests.{or_none}
use Rattle.values.specs.Values.{DOT, unsigned, dotted, is_e, mantissa, exponent, is_exponent, is_unsigned, is_numeral}

mantissa_whole : (u : List ℕ) → any is_e u ≡ false → mantissa u ≡ u
unfolding any mantissa
mantissa_whole [] h = refl
mantissa_whole (x ∷ s) h = let n = or_none (is_e x) (any is_e s) h in rw n.0 (ap (λ (l : List ℕ). x ∷ l) (mantissa_whole s n.1))

exponent_empty : (u : List ℕ) → any is_e u ≡ false → exponent u ≡ []
unfolding any exponent
exponent_empty [] h = refl
exponent_empty (x ∷ s) h = let n = or_none (is_e x) (any is_e s) h in rw n.0 (exponent_empty s n.1)

-- no decimal of before has another answer
pub as_before : (b : List ℕ) → any is_e (unsigned b) ≡ false → is_numeral b ≡ dotted (split_on DOT (unsigned b))
unfolding is_numeral is_unsigned is_exponent
as_before b h = rw (mantissa_whole (unsigned b) h, exponent_empty (unsigned b) h) (and-true (dotted (split_on DOT (unsigned b))))
