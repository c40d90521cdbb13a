-- The words of the families, one after the other and by their numbers. Assumes nothing.
use Prim.Native.Nat.{ℕ, zero, suc}
use mathlib.Core.Path.{◌≡◌, refl}
use mathlib.Core.List.{List, []}
use lib.ListN.{length, take, drop}
use Rattle.text_bytes.specs.Bytes.{bytes}
use Rattle.value_references.specs.References.{family, words}

pub words_length : length words ≡ 31
unfolding bytes
words_length = refl

-- a part of the text that is the word of a family
pub word_at : (k n : ℕ) {text : List ℕ} {f g : ℕ} → text ≡ words → f ≡ g → take n (drop k words) ≡ family g → take n (drop k text) ≡ family f
word_at k n t e h = rw (t, e) h

-- what is no family has none
pub no_word : (f : ℕ) → (f ≡ 0 → ⊥) → (f ≡ 1 → ⊥) → (f ≡ 2 → ⊥) → (f ≡ 3 → ⊥) → family f ≡ []
unfolding bytes
no_word zero a b c d = absurd (a refl)
no_word (suc zero) a b c d = absurd (b refl)
no_word (suc (suc zero)) a b c d = absurd (c refl)
no_word (suc (suc (suc zero))) a b c d = absurd (d refl)
no_word (suc (suc (suc (suc f)))) a b c d = refl
