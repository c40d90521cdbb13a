-- The ids that a value names: only references name any, and each has an index 1 to 64. Assumes nothing.
use Prim.Native.Nat.{ℕ, zero, suc, ◌≤◌}
use mathlib.Core.Path.{◌≡◌, refl}
use mathlib.Core.Bool.{Bool, true, ◌&&◌}
use mathlib.Core.List.{List, [], ◌∷◌, map}
use native.Mathlib.Omega.{arith}
use lib.Dec.{leb}
use borrow.Author.Tests.{le-leb, leb-true, ne_eqb}
use Rattle.text_bytes.specs.Bytes.{Bytes, any, all}
use Rattle.value_references.specs.References.{ref_to, ref_flaw, ref_parts, refs_to, is_index, is_references, refs_flaw}
use Rattle.value_references.specs.declared.index.Flaw.TheVariants.{Form}
use Rattle.value_references.proofs.Laws.Names.{ref_le}
use Rattle.book.specs.Letters.{REFERENCE, REFERENCES}
use Rattle.book_kinds.specs.Kinds.{word_of, of_kind, kind_flaw}
use Rattle.text_bytes.proofs.Laws.Tests.{absurd_bool, and_left, and_right}
use Rattle.rules.specs.Rules.{named_in}

-- BY KINDS
module _ (k f : ℕ) (v : Bytes) where
  pub one_good : k ≡ REFERENCE → of_kind k f v ≡ is_index (ref_to (word_of f) v)
  unfolding of_kind
  one_good e = rw e

  pub one_named : k ≡ REFERENCE → named_in k f v ≡ ref_to (word_of f) v ∷ []
  unfolding named_in
  one_named e = rw e

  pub list_good : k ≡ REFERENCES → of_kind k f v ≡ is_references (word_of f) v
  unfolding of_kind
  list_good e = rw e

  pub list_named : k ≡ REFERENCES → named_in k f v ≡ refs_to (word_of f) v
  unfolding named_in
  list_named e = rw e

  pub none_named : (k ≡ REFERENCE → ⊥) → (k ≡ REFERENCES → ⊥) → named_in k f v ≡ []
  unfolding named_in
  none_named r s = rw (ne_eqb k 114 r, ne_eqb k 108 s)

  pub one_flawed : k ≡ REFERENCE → kind_flaw k f v ≡ ref_flaw (word_of f) v
  unfolding kind_flaw
  one_flawed e = rw e

  pub list_flawed : k ≡ REFERENCES → kind_flaw k f v ≡ refs_flaw (word_of f) v
  unfolding kind_flaw
  list_flawed e = rw e

  pub none_flawed : (k ≡ REFERENCE → ⊥) → (k ≡ REFERENCES → ⊥) → kind_flaw k f v ≡ Form
  unfolding kind_flaw
  none_flawed r s = rw (ne_eqb k 114 r, ne_eqb k 108 s)

-- INDICES

-- 1 to 64
abbrev pub is_high : ℕ → Bool
is_high i = leb 1 i && leb i 64

high_low : (i : ℕ) → is_high i ≡ true → 1 ≤ i
high_low i h = leb-true 1 i (and_left (leb 1 i) (leb i 64) h)

pub high_most : (i : ℕ) → is_high i ≡ true → i ≤ 64
high_most i h = leb-true i 64 (and_right (leb 1 i) (leb i 64) h)

ref_low : (i : ℕ) → is_index i ≡ true → 1 ≤ i
ref_low zero e = absurd_bool e
ref_low (suc i) e = omega arith

pub ref_high : (w b : Bytes) → is_index (ref_to w b) ≡ true → is_high (ref_to w b) ≡ true
ref_high w b h = rw (le-leb 1 (ref_to w b) (ref_low (ref_to w b) h), le-leb (ref_to w b) 64 (ref_le w b))

each_high : (w : Bytes) (ps : List Bytes) → all is_index (map (ref_to w) ps) ≡ true → all is_high (map (ref_to w) ps) ≡ true
unfolding all
each_high w [] h = refl
each_high w (p ∷ ps) h = rw (ref_high w p (and_left (is_index (ref_to w p)) _ h), each_high w ps (and_right (is_index (ref_to w p)) _ h))

-- those of a list of references
pub refs_high : (w b : Bytes) → is_references w b ≡ true → all is_high (refs_to w b) ≡ true
unfolding is_references refs_to
refs_high w b h = each_high w (ref_parts b) h

-- two tests that agree on every index
pub any_high : (p q : ℕ → Bool) → ((i : ℕ) → 1 ≤ i → i ≤ 64 → p i ≡ q i) → (is : List ℕ) → all is_high is ≡ true → any p is ≡ any q is
unfolding any all
any_high p q h [] a = refl
any_high p q h (i ∷ is) a =
    let b = and_left (is_high i) (all is_high is) a in
    rw (h i (high_low i b) (high_most i b), any_high p q h is (and_right (is_high i) (all is_high is) a))
