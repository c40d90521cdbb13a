-- What the letters of the book stand for, where a letter is none of those asked for. Assumes nothing.
use Prim.Native.Nat.{ℕ}
use mathlib.Core.Path.{◌≡◌, refl}
use mathlib.Core.Bool.{Bool, true, false, cond, ◌||◌}
use mathlib.Core.List.{[], ◌∷◌}
use lib.Dec.{eqb}
use borrow.Author.Tests.{eq-eqb, ne_eqb, eqb-true}
use Rattle.text_bytes.specs.Bytes.{Bytes, bytes, same, is_empty}
use Rattle.values.specs.Values.{is_text, is_null, is_whole, is_decimal}
use Rattle.value_references.specs.References.{ref_flaw, refs_flaw}
use Rattle.value_references.specs.declared.index.Flaw.TheVariants.{Form}
use Rattle.value_references.proofs.Laws.Names.{ref_flawless, refs_flawless}
use Rattle.value_parameters.specs.Parameters.{is_parameters}
use Rattle.book_kinds.specs.Kinds.{family_number, word_of, is_kept, of_kind, kind_flaw, cell_of_kind}

pub no_family : (f : ℕ) → (f ≡ 83 → ⊥) → (f ≡ 65 → ⊥) → (f ≡ 86 → ⊥) → (f ≡ 82 → ⊥) → family_number f ≡ 4
unfolding family_number
no_family f s a v r = rw (ne_eqb f 83 s, ne_eqb f 65 a, ne_eqb f 86 v, ne_eqb f 82 r)

pub other_text : (k f : ℕ) (b : Bytes) → (k ≡ 87 → ⊥) → (k ≡ 68 → ⊥) → (k ≡ 76 → ⊥) → (k ≡ 78 → ⊥) → (k ≡ 80 → ⊥) → (k ≡ 81 → ⊥) → (k ≡ 114 → ⊥) → (k ≡ 108 → ⊥)
    → (k ≡ 75 → ⊥) → (k ≡ 82 → ⊥) → (k ≡ 85 → ⊥) → (k ≡ 118 → ⊥) → (k ≡ 109 → ⊥) → (k ≡ 116 → ⊥) → of_kind k f b ≡ is_text b
unfolding of_kind
other_text k f b w d l n p q r s t u v x y z =
    rw (
      ne_eqb k 87 w,
      ne_eqb k 68 d,
      ne_eqb k 76 l,
      ne_eqb k 78 n,
      ne_eqb k 80 p,
      ne_eqb k 81 q,
      ne_eqb k 114 r,
      ne_eqb k 108 s,
      ne_eqb k 75 t,
      ne_eqb k 82 u,
      ne_eqb k 85 v,
      ne_eqb k 118 x,
      ne_eqb k 109 y,
      ne_eqb k 116 z,
    )

-- `null` is text
null_text : (b : Bytes) → (is_null b || is_text b) ≡ is_text b
unfolding is_null is_text is_empty same bytes
null_text [] = refl
null_text (x ∷ xs) = go (is_null (x ∷ xs))
  where
    go : (t : Bool) → (t || true) ≡ true
    go true = refl
    go false = refl

-- CELLS
module _ (b : Bytes) where
  module _ (k : ℕ) where
    pub cell_kept : k ≡ 75 → cell_of_kind k b ≡ is_kept b
    unfolding cell_of_kind
    cell_kept e = rw (eq-eqb k 75 e)

    pub cell_null : (k ≡ 75 → ⊥) → is_null b ≡ true → cell_of_kind k b ≡ true
    unfolding cell_of_kind
    cell_null n h = rw (ne_eqb k 75 n, h)

    pub cell_value : (k ≡ 75 → ⊥) → is_null b ≡ false → cell_of_kind k b ≡ of_kind k 45 b
    unfolding cell_of_kind
    cell_value n h = rw (ne_eqb k 75 n, h)

    -- text may be missing too, and the kinds that most columns have
    pub cell_text : k ≡ 84 → cell_of_kind k b ≡ is_text b
    unfolding cell_of_kind of_kind
    cell_text e = rw e (null_text b)

    pub value_whole : k ≡ 87 → of_kind k 45 b ≡ is_whole b
    unfolding of_kind
    value_whole e = rw e

    pub value_decimal : k ≡ 68 → of_kind k 45 b ≡ is_decimal b
    unfolding of_kind
    value_decimal e = rw e

    pub value_parameters : k ≡ 81 → of_kind k 45 b ≡ is_parameters b
    unfolding of_kind
    value_parameters e = rw e

-- a value that is of its kind has no flaw
pub good_none : (k f : ℕ) (b : Bytes) → of_kind k f b ≡ true → kind_flaw k f b ≡ Form
unfolding of_kind kind_flaw
good_none k f b h = go (eqb k 114) (eqb k 108) refl refl
  where
    go : (t u : Bool) → eqb k 114 ≡ t → eqb k 108 ≡ u → cond t (ref_flaw (word_of f) b) (cond u (refs_flaw (word_of f) b) Form) ≡ Form
    go true u d e = let q = eqb-true k 114 d in ref_flawless (word_of f) b (rw q at h)
    go false true d e = let q = eqb-true k 108 e in refs_flawless (word_of f) b (rw q at h)
    go false false d e = refl
