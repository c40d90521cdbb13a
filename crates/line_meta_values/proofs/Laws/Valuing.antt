-- What is found of a value: by its kind, and for a list of references by the indices that it names, one after the other. Assumes nothing.
use Prim.Native.Nat.{ℕ, ◌+◌, ◌<◌}
use mathlib.Core.Path.{◌≡◌, refl, sym, ap, ◌∙◌}
use mathlib.Core.Bool.{Bool, true, false, cond, not, ◌&&◌, ◌||◌, and-false, or-false, or-true}
use mathlib.Core.List.{List, [], ◌∷◌}
use native.Mathlib.Omega.{arith}
use lib.Dec.{eqb, leb}
use borrow.Author.Tests.{le-leb, lt-leb, leb-true, eqb-true, eqb-false}
use Rattle.text_bytes.specs.Bytes.{Bytes, any, all}
use Rattle.value_references.specs.References.{ref_to}
use Rattle.text_bytes.proofs.Laws.Tests.{and_left, and_right}
use Rattle.book.specs.Letters.{REFERENCE, REFERENCES}
use Rattle.book_kinds.specs.Kinds.{family_number, word_of, of_kind, kind_flaw}
use Rattle.rules.specs.Rules.{named_in}
use Rattle.scan.specs.Machine.{flaw_rule, Ids, kind_rule}
use Rattle.scan.proofs.Laws.Rowing.{test_eq}
use Rattle.line_meta_values.proofs.Laws.Referring.{one_named, none_named, none_flawed, is_high, high_most, any_high}

-- BY KIND
module _ (ids : Ids) (k f : ℕ) (v : Bytes) where
  pub rule_wrong : of_kind k f v ≡ false → kind_rule ids k f v ≡ flaw_rule (kind_flaw k f v) 7
  rule_wrong h = rw h

  pub rule_good : (b : Bool) → of_kind k f v ≡ true → b ≡ any (λ i. not (ids (family_number f) i)) (named_in k f v) → kind_rule ids k f v ≡ cond b 8 0
  rule_good b h e = rw (h, ← e)

  -- a value that names no id
  pub rule_plain : (b : Bool) → (k ≡ REFERENCE → ⊥) → (k ≡ REFERENCES → ⊥) → b ≡ of_kind k f v → ◌≡◌ {A = ℕ} (cond (not b) 7 0) (kind_rule ids k f v)
  unfolding any
  rule_plain b r s h = rw (← h, none_named k f v r s, none_flawed k f v r s) (go b)
    where
      go : (t : Bool) → ◌≡◌ {A = ℕ} (cond (not t) 7 0) (cond t 0 7)
      go true = refl
      go false = refl

  -- one that names one
  pub one_any : (p : ℕ → Bool) → k ≡ REFERENCE → any p (named_in k f v) ≡ p (ref_to (word_of f) v)
  unfolding any
  one_any p e = rw (one_named k f v e) (or-false (p (ref_to (word_of f) v)))

-- A LIST, index by index

or_each : (a b t : Bool) → ((a || b) && t) ≡ false → ((a && t) ≡ false) × ((b && t) ≡ false)
or_each true true t h = (h, h)
or_each true false t h = (h, refl)
or_each false b t h = (refl, h)

module _ (p : ℕ → Bool) where
  -- the indices from i on decide
  abbrev pub Left : List ℕ → ℕ → Type 0
  Left is i = any p is ≡ any (λ j. leb i j && p j) is

  pub left_start : (is : List ℕ) → all is_high is ≡ true → Left is 1
  left_start is a = any_high p (λ j. leb 1 j && p j) (λ j lo hi. rw (le-leb 1 j lo)) is a

  module _ (i : ℕ) where
    one_next : (j : ℕ) → (eqb i j && p i) ≡ false → (leb i j && p j) ≡ (leb (i + 1) j && p j)
    one_next j h = go (eqb i j) refl h
      where
        go : (t : Bool) → eqb i j ≡ t → (t && p i) ≡ false → (leb i j && p j) ≡ (leb (i + 1) j && p j)
        go true e q = let z : i ≡ j = eqb-true i j e in rw (ap p (sym z) ∙ q, and-false (leb i j), and-false (leb (i + 1) j))
        go false e q =
            ap (λ (t : Bool). t && p j) (test_eq (leb i j) (leb (i + 1) j) (λ l. le-leb (i + 1) j (omega (arith, leb-true i j l, eqb-false i j e)))
            (λ l. le-leb i j (omega (arith, leb-true (i + 1) j l))))

    each_next : (is : List ℕ) → (any (eqb i) is && p i) ≡ false → any (λ j. leb i j && p j) is ≡ any (λ j. leb (i + 1) j && p j) is
    unfolding any
    each_next [] h = refl
    each_next (j ∷ js) h =
        let b = or_each (eqb i j) (any (eqb i) js) (p i) h in
        rw (one_next j b.0, each_next js b.1)

    each_hit : (is : List ℕ) → any (eqb i) is ≡ true → p i ≡ true → any (λ j. leb i j && p j) is ≡ true
    unfolding any
    each_hit [] h t = h
    each_hit (j ∷ js) h t = go (eqb i j) refl h (λ q. each_hit js q t)
      where
        go : (u : Bool) → eqb i j ≡ u → (u || any (eqb i) js) ≡ true → (any (eqb i) js ≡ true → any (λ m. leb i m && p m) js ≡ true)
            → ((leb i j && p j) || any (λ m. leb i m && p m) js) ≡ true
        go true e q ih = let z : i ≡ j = eqb-true i j e in rw (le-leb i j (omega arith), ap p (sym z) ∙ t)
        go false e q ih = rw (ih q) (or-true (leb i j && p j))

    each_end : (is : List ℕ) → 64 < i → all is_high is ≡ true → any (λ j. leb i j && p j) is ≡ false
    unfolding any all
    each_end [] l a = refl
    each_end (j ∷ js) l a =
        rw (lt-leb i j (omega (arith, high_most j (and_left (is_high j) (all is_high js) a))), each_end js l (and_right (is_high j) (all is_high js) a))

    -- index i is not among those, or it passes
    pub left_next : (is : List ℕ) → (any (eqb i) is && p i) ≡ false → Left is i → Left is (i + 1)
    left_next is h l = l ∙ each_next is h

    pub left_hit : (is : List ℕ) → (any (eqb i) is && p i) ≡ true → Left is i → true ≡ any p is
    left_hit is h l = sym (l ∙ each_hit is (and_left (any (eqb i) is) (p i) h) (and_right (any (eqb i) is) (p i) h))

    pub left_end : (is : List ℕ) → 64 < i → all is_high is ≡ true → Left is i → false ≡ any p is
    left_end is h a l = sym (l ∙ each_end is h a)
