-- The ids that are carried say what rule 8 asks of the whole file: every id that a value names is of one of the four families, with an index 1 to 64. Assumes nothing.
use Prim.Native.Nat.{ℕ, ◌+◌, ◌-◌, ◌<◌}
use mathlib.Core.Path.{◌≡◌, refl, sym, ap, ◌∙◌}
use mathlib.Core.Bool.{Bool, true, false, not, ◌&&◌, ◌||◌}
use mathlib.Core.List.{List, [], ◌∷◌}
use native.Mathlib.Omega.{arith}
use lib.Dec.{eqb, ltb}
use borrow.Author.Tests.{ltb-true, eqb-true, eqb-false}
use Rattle.std.specs.Prelude.{Ok, Err}
use Rattle.text_bytes.specs.Bytes.{Bytes, bytes, any, all}
use Rattle.text.specs.Lines.{lines}
use Rattle.text_bytes.proofs.Laws.Each.{all_at}
use Rattle.value_references.specs.References.{ref_to, refs_to}
use Rattle.book.specs.Letters.{REFERENCE, REFERENCES}
use Rattle.book_names.specs.Names.{Entry, entry, pieces_from, entry_of, kind_of, family_of, Found, known_as}
use Rattle.book.specs.Book.{key_entries, key_of, mz_tab}
use Rattle.book.specs.Text.{book_in}
use Rattle.book.specs.Keys.{keys}
use Rattle.book_ids.specs.Ids.{declares, declared, Declared}
use Rattle.book_kinds.specs.Kinds.{family_number, word_of, of_kind}
use Rattle.book_names.proofs.Laws.Known.{known}
use Rattle.rules.specs.Rules.{named_in, is_undeclared, names_undeclared}
use Rattle.scan.specs.Machine.{Ids, ids_of, undeclared_in, Declares}
use Rattle.scan.proofs.Laws.Families.{undeclared_is}
use Rattle.line_meta_values.proofs.Laws.Referring.{one_good, one_named, list_good, list_named, none_named, is_high, ref_high, refs_high, any_high}

-- KEYS: one whose values name ids is of one of the four families

-- a kind whose values name ids
abbrev is_naming : ℕ → Bool
is_naming k = eqb k REFERENCE || eqb k REFERENCES

key_names : Entry → Bool
key_names e = not (is_naming (kind_of e)) || ltb (family_number (family_of e)) 4

keys_name : (t : Bytes) → all key_names (key_entries (book_in t)) ≡ true
unfolding all key_names family_number entry_of pieces_from bytes book_in mz_tab keys
keys_name t = refl

module _ (t : Bytes) (x : Bytes) (e k f i j : ℕ) (q : key_of (book_in t) x ≡ known_as e k f i j) where
  key_family : is_naming k ≡ true → family_number f < 4
  unfolding key_of key_names
  key_family h =
      let a = known (key_entries (book_in t)) x e k f i j q in
      let u = all_at key_names (key_entries (book_in t)) (entry 0 0 []) e (keys_name t) a.inside in
      ltb-true (family_number f) 4 (rw (← a.kind, ← a.family, h) at u)

  one_family : k ≡ REFERENCE → family_number f < 4
  one_family h = key_family (rw h)

  list_family : k ≡ REFERENCES → family_number f < 4
  list_family h = key_family (rw h)

-- THE LAWS
module _ (t : Bytes) (file : List Bytes) (ids : Ids) (d : Declares (book_in t) file ids) where
  module _ (x v : Bytes) (e k f i j : ℕ) (q : key_of (book_in t) x ≡ known_as e k f i j) (good : of_kind k f v ≡ true) where
    abbrev Alike : List ℕ → Type 0
    Alike is = any (is_undeclared (book_in t) file (family_number f)) is ≡ any (λ n. not (ids (family_number f) n)) is

    high_alike : family_number f < 4 → (is : List ℕ) → all is_high is ≡ true → Alike is
    high_alike h is a = any_high _ _ (λ n lo hi. undeclared_is t file ids d (family_number f) n h lo hi) is a

    named_ids : Alike (named_in k f v)
    unfolding any all
    named_ids = go (eqb k 114) (eqb k 108) refl refl
      where
        go : (y u : Bool) → eqb k 114 ≡ y → eqb k 108 ≡ u → Alike (named_in k f v)
        go true u a b =
            let r = eqb-true k 114 a in
            rw (one_named k f v r) (high_alike (one_family t x e k f i j q r) (ref_to (word_of f) v ∷ []) (rw (ref_high (word_of f) v (sym (one_good k f v r) ∙ good))))
        go false true a b =
            let r = eqb-true k 108 b in
            rw (list_named k f v r) (high_alike (list_family t x e k f i j q r) (refs_to (word_of f) v) (refs_high (word_of f) v (sym (list_good k f v r) ∙ good)))
        go false false a b = rw (none_named k f v (eqb-false k 114 a) (eqb-false k 108 b))

  -- rule 8, by the ids that are carried
  pub value_ids : (x v : Bytes) → names_undeclared (book_in t) file (key_of (book_in t) x) v ≡ undeclared_in ids (key_of (book_in t) x) v
  value_ids x v = go (key_of (book_in t) x) refl
    where
      go : (r : Found) → key_of (book_in t) x ≡ r → names_undeclared (book_in t) file r v ≡ undeclared_in ids r v
      go (Err w) q = refl
      go (Ok k) q = by (of_kind k.kind k.family v) refl
        where
          by : (y : Bool) → of_kind k.kind k.family v ≡ y
              → (y && any (is_undeclared (book_in t) file (family_number k.family)) (named_in k.kind k.family v)) ≡ (y && any (λ n. not (ids (family_number k.family) n)) (named_in k.kind k.family v))
          by true g = named_ids x v k.entry k.kind k.family k.i k.j q g
          by false g = refl

-- the flags of a file are its ids
pub declares_flags : (t : Bytes) (flags : List (List Bool)) (file : Bytes) → Declared (book_in t) flags file → Declares (book_in t) (lines file) (ids_of flags)
unfolding declared
declares_flags t flags file d f i h lo hi =
    let z : i - 1 + 1 ≡ i = omega arith in
    d.flags f (i - 1) h (omega arith) ∙ ap (λ (n : ℕ). any (declares (book_in t) f n) (lines file)) z
