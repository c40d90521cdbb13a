-- What is carried along says what the rules ask of the lines above and of the whole file. Assumes nothing.
use mathlib.Core.Path.{◌≡◌, refl, sym, subst, ◌∙◌}
use mathlib.Core.Bool.{Bool, true, false, not, ◌&&◌}
use mathlib.Core.List.{List, [], ◌∷◌}
use Prim.Native.Nat.{ℕ, ◌<◌}
use native.Mathlib.Omega.{arith}
use borrow.Author.Tests.{eq-eqb, eqb-true}
use lib.ListN.{get_or, get_or-map}
use lib.Dec.{eqb}
use Rattle.std.specs.Prelude.{Ok, Err}
use Rattle.text_bytes.specs.Bytes.{Bytes, same, any, first_from}
use Rattle.text_bytes.proofs.Laws.Tests.{absurd_bool}
use Rattle.text_bytes.proofs.Laws.Firsts.{first_any, first_alike}
use Rattle.text_bytes.proofs.Laws.Same.{same_equal, same_self}
use Rattle.book_names.specs.Names.{slot_of, is_known, Found, known_as}
use Rattle.book.specs.Keys.{is_colunit}
use Rattle.book_names.proofs.Laws.Known.{same_slot, slot_below}
use Rattle.text.specs.Lines.{cell}
use Rattle.rules.specs.Rules.{key_found, same_key}
use Rattle.scan.specs.Machine.{first_in, is_slot, has_slot, Slots, marks, Marks}
use Rattle.scan.proofs.Laws.Rowing.{test_eq}
use Rattle.book.specs.Book.{SLOTS, Book, key_of, key_entries}
use Rattle.book.proofs.Laws.Sized.{Sized}

-- two tests that agree on every element
pub any_alike : {A : Type 0} (f g : A → Bool) → ((x : A) → f x ≡ g x) → (xs : List A) → any f xs ≡ any g xs
unfolding any
any_alike f g h [] = refl
any_alike f g h (x ∷ xs) = rw (h x, any_alike f g h xs)

-- slots that have a line are those of the keys that came
pub slots_marked : (book : Book) (F : List Bytes) (slots : List ℕ) → Slots book F slots → Marks book F (marks slots)
slots_marked book F slots h s l = get_or-map (λ n. not (eqb n 0)) slots s 0 ∙ rw (h s l) (first_any (has_slot book s) 1 F (omega arith))

-- the slots say whether the key of a line breaks rule 6, and where it stands first then; the key is found so
pub record RepeatsAs (book : Book) (above : List Bytes) (slots : List ℕ) (l : Bytes) (r : Found) : Type 0 where
  pub comes : (is_known r && (not (is_colunit (cell 2 l)) && any (same_key l) above)) ≡ not (eqb (first_in book slots (cell 2 l) r) 0)
  pub first : (is_known r && (not (is_colunit (cell 2 l)) && any (same_key l) above)) ≡ true → first_from 1 (same_key l) above ≡ first_in book slots (cell 2 l) r

abbrev pub Repeats : Book → List Bytes → List ℕ → Bytes → Type 0
Repeats book above slots l = RepeatsAs book above slots l (key_found book l)

module _ (book : Book) (sized : Sized book) where
  -- KEYS THAT CAME BEFORE: a key has a slot of its own
  abbrev slot : ℕ → ℕ → ℕ → ℕ
  slot e i j = slot_of (key_entries book) e i j

  module _ (x : Bytes) (e k f i j : ℕ) (q : key_of book x ≡ known_as e k f i j) where
    -- a key with the same slot is the same
    slot_equal : (y : Bytes) (e' k' f' i' j' : ℕ) → key_of book y ≡ known_as e' k' f' i' j' → slot e' i' j' ≡ slot e i j → x ≡ y
    unfolding key_of
    slot_equal y e' k' f' i' j' u s = same_slot (key_entries book) x y e k f i j e' k' f' i' j' q u (sym s)

    slot_key : (y : Bytes) → same x y ≡ is_slot book (slot e i j) (key_of book y)
    slot_key y = test_eq (same x y) (is_slot book (slot e i j) (key_of book y)) there (back (key_of book y) refl)
      where
        there : same x y ≡ true → is_slot book (slot e i j) (key_of book y) ≡ true
        there t = let z : key_of book y ≡ known_as e k f i j = subst (λ (b : Bytes). key_of book b ≡ known_as e k f i j) (same_equal x y t) q in rw z (eq-eqb (slot e i j) (slot e i j) refl)

        back : (r : Found) → key_of book y ≡ r → is_slot book (slot e i j) r ≡ true → same x y ≡ true
        back (Err w) u t = absurd (let z : ◌≡◌ {A = ℕ} 0 1 = cc in omega arith)
        back (Ok k) u t = subst (λ (b : Bytes). same x b ≡ true) (slot_equal y k.entry k.kind k.family k.i k.j u (eqb-true (slot k.entry k.i k.j) (slot e i j) t)) (same_self x)

    slot_in : slot e i j < SLOTS
    unfolding key_of
    slot_in = omega (arith, (slot_below (key_entries book) x e k f i j q).1, sized.slots)

  -- a line has the key of l exactly where it has its slot
  module _ (l : Bytes) (above : List Bytes) (slots : List ℕ) (h : Slots book above slots) where
    slot_first : (e k f i j : ℕ) → key_found book l ≡ known_as e k f i j → get_or slots (slot e i j) 0 ≡ first_from 1 (same_key l) above
    unfolding same_key has_slot
    slot_first e k f i j q =
        h (slot e i j) (slot_in (cell 2 l) e k f i j q) ∙ sym (first_alike (same_key l) (has_slot book (slot e i j)) (λ m. rw (slot_key (cell 2 l) e k f i j q (cell 2 m))) 1 above)

    -- rule 6, by slots
    pub repeats : Repeats book above slots l
    repeats = go (key_found book l) refl
      where
        go : (r : Found) → key_found book l ≡ r → RepeatsAs book above slots l r
        go (Err w) q = record { comes = refl; first = λ t. absurd_bool t }
        go (Ok k) q = by (is_colunit (cell 2 l)) refl
          where
            by : (t : Bool) → is_colunit (cell 2 l) ≡ t → RepeatsAs book above slots l (Ok k)
            by true c = record { comes = rw c; first = λ t. absurd_bool (rw c at t) }
            by false c = record { comes = rw (c, slot_first k.entry k.kind k.family k.i k.j q) (sym (first_any (same_key l) 1 above (omega arith))); first = λ t. rw (c, slot_first k.entry k.kind k.family k.i k.j q) }
