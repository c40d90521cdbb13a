-- Facts with one line more: what was found before stays, and the lines that are left decide the rest. Assumes nothing.
use Prim.Native.Nat.{ℕ, zero, suc, ◌+◌, ◌≤◌}
use Prim.Native.String.{String}
use mathlib.Core.Path.{◌≡◌, refl, sym, ap, subst, ◌∙◌}
use mathlib.Core.Bool.{Bool, true, false, cond, ◌||◌, and-false}
use mathlib.Core.List.{List, [], ◌∷◌}
use mathlib.Core.Option.{none as nothing, some}
use native.Mathlib.Omega.{arith}
use lib.Dec.{eqb}
use lib.ListN.{length, get_or, get_elem?}
use borrow.Author.Tests.{eqb-true, ne_eqb, eq-eqb}
use Rattle.text_bytes.specs.Bytes.{Bytes, bytes, same, begins, split_on, on_first}
use Rattle.text_bytes.proofs.Laws.Same.{same_equal}
use Rattle.text_bytes.proofs.Laws.Tests.{absurd_bool}
use Rattle.text.specs.Lines.{cells, cell, coded, is_meta, is_field}
use Rattle.text.specs.Openings.{Passed, none, more, Reaches}
use Rattle.text.proofs.Laws.Openings.{passed_any}
use Rattle.book.specs.Book.{Book}
use Rattle.book_ids.specs.Ids.{declares, flag}
use Rattle.book_ids.proofs.Laws.Marks.{Left as IdsLeft}
use Rattle.book_facts.specs.Facts.{earlier, earliest, mode_at, type_at, version_at, mode_in, type_in, version_in, mode_of, type_of, version_of, FactsOf, noted_field, noted}
use Rattle.book_facts.specs.declared.Facts.{Facts}

-- A CELL of a line
pub nth_some : (xs : List Bytes) (k : ℕ) (x : Bytes) → get_elem? xs k ≡ some x → get_or xs k [] ≡ x
nth_some [] k x e = absurd (let z : ◌≡◌ {A = ℕ} 0 1 = cc in omega arith)
nth_some (y ∷ xs) zero x e = cc
nth_some (y ∷ xs) (suc k) x e = nth_some xs k x e

pub nth_none : (xs : List Bytes) (k : ℕ) → get_elem? xs k ≡ nothing → length xs ≤ k
nth_none [] k e = omega arith
nth_none (y ∷ xs) zero e = absurd (let z : ◌≡◌ {A = ℕ} 0 1 = cc in omega arith)
nth_none (y ∷ xs) (suc k) e = omega (arith, nth_none xs k e)

pub no_field : (l : Bytes) → (length (cells l) ≡ 3 → ⊥) → is_field l ≡ false
unfolding is_field
no_field l h = rw (ne_eqb (length (cells l)) 3 h, and-false (is_meta l))

pub other_code : (l : Bytes) → is_meta l ≡ false → is_field l ≡ false
unfolding is_field
other_code l h = rw h

pub is_field_lem : (l : Bytes) → is_meta l ≡ true → length (cells l) ≡ 3 → is_field l ≡ true
unfolding is_field
is_field_lem l h e = rw (h, eq-eqb (length (cells l)) 3 e)

-- A LINE THAT BEGINS WITH ANOTHER BYTE than metadata lines is none
begins_other : (l : Bytes) → (get_or l 0 0 ≡ 77 → ⊥) → is_meta l ≡ false
unfolding coded split_on on_first same bytes
begins_other [] h = refl
begins_other (x ∷ xs) h = go (eqb x 9) (split_on 9 xs)
  where
    go : (t : Bool) (cs : List Bytes) → same (get_or (cond t ([] ∷ cs) (on_first x cs)) 0 []) (bytes "MTD") ≡ false
    go true cs = refl
    go false [] = rw (ne_eqb x 77 h)
    go false (c ∷ cs) = rw (ne_eqb x 77 h)

pub other_opening : (l : Bytes) → begins (77 ∷ []) l ≡ false → is_field l ≡ false
unfolding begins
other_opening l h = other_code l (begins_other l (go l h))
  where
    go : (l : Bytes) → begins (77 ∷ []) l ≡ false → get_or l 0 0 ≡ 77 → ⊥
    go [] h e = absurd (omega (arith, e))
    go (x ∷ xs) h e = absurd_bool (sym (rw (eq-eqb 77 x (sym e)) at h))

-- THE EARLIER
earlier_none : (a : ℕ) → earlier a 0 ≡ a
earlier_none a = go (eqb a 0) refl
  where
    go : (t : Bool) → eqb a 0 ≡ t → cond t 0 a ≡ a
    go true e = sym (eqb-true a 0 e)
    go false e = refl

earlier_three : (a b c : ℕ) → earlier a (earlier b c) ≡ earlier (earlier a b) c
earlier_three a b c = go (eqb a 0) refl
  where
    go : (t : Bool) → eqb a 0 ≡ t → cond t (earlier b c) a ≡ cond (eqb (cond t b a) 0) c (cond t b a)
    go true e = refl
    go false e = rw e

earliest_next : (f : ℕ → Bytes → ℕ) (a n : ℕ) (l : Bytes) (ls : List Bytes) → earlier a (earliest f n (l ∷ ls)) ≡ earlier (earlier a (f n l)) (earliest f (n + 1) ls)
unfolding earliest
earliest_next f a n l ls = earlier_three a (f n l) (earliest f (n + 1) ls)

-- A LINE
module _ (x : Facts) (n : ℕ) (l : Bytes) where
  kept : mode_in n l ≡ 0 → type_in n l ≡ 0 → version_in n l ≡ 0 → noted x n l ≡ x
  unfolding noted
  kept m t v = rw (m, t, v, earlier_none x.mode, earlier_none x.typed, earlier_none x.version)

  -- that is no field, or has another key, says nothing
  pub noted_none : is_field l ≡ false → noted x n l ≡ x
  noted_none h = kept (rw h) (rw h) (rw h)

  either : (t : Bool) (a : ℕ) → a ≡ 0 → cond t a 0 ≡ 0
  either true a e = e
  either false a e = refl

  other : (key : Bytes) (sought : String) → begins (bytes "mzTab-") key ≡ false → begins (bytes "mzTab-") (bytes sought) ≡ true → same key (bytes sought) ≡ false
  other key sought h b = go (same key (bytes sought)) refl
    where
      go : (t : Bool) → same key (bytes sought) ≡ t → t ≡ false
      go true e = absurd_bool (sym h ∙ ap (begins (bytes "mzTab-")) (same_equal key (bytes sought) e) ∙ b)
      go false e = refl

  pub noted_other : begins (bytes "mzTab-") (cell 2 l) ≡ false → noted x n l ≡ x
  unfolding begins bytes
  noted_other h =
      let a = other (cell 2 l) "mzTab-mode" h refl in
      let b = other (cell 2 l) "mzTab-type" h refl in
      let c = other (cell 2 l) "mzTab-version" h refl in
      kept (either (is_field l) (mode_at (cell 2 l) (cell 3 l)) (rw a)) (either (is_field l) (type_at (cell 2 l) (cell 3 l)) (rw b)) (either (is_field l) (version_at n (cell 2 l)) (rw c))

  pub noted_field_lem : {key value : Bytes} → is_field l ≡ true → get_or (cells l) 1 [] ≡ key → get_or (cells l) 2 [] ≡ value → noted_field x n key value ≡ noted x n l
  unfolding noted cell
  noted_field_lem h k v = rw (h, k, v)

-- ALL LINES: the facts so far, of n lines, and the lines that are left decide
pub record Left (file : List Bytes) (x : Facts) (n : ℕ) (rest : List Bytes) : Type 0 where
  pub mode : mode_of file ≡ earlier x.mode (earliest mode_in (n + 1) rest)
  pub typed : type_of file ≡ earlier x.typed (earliest type_in (n + 1) rest)
  pub version : version_of file ≡ earlier x.version (earliest version_in (n + 1) rest)

pub left_start : (file : List Bytes) (x : Facts) → x.mode ≡ 0 → x.typed ≡ 0 → x.version ≡ 0 → Left file x 0 file
unfolding mode_of type_of version_of
left_start file x m t v = record { mode = rw m; typed = rw t; version = rw v }

pub left_next : {file : List Bytes} {x : Facts} {n : ℕ} {rest : List Bytes} (l : Bytes) (ls : List Bytes) → rest ≡ l ∷ ls → Left file x n rest → Left file (noted x (n + 1) l) (n + 1) ls
unfolding noted
left_next {file} {x} {n} {rest} l ls e h =
    record {
      mode = h.mode ∙ ap (λ (r : List Bytes). earlier x.mode (earliest mode_in (n + 1) r)) e ∙ earliest_next mode_in x.mode (n + 1) l ls;
      typed = h.typed ∙ ap (λ (r : List Bytes). earlier x.typed (earliest type_in (n + 1) r)) e ∙ earliest_next type_in x.typed (n + 1) l ls;
      version = h.version ∙ ap (λ (r : List Bytes). earlier x.version (earliest version_in (n + 1) r)) e ∙ earliest_next version_in x.version (n + 1) l ls;
    }

-- lines passed over say nothing
pub left_passed : {file : List Bytes} {x : Facts} {n : ℕ} {ls : List Bytes} {k : ℕ} {rest : List Bytes} → Passed 77 ls k rest → Left file x n ls → Left file x (n + k) rest
left_passed {file} {x} {n} {ls} {k} {rest} none h = subst (λ (m : ℕ). Left file x m rest) (let e : n ≡ n + 0 = omega arith in e) h
left_passed {file} {x} {n} {ls} {k} {rest} (more {n = j} l q o) h =
    let next = left_next l rest refl (left_passed q h) in
    let same = noted_none x (n + j + 1) l (other_opening l o) in
    subst (λ (m : ℕ). Left file x m rest) (let e : n + j + 1 ≡ n + (j + 1) = omega arith in e) (subst (λ (y : Facts). Left file y (n + j + 1) rest) same next)

-- nor do they declare an id
pub ids_passed : (book : Book) (t : List (List Bool)) {file : Bytes} {at next k : ℕ} → Reaches 77 file at next k → IdsLeft book t file at → IdsLeft book t file next
unfolding declares
ids_passed book t r left f i hf hi = left f i hf hi ∙ ap (λ (b : Bool). flag t f i || b) (passed_any (declares book f (i + 1)) (λ l o. rw (other_opening l o)) r.passed)

pub left_done : {file : List Bytes} {x : Facts} {n : ℕ} {rest : List Bytes} → rest ≡ [] → Left file x n rest → FactsOf file x
unfolding earliest
left_done {file} {x} {n} {rest} e h =
    record {
      mode = sym (h.mode ∙ ap (λ (r : List Bytes). earlier x.mode (earliest mode_in (n + 1) r)) e ∙ earlier_none x.mode);
      typed = sym (h.typed ∙ ap (λ (r : List Bytes). earlier x.typed (earliest type_in (n + 1) r)) e ∙ earlier_none x.typed);
      version = sym (h.version ∙ ap (λ (r : List Bytes). earlier x.version (earliest version_in (n + 1) r)) e ∙ earlier_none x.version);
    }
