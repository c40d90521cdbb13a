-- What a line declares, and the flags with one line more. Assumes nothing.
use Prim.Native.Nat.{ℕ, ◌+◌, ◌-◌, ◌≤◌, ◌<◌}
use mathlib.Core.Path.{◌≡◌, refl, ap, sym, ◌∙◌, subst⁻¹}
use mathlib.Core.Bool.{Bool, true, false, cond, ◌&&◌, ◌||◌, and-false, or-true, or-false, or_assoc}
use mathlib.Core.List.{List, [], ◌∷◌, ◌++◌}
use mathlib.Core.Option.{none, some}
use native.Mathlib.Omega.{arith}
use lib.Dec.{eqb}
use lib.ListN.{length, get_or, get_elem?, drop, set, replicate, length-set, get_or-replicate}
use lib.Seq.{get_or-set_same, get_or-set_other}
use borrow.Author.Tests.{eq-eqb, ne_eqb, eqb-true, eqb-false}
use Rattle.text_bytes.specs.Bytes.{bytes, begins, any}
use Rattle.text_bytes.specs.Places.{part}
use Rattle.text.specs.Lines.{lines, cells, coded, is_field, key_cell}
use Rattle.text.specs.Places.{LineAt}
use Rattle.text.proofs.Laws.Lines.{lines_done}
use Rattle.value_references.specs.Index.{written}
use Rattle.value_references.specs.References.{family}
use Rattle.value_references.specs.declared.index.Flaw.{Flaw}
use Rattle.book.specs.Book.{Book, key_of}
use Rattle.book_names.specs.Names.{is_known, Found}
use Rattle.book_ids.specs.Ids.{declares, declared, flag, Flags, Declared, id_of, key_id, line_id, marked}
use Rattle.book_ids.specs.declared.Id.{Id}
use Rattle.std.specs.Prelude.{Option, Some, None, Err}
use Rattle.book_ids.proofs.Laws.Words.{is_id, id_is, id_range}

-- A KEY's id
module _ (book : Book) (name : List ℕ) where
  pub key_unknown : (z : Flaw) → key_of book name ≡ Err z → key_id book name ≡ None
  unfolding key_id
  key_unknown z h = rw h

  pub key_known : (f : Found) → key_of book name ≡ f → is_known f ≡ true → key_id book name ≡ id_of name
  unfolding key_id
  key_known f h k = rw (h, k)

  pub key_none : id_of name ≡ None → key_id book name ≡ None
  unfolding key_id
  key_none h = go (is_known (key_of book name))
    where
      go : (t : Bool) → cond t (id_of name) None ≡ None
      go true = h
      go false = refl

-- A LINE's id
module _ (book : Book) (line : List ℕ) where
  pub line_other : coded (bytes "MTD") line ≡ false → line_id book line ≡ None
  unfolding line_id is_field
  line_other h = rw h

  pub line_cells : (length (cells line) ≡ 3 → ⊥) → line_id book line ≡ None
  unfolding line_id is_field
  line_cells n = rw (ne_eqb (length (cells line)) 3 n, and-false (coded (bytes "MTD") line))

  pub line_key : coded (bytes "MTD") line ≡ true → length (cells line) ≡ 3 → line_id book line ≡ key_id book (key_cell line)
  unfolding line_id is_field
  line_key h e = rw (h, eq-eqb (length (cells line)) 3 e)

pub second_none : (xs : List (List ℕ)) → get_elem? xs 1 ≡ none → length xs ≡ 3 → ⊥
second_none [] e h = omega arith
second_none (x ∷ []) e h = omega arith
second_none (x ∷ y ∷ xs) e h = let z : ◌≡◌ {A = ℕ} 0 1 = cc in omega arith

pub second_some : (xs : List (List ℕ)) (x : List ℕ) → get_elem? xs 1 ≡ some x → get_or xs 1 [] ≡ x
second_some [] x e = absurd (let z : ◌≡◌ {A = ℕ} 0 1 = cc in omega arith)
second_some (y ∷ []) x e = absurd (let z : ◌≡◌ {A = ℕ} 0 1 = cc in omega arith)
second_some (y ∷ z ∷ xs) x e = cc

-- THE LAW: a line declares an id just where that is the id it is found to declare
pub declares_is : (book : Book) (line : List ℕ) (f i : ℕ) → f < 4 → 1 ≤ i → i ≤ 64 → declares book f i line ≡ is_id (line_id book line) f i
unfolding declares line_id key_id is_id
declares_is book line f i hf lo hi = go (is_field line) (is_known (key_of book (key_cell line)))
  where
    go : (t u : Bool) → (t && u && begins (family f ++ written i) (key_cell line)) ≡ is_id (cond t (cond u (id_of (key_cell line)) None) None) f i
    go true true = id_is (key_cell line) f i hf lo hi
    go true false = refl
    go false u = refl

pub line_range : (book : Book) (line : List ℕ) (d : Id) → line_id book line ≡ Some d → (d.family < 4) × (1 ≤ d.index) × (d.index ≤ 64)
unfolding line_id key_id
line_range book line d h = go (is_field line) (is_known (key_of book (key_cell line))) h
  where
    go : (t u : Bool) → cond t (cond u (id_of (key_cell line)) None) None ≡ Some d → (d.family < 4) × (1 ≤ d.index) × (d.index ≤ 64)
    go true true e = id_range (key_cell line) d e
    go true false e = absurd (let z : ◌≡◌ {A = ℕ} 0 1 = cc in omega arith)
    go false u e = absurd (let z : ◌≡◌ {A = ℕ} 0 1 = cc in omega arith)

-- ONE FLAG more
pub start_flags : Flags (replicate 4 (replicate 64 false))
start_flags = record { families = refl; indices = λ f h. ap length (get_or-replicate 4 f (replicate 64 false) [] h) }

start_clear : (f i : ℕ) → f < 4 → i < 64 → flag (replicate 4 (replicate 64 false)) f i ≡ false
start_clear f i hf hi = ap (λ (r : List Bool). get_or r i false) (get_or-replicate 4 f (replicate 64 false) [] hf) ∙ get_or-replicate 64 i false false hi

module _ (t : List (List Bool)) (is : Flags t) (g j : ℕ) (hg : g < 4) (hj : j < 64) where
  abbrev new : List (List Bool)
  new = set t g (set (get_or t g []) j true)

  row : get_or new g [] ≡ set (get_or t g []) j true
  row = get_or-set_same t g (set (get_or t g []) j true) [] (omega (arith, is.families))

  set_same : flag new g j ≡ true
  set_same = ap (λ (r : List Bool). get_or r j false) row ∙ get_or-set_same (get_or t g []) j true false (omega (arith, is.indices g hg))

  other_i : (i : ℕ) → (i ≡ j → ⊥) → flag new g i ≡ flag t g i
  other_i i ne = ap (λ (r : List Bool). get_or r i false) row ∙ get_or-set_other (get_or t g []) j i true false ne

  other_f : (f i : ℕ) → (f ≡ g → ⊥) → flag new f i ≡ flag t f i
  other_f f i ne = ap (λ (r : List Bool). get_or r i false) (get_or-set_other t g f (set (get_or t g []) j true) [] ne)

  set_flags : Flags new
  set_flags =
      record {
        families = length-set t g (set (get_or t g []) j true) ∙ is.families;
        indices = λ f h. go f h (eqb f g) refl;
      }
    where
      go : (f : ℕ) → f < 4 → (b : Bool) → eqb f g ≡ b → length (get_or new f []) ≡ 64
      go f h true e =
          subst⁻¹ (λ (x : ℕ). length (get_or new x []) ≡ 64) (eqb-true f g e)
          (ap length row ∙ length-set (get_or t g []) j true ∙ is.indices g hg)
      go f h false e = ap length (get_or-set_other t g f (set (get_or t g []) j true) [] (eqb-false f g e)) ∙ is.indices f h

  set_flag : (f i : ℕ) → (p q : Bool) → eqb g f ≡ p → eqb j i ≡ q → flag new f i ≡ (flag t f i || (p && q))
  set_flag f i true true ef ei =
      let e : f ≡ g = sym (eqb-true g f ef) in
      let d : i ≡ j = sym (eqb-true j i ei) in
      subst⁻¹ (λ (x : ℕ). flag new x i ≡ true) e (subst⁻¹ (λ (y : ℕ). flag new g y ≡ true) d set_same) ∙ sym (or-true (flag t f i))
  set_flag f i true false ef ei =
      let e : f ≡ g = sym (eqb-true g f ef) in
      subst⁻¹ (λ (x : ℕ). flag new x i ≡ flag t x i) e (other_i i (λ (x : i ≡ j). eqb-false j i ei (sym x))) ∙ sym (or-false (flag t f i))
  set_flag f i false q ef ei = other_f f i (λ (x : f ≡ g). eqb-false g f ef (sym x)) ∙ sym (or-false (flag t f i))

module _ (t : List (List Bool)) (is : Flags t) (d : Option Id) (range : (x : Id) → d ≡ Some x → (x.family < 4) × (1 ≤ x.index) × (x.index ≤ 64)) where
  pub marked_flags : Flags (marked t d)
  unfolding marked
  marked_flags = go d refl
    where
      go : (x : Option Id) → d ≡ x → Flags (marked t x)
      go None e = is
      go (Some x) e = let r = range x e in set_flags t is x.family (x.index - 1) r.0 (omega (arith, r.1, r.2))

  pub marked_flag : (f i : ℕ) → flag (marked t d) f i ≡ (flag t f i || is_id d f (i + 1))
  unfolding marked is_id
  marked_flag f i = go d refl
    where
      shift : (j : ℕ) → 1 ≤ j → eqb (j - 1) i ≡ eqb j (i + 1)
      shift j lo = by (eqb j (i + 1)) refl
        where
          by : (b : Bool) → eqb j (i + 1) ≡ b → eqb (j - 1) i ≡ b
          by true e = let q = eqb-true j (i + 1) e in eq-eqb (j - 1) i (omega arith)
          by false e = ne_eqb (j - 1) i (λ (x : j - 1 ≡ i). eqb-false j (i + 1) e (omega arith))

      go : (x : Option Id) → d ≡ x → flag (marked t x) f i ≡ (flag t f i || is_id x f (i + 1))
      go None e = sym (or-false (flag t f i))
      go (Some x) e =
          let r = range x e in
          set_flag t is x.family (x.index - 1) r.0 (omega (arith, r.1, r.2)) f i (eqb x.family f) (eqb (x.index - 1) i) refl refl
          ∙ ap (λ (b : Bool). flag t f i || (eqb x.family f && b)) (shift x.index r.1)

-- ALL LINES: the flags so far and the lines that are left decide
abbrev pub Left : Book → List (List Bool) → List ℕ → ℕ → Type 0
Left book t file at = (f i : ℕ) → f < 4 → i < 64 → declared book file f (i + 1) ≡ (flag t f i || any (declares book f (i + 1)) (lines (drop at file)))

pub left_start : (book : Book) (file : List ℕ) → Left book (replicate 4 (replicate 64 false)) file 0
unfolding declared
left_start book file f i hf hi = ap (λ (b : Bool). b || any (declares book f (i + 1)) (lines file)) (sym (start_clear f i hf hi))

pub left_next : (book : Book) (t : List (List Bool)) (file : List ℕ) (at end next : ℕ) → Flags t → LineAt file at end next → Left book t file at
    → Left book (marked t (line_id book (part at end file))) file next
unfolding any
left_next book t file at end next is cut left f i hf hi =
    let line = part at end file in
    let rest = any (declares book f (i + 1)) (lines (drop next file)) in
    left f i hf hi
    ∙ ap (λ (ls : List (List ℕ)). flag t f i || any (declares book f (i + 1)) ls) cut.cut
    ∙ sym (or_assoc (flag t f i) (declares book f (i + 1) line) rest)
    ∙ ap (λ (b : Bool). (flag t f i || b) || rest) (declares_is book line f (i + 1) hf (omega arith) (omega arith))
    ∙ ap (λ (b : Bool). b || rest) (sym (marked_flag t is (line_id book line) (line_range book line) f i))

pub left_done : (book : Book) (t : List (List Bool)) (file : List ℕ) (at : ℕ) → length file ≤ at → Flags t → Left book t file at → Declared book t file
unfolding any
left_done book t file at h is left =
    record {
      shape = is;
      flags = λ f i hf hi. sym (left f i hf hi ∙ ap (λ (ls : List (List ℕ)). flag t f i || any (declares book f (i + 1)) ls) (lines_done file at h) ∙ or-false (flag t f i));
    }
