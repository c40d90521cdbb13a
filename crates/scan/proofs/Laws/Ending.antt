-- Required metadata, by the slots of all lines, the ids, the facts and the sections present: rules 21 and 22. Assumes nothing.
use mathlib.Core.Path.{◌≡◌, refl, sym, ap, ◌∙◌}
use mathlib.Core.Bool.{Bool, true, false, cond, ◌&&◌, ◌||◌, and-true, or-false}
use mathlib.Core.List.{List, [], ◌∷◌, ◌++◌, map}
use mathlib.Core.Logic.{◌⊎◌, inl, inr, ⊎_elim}
use Prim.Native.String.{String}
use Prim.Native.Nat.{ℕ, zero, suc, ◌+◌, ◌-◌, ◌≤◌, ◌<◌}
use native.Mathlib.Omega.{arith, by_contra}
use lib.Dec.{eqb, leb, ltb}
use lib.ListN.{length, get_or, drop, length-map, get_or-map}
use borrow.Author.Tests.{eq-eqb, ne_eqb, eqb-true, eqb-false, le-leb, lt-ltb, leb-true, ltb-true}
use Rattle.std.specs.Prelude.{Ok, Err}
use Rattle.text_bytes.specs.Bytes.{Bytes, bytes, any, all, count}
use Rattle.text_bytes.proofs.Laws.Same.{same_equal}
use Rattle.text_bytes.proofs.Laws.Tests.{and_both}
use Rattle.text.specs.Lines.{cell, is_field}
use Rattle.book_names.specs.Names.{Entry, entry_of, form_of, pieces_from, pieces, start_of, slot_of, Found, known_as}
use Rattle.book.specs.Letters.{ASSAYS}
use Rattle.book_ids.specs.Ids.{declares, is_marked}
use Rattle.book_facts.specs.Asked.{is_declared, asked_of}
use Rattle.value_references.specs.Index.{MOST}
use Rattle.book_names.proofs.Laws.Known.{Of, known_of, holes, nth, among_one, start_rise, start_mono, slot_before, slot_inside, slot_apart}
use Rattle.book.specs.Book.{SECTIONS, SLOTS, Demand, ONCE, Want, want, cell_of, up_from, wants_of, wants_in, wants, Book, has_form, key_of, key_entries}
use Rattle.book.specs.Text.{entry_for}
use Rattle.book.proofs.Laws.Sized.{is_each, is_late, is_sound, sound_one, sound_each, sound_section, sound_late, each_places, each_family, Sized}
use Rattle.rules.specs.Breaks.{Break, break_at, when, at_cell, at_end}
use Rattle.rules.specs.Rules.{key_found, is_present, is_for, is_asked, is_wanted, has_key, is_unmet, end_rules, ends}
use Rattle.scan.specs.Machine.{is_slot, has_slot, Marks, ids_of, Declares, Seen, SeenOf, is_asked_in, is_for_in, first_slot, end_slot, is_lacking, want_breaks, end_breaks}
use Rattle.scan.proofs.Laws.Rowing.{test_eq}
use Rattle.scan.proofs.Laws.Keeping.{any_alike}
use Rattle.scan.proofs.Laws.Demanding.{any_up, up_any, listed, cells_listed, cells_demanded}

-- A RANGE

-- two tests that agree on a range
any_within : (f g : ℕ → Bool) (n k : ℕ) → ((i : ℕ) → k ≤ i → i < k + n → f i ≡ g i) → any f (up_from n k) ≡ any g (up_from n k)
unfolding any up_from
any_within f g zero k h = refl
any_within f g (suc n) k h = rw (h k (omega arith) (omega arith), any_within f g n (suc k) (λ i a b. h i (omega arith) (omega arith)))

-- SOME OF SOME

any_false : {A : Type 0} (xs : List A) → any (λ (x : A). false) xs ≡ false
unfolding any
any_false [] = refl
any_false (x ∷ xs) = any_false xs

any_or : {A : Type 0} (f g : A → Bool) (xs : List A) → any (λ (x : A). f x || g x) xs ≡ (any f xs || any g xs)
unfolding any
any_or f g [] = refl
any_or f g (x ∷ xs) = rw (any_or f g xs) (go (f x) (g x) (any f xs) (any g xs))
  where
    go : (a b c d : Bool) → ((a || b) || (c || d)) ≡ ((a || c) || (b || d))
    go true b c d = refl
    go false true true d = refl
    go false true false d = refl
    go false false c d = refl

any_swap : {A B : Type 0} (p : A → B → Bool) (xs : List A) (ys : List B) → any (λ (x : A). any (p x) ys) xs ≡ any (λ (y : B). any (λ (x : A). p x y) xs) ys
unfolding any
any_swap p [] ys = sym (any_false ys)
any_swap p (x ∷ xs) ys = rw (any_swap p xs ys) (sym (any_or (p x) (λ y. any (λ z. p z y) xs) ys))

any_both : {A : Type 0} (a : Bool) (f : A → Bool) (xs : List A) → any (λ (x : A). a && f x) xs ≡ (a && any f xs)
any_both true f xs = refl
any_both false f xs = any_false xs

-- THE ENTRY OF A FORM, where just one key has it

none_has : (p : String → Bool) (ks : List String) (e : ℕ) → count p ks ≡ 0 → e < length ks → p (get_or ks e "") ≡ false
unfolding count
none_has p [] e h l = absurd (omega arith)
none_has p (k ∷ ks) e h l = go (p k) refl e l h (none_has p ks)
  where
    go : (t : Bool) → p k ≡ t → (e : ℕ) → e < suc (length ks) → cond t (suc (count p ks)) (count p ks) ≡ 0 → ((e : ℕ) → count p ks ≡ 0 → e < length ks → p (get_or ks e "") ≡ false)
        → p (get_or (k ∷ ks) e "") ≡ false
    go true q e m z f = absurd (omega arith)
    go false q zero m z f = q
    go false q (suc e) m z f = f e z (omega arith)

one_entry : (form : String) (ks : List String) (e : ℕ) → count (has_form form) ks ≡ 1 → e < length ks → has_form form (get_or ks e "") ≡ eqb e (entry_for ks form)
unfolding count entry_for
one_entry form [] e h l = absurd (omega arith)
one_entry form (k ∷ ks) e h l = go (has_form form k) refl e l h (one_entry form ks)
  where
    go : (t : Bool) → has_form form k ≡ t → (e : ℕ) → e < suc (length ks) → cond t (suc (count (has_form form) ks)) (count (has_form form) ks) ≡ 1
        → ((e : ℕ) → count (has_form form) ks ≡ 1 → e < length ks → has_form form (get_or ks e "") ≡ eqb e (entry_for ks form))
        → has_form form (get_or (k ∷ ks) e "") ≡ eqb e (cond t 0 (suc (entry_for ks form)))
    go true q zero m z f = q
    go true q (suc e) m z f = none_has (has_form form) ks e (omega arith) (omega arith) ∙ sym (ne_eqb (suc e) 0 (λ x. omega arith))
    go false q zero m z f = q ∙ sym (ne_eqb 0 (suc (entry_for ks form)) (λ x. omega arith))
    go false q (suc e) m z f = f e z (omega arith) ∙ next (eqb e (entry_for ks form)) refl
      where
        next : (t : Bool) → eqb e (entry_for ks form) ≡ t → t ≡ eqb (suc e) (suc (entry_for ks form))
        next true x = sym (eq-eqb (suc e) (suc (entry_for ks form)) (ap suc (eqb-true e (entry_for ks form) x)))
        next false x = sym (ne_eqb (suc e) (suc (entry_for ks form)) (λ y. eqb-false e (entry_for ks form) x (omega arith)))

pub entry_inside : (form : String) (ks : List String) → count (has_form form) ks ≡ 1 → entry_for ks form < length ks
unfolding count entry_for
entry_inside form [] h = absurd (omega arith)
entry_inside form (k ∷ ks) h = go (has_form form k) h (entry_inside form ks)
  where
    go : (t : Bool) → cond t (suc (count (has_form form) ks)) (count (has_form form) ks) ≡ 1 → (count (has_form form) ks ≡ 1 → entry_for ks form < length ks)
        → cond t 0 (suc (entry_for ks form)) < suc (length ks)
    go true z f = omega arith
    go false z f = omega (arith, f z)

-- THE SLOTS OF AN ENTRY

-- a number in a range
range_any : (x n k : ℕ) → any (λ s. eqb x s) (up_from n k) ≡ (leb k x && ltb x (k + n))
range_any x n k = test_eq (any (λ s. eqb x s) (up_from n k)) (leb k x && ltb x (k + n)) there back
  where
    there : any (λ s. eqb x s) (up_from n k) ≡ true → (leb k x && ltb x (k + n)) ≡ true
    there h =
        let r = up_any (λ s. eqb x s) n k h in
        let z = eqb-true x r.0 r.1.1.1 in
        rw (le-leb k x (omega (arith, r.1.0)), lt-ltb x (k + n) (omega (arith, r.1.1.0)))

    back : (leb k x && ltb x (k + n)) ≡ true → any (λ s. eqb x s) (up_from n k) ≡ true
    back h =
        let q = and_both (leb k x) (ltb x (k + n)) h in
        any_up (λ s. eqb x s) n k x (leb-true k x q.0) (ltb-true x (k + n) q.1) (eq-eqb x x refl)

module _ (es : List Entry) (E : ℕ) (hE : E < length es) where
  abbrev from : ℕ
  from = start_of es E

  abbrev many : ℕ
  many = start_of es (E + 1) - start_of es E

  -- they are those of the names that are found at it
  entry_range : (e i j : ℕ) → Of es e i j → any (λ s. eqb (slot_of es e i j) s) (up_from many from) ≡ eqb e E
  entry_range e i j o =
      range_any (slot_of es e i j) many from
      ∙ test_eq (leb from (slot_of es e i j) && ltb (slot_of es e i j) (from + many)) (eqb e E) there back
    where
      up : start_of es E ≤ start_of es (E + 1)
      up = omega (arith, start_rise es E (E + 1) (omega arith) (omega arith))

      there : (leb from (slot_of es e i j) && ltb (slot_of es e i j) (from + many)) ≡ true → eqb e E ≡ true
      there h =
          let q = and_both (leb from (slot_of es e i j)) (ltb (slot_of es e i j) (from + many)) h in
          let lo = leb-true from (slot_of es e i j) q.0 in
          let hi = ltb-true (slot_of es e i j) (from + many) q.1 in
          let a : E ≤ e = by_contra E e (λ m. omega (arith, slot_before es e i j o E m (omega arith), lo)) in
          let b : e ≤ E = by_contra e E (λ m. omega (arith, hi, up, start_mono es (E + 1) e (omega arith) (omega (arith, o.inside)))) in
          eq-eqb e E (omega arith)

      back : eqb e E ≡ true → (leb from (slot_of es e i j) && ltb (slot_of es e i j) (from + many)) ≡ true
      back t =
          let z = eqb-true e E t in
          let s : start_of es e ≡ start_of es E = ap (start_of es) z in
          let lt = slot_before es e i j o (E + 1) (omega arith) (omega arith) in
          rw (le-leb from (slot_of es e i j) (omega (arith, s)), lt-ltb (slot_of es e i j) (from + many) (omega (arith, lt, up)))

-- A RANGE that begins one further on
any_shift : (f g : ℕ → Bool) (n k : ℕ) → ((i : ℕ) → k ≤ i → i < k + n → f i ≡ g (suc i)) → any f (up_from n k) ≡ any g (up_from n (suc k))
unfolding any up_from
any_shift f g zero k h = refl
any_shift f g (suc n) k h = rw (h k (omega arith) (omega arith), any_shift f g n (suc k) (λ i a b. h i (omega arith) (omega arith)))

-- SOUND: a demand of just one key; what it wants for an id has one place, and the id is of a family
unfoldable is_fit : List String → Want → Bool
is_fit ks w = is_sound ks w.demand && (eqb w.index 0 || (is_each w.demand && (leb 1 w.index && leb w.index MOST)))

fit_up : (ks : List String) (d : Demand) (n k : ℕ) → is_sound ks d ≡ true → is_each d ≡ true → 1 ≤ k → k + n ≤ suc MOST → all (is_fit ks) (map (want d) (up_from n k)) ≡ true
unfolding all up_from is_fit
fit_up ks d zero k s e lo hi = refl
fit_up ks d (suc n) k s e lo hi =
    let z : k ≡ 0 → ⊥ = λ (q : k ≡ 0). omega arith in
    rw (s, ne_eqb k 0 z, e, le-leb 1 k lo, le-leb k MOST (omega arith)) (fit_up ks d n (suc k) s e (omega arith) (omega arith))

all_append : {A : Type 0} (p : A → Bool) (xs ys : List A) → all p xs ≡ true → all p ys ≡ true → all p (xs ++ ys) ≡ true
unfolding all
all_append p [] ys h k = k
all_append p (x ∷ xs) ys h k = let q = and_both (p x) (all p xs) h in rw q.0 (all_append p xs ys q.1 k)

fit_of : (ks : List String) (d : Demand) → is_sound ks d ≡ true → all (is_fit ks) (wants_of d) ≡ true
unfolding wants_of all is_fit
fit_of ks d s = go (eqb d.each ONCE) refl
  where
    go : (t : Bool) → eqb d.each ONCE ≡ t → all (is_fit ks) (cond t (want d 0 ∷ []) (map (want d) (up_from MOST 1))) ≡ true
    go true e = rw s
    go false e = fit_up ks d MOST 1 s (sound_each ks d s e) (omega arith) (omega arith)

fit_in : (ks : List String) (ds : List Demand) → all (is_sound ks) ds ≡ true → all (is_fit ks) (wants_in ds) ≡ true
unfolding wants_in all
fit_in ks [] h = refl
fit_in ks (d ∷ ds) h =
    let q = and_both (is_sound ks d) (all (is_sound ks) ds) h in
    all_append (is_fit ks) (wants_of d) (wants_in ds) (fit_of ks d q.0) (fit_in ks ds q.1)

-- THE SLOTS OF WHAT IS WANTED are those of the keys that meet it
module _ (b : Book) (sized : Sized b) (w : Want) (sound : is_sound b.keys w.demand ≡ true) where
  abbrev es : List Entry
  es = key_entries b

  abbrev E : ℕ
  E = entry_for b.keys w.demand.form

  one : count (has_form w.demand.form) b.keys ≡ 1
  one = sound_one b.keys w.demand sound

  keys_many : length es ≡ length b.keys
  keys_many = length-map (map bytes b.keys) entry_of ∙ length-map b.keys bytes

  pub inside : E < length es
  inside = omega (arith, entry_inside w.demand.form b.keys one, keys_many)

  -- the one entry of the form has its places
  its_form : has_form w.demand.form (get_or b.keys E "") ≡ true
  its_form = one_entry w.demand.form b.keys E one (omega (arith, inside, keys_many)) ∙ eq-eqb E E refl

  its_entry : nth es E ≡ entry_of (bytes (get_or b.keys E ""))
  unfolding entry_of pieces_from bytes
  its_entry = get_or-map entry_of (map bytes b.keys) E [] ∙ ap entry_of (get_or-map bytes b.keys E "")

  its_places : form_of (nth es E) ≡ pieces (bytes w.demand.form)
  unfolding entry_of has_form
  its_places = ap form_of its_entry ∙ ap pieces (same_equal (drop 3 (bytes (get_or b.keys E ""))) (bytes w.demand.form) its_form)

  abbrev begin : ℕ
  begin = first_slot b w

  abbrev span : ℕ
  span = end_slot b w - first_slot b w

  -- for any line with such a key
  any_slot : w.index ≡ 0 → (e k f i j : ℕ) → Of es e i j → any (λ s. is_slot b s (known_as e k f i j)) (up_from span begin) ≡ is_wanted b w (known_as e k f i j)
  any_slot z e k f i j o =
      let a : start_of es E + (w.index - 1) ≡ start_of es E = omega arith in
      rw (eq-eqb w.index 0 z, a, and-true (has_form w.demand.form (get_or b.keys e "")))
      (entry_range es E inside e i j o ∙ sym (one_entry w.demand.form b.keys e one (omega (arith, o.inside, keys_many))))

  -- for an id: the slot with its index
  module _ (each : is_each w.demand ≡ true) (low : 1 ≤ w.index) (high : w.index ≤ MOST) where
    its_one : holes (form_of (nth es E)) ≡ 1
    its_one = ap holes its_places ∙ each_places w.demand each

    its_shape : Of es E w.index 0
    its_shape = record { inside = inside; shape = record { few = omega (arith, its_one); i_high = high; i_most = omega (arith, its_one); i_least = omega (arith, its_one); j_most = omega arith; j_least = omega (arith, its_one) } }

    id_slot : (e k f i j : ℕ) → Of es e i j → any (λ s. is_slot b s (known_as e k f i j)) (up_from span begin) ≡ is_wanted b w (known_as e k f i j)
    unfolding any up_from
    id_slot e k f i j o =
        let n : w.index ≡ 0 → ⊥ = λ (q : w.index ≡ 0). omega arith in
        let m : begin + 1 - begin ≡ 1 = omega arith in
        rw (ne_eqb w.index 0 n, m, or-false (eqb (slot_of es e i j) begin), one_entry w.demand.form b.keys e one (omega (arith, o.inside, keys_many)))
        (test_eq (eqb (slot_of es e i j) begin) (eqb e E && eqb w.index i) there back)
      where
        there : eqb (slot_of es e i j) begin ≡ true → (eqb e E && eqb w.index i) ≡ true
        there h =
            let q = slot_apart es e i j E w.index 0 o its_shape (eqb-true (slot_of es e i j) begin h) in
            rw (eq-eqb e E q.0, eq-eqb w.index i (sym q.1))

        back : (eqb e E && eqb w.index i) ≡ true → eqb (slot_of es e i j) begin ≡ true
        back h =
            let q = and_both (eqb e E) (eqb w.index i) h in
            let x = eqb-true e E q.0 in
            let y = eqb-true w.index i q.1 in
            let s = o.shape in
            let p : holes (form_of (nth es e)) ≡ 1 = ap (λ (n : ℕ). holes (form_of (nth es n))) x ∙ its_one in
            let v : j ≡ 0 = omega (arith, s.j_most) in
            eq-eqb (slot_of es e i j) begin (omega (arith, among_one i j v, ap (start_of es) x))

  module _ (ways : (w.index ≡ 0) ⊎ ((is_each w.demand ≡ true) × (1 ≤ w.index) × (w.index ≤ MOST))) where
    form_slot : (m : Bytes) (r : Found) → key_found b m ≡ r → any (λ s. is_slot b s r) (up_from span begin) ≡ is_wanted b w r
    unfolding key_of
    form_slot m (Err u) q = any_false (up_from span begin)
    form_slot m (Ok k) q =
        let o = known_of es (cell 2 m) k.entry k.kind k.family k.i k.j q in
        ⊎_elim (λ z. any_slot z k.entry k.kind k.family k.i k.j o) (λ z. id_slot z.0 z.1 z.2 k.entry k.kind k.family k.i k.j o) ways

    line_slot : (m : Bytes) → any (λ s. has_slot b s m) (up_from span begin) ≡ has_key b w m
    unfolding has_slot has_key
    line_slot m = any_both (is_field m) (λ s. is_slot b s (key_found b m)) (up_from span begin) ∙ rw (form_slot m (key_found b m) refl)

    -- the slots are among all
    pub slots_below : (first_slot b w ≤ end_slot b w) × (end_slot b w ≤ SLOTS)
    slots_below =
        ⊎_elim
        (λ (z : w.index ≡ 0). rw (eq-eqb w.index 0 z) (omega (arith, next), omega (arith, all, sized.slots)))
        (λ (z : (is_each w.demand ≡ true) × (1 ≤ w.index) × (w.index ≤ MOST)).
        let n : w.index ≡ 0 → ⊥ = λ (q : w.index ≡ 0). omega (arith, z.1) in
        rw (ne_eqb w.index 0 n) (omega arith, omega (arith, slot_inside es E w.index 0 (its_shape z.0 z.1 z.2), sized.slots)))
        ways
      where
        next : start_of es E ≤ start_of es (E + 1)
        next = start_mono es E (E + 1) (omega arith) (omega (arith, inside))

        all : start_of es (E + 1) ≤ start_of es (length es)
        all = start_mono es (E + 1) (length es) (omega (arith, inside)) (omega arith)

    pub marked_means : (F : List Bytes) (slots : List Bool) → Marks b F slots → is_marked slots (first_slot b w) (end_slot b w) ≡ any (has_key b w) F
    unfolding is_marked
    marked_means F slots h =
        any_within (λ s. get_or slots s false) (λ s. any (has_slot b s) F) span begin (λ s l m. h s (omega (arith, slots_below)))
        ∙ any_swap (λ s m. has_slot b s m) (up_from span begin) F
        ∙ any_alike (λ m. any (λ s. has_slot b s m) (up_from span begin)) (has_key b w) line_slot F

-- WHAT IS PUT AT THE END is what rules 21 and 22 give
pub assays_are : (b : Book) (F : List Bytes) (flags : List (List Bool)) → Declares b F (ids_of flags) → is_marked (get_or flags ASSAYS []) 0 MOST ≡ is_declared b F ASSAYS
unfolding is_marked
assays_are b F flags h =
    any_shift (λ s. get_or (get_or flags ASSAYS []) s false) (λ i. any (declares b ASSAYS i) F) MOST 0
    (λ i a l. let z : i ≡ suc i - 1 = omega arith in ap (λ (k : ℕ). get_or (get_or flags ASSAYS []) k false) z ∙ h ASSAYS (suc i) (omega arith) (omega arith) (omega arith))

module _ (b : Book) (sized : Sized b) (F : List Bytes) (x : Seen) (h : SeenOf b F x) where
  asked_is : (w : Want) → w.demand.section < SECTIONS → is_asked_in x w.demand ≡ (asked_of b F w.demand.asked && is_present b F w.demand.section)
  unfolding is_asked_in
  asked_is w l = rw (assays_are b F x.flags h.ids, h.mode, h.typed, h.present w.demand.section l)

  for_is : (w : Want) → (w.index ≡ 0) ⊎ ((is_each w.demand ≡ true) × (1 ≤ w.index) × (w.index ≤ MOST)) → is_for_in x w ≡ is_for b F w
  for_is w ways =
      ⊎_elim
      (λ (z : w.index ≡ 0). rw (eq-eqb w.index 0 z))
      (λ (z : (is_each w.demand ≡ true) × (1 ≤ w.index) × (w.index ≤ MOST)). rw (h.ids w.demand.each w.index (each_family w.demand z.0) z.1 z.2))
      ways

  fit_ways : (w : Want) → is_fit b.keys w ≡ true → (w.index ≡ 0) ⊎ ((is_each w.demand ≡ true) × (1 ≤ w.index) × (w.index ≤ MOST))
  unfolding is_fit
  fit_ways w f = go (eqb w.index 0) refl (and_both (is_sound b.keys w.demand) (eqb w.index 0 || (is_each w.demand && (leb 1 w.index && leb w.index MOST))) f).1
    where
      go : (t : Bool) → eqb w.index 0 ≡ t → (t || (is_each w.demand && (leb 1 w.index && leb w.index MOST))) ≡ true
          → (w.index ≡ 0) ⊎ ((is_each w.demand ≡ true) × (1 ≤ w.index) × (w.index ≤ MOST))
      go true e m = inl (eqb-true w.index 0 e)
      go false e m =
          let p = and_both (is_each w.demand) (leb 1 w.index && leb w.index MOST) m in
          let q = and_both (leb 1 w.index) (leb w.index MOST) p.1 in
          inr (p.0, leb-true 1 w.index q.0, leb-true w.index MOST q.1)

  fit_sound : (w : Want) → is_fit b.keys w ≡ true → is_sound b.keys w.demand ≡ true
  unfolding is_fit
  fit_sound w f = (and_both (is_sound b.keys w.demand) (eqb w.index 0 || (is_each w.demand && (leb 1 w.index && leb w.index MOST))) f).0

  -- one by one
  lacking_is : (w : Want) → is_fit b.keys w ≡ true → is_lacking b x w ≡ is_unmet b F w
  unfolding is_lacking is_unmet is_asked
  lacking_is w f =
      let s = fit_sound w f in
      let ways = fit_ways w f in
      rw (asked_is w (sound_section b.keys w.demand s), for_is w ways, marked_means b sized w s ways F x.slots h.slots)

  puts_listed : (n : ℕ) (ws : List Want) → all (is_fit b.keys) ws ≡ true → (rest : List Break) → want_breaks b x n ws rest ≡ listed (is_unmet b F) n ws ++ rest
  unfolding want_breaks listed all
  puts_listed n [] o rest = refl
  puts_listed n (w ∷ ws) o rest =
      let q = and_both (is_fit b.keys w) (all (is_fit b.keys) ws) o in
      rw (lacking_is w q.0, puts_listed n ws q.1 rest) (front (is_unmet b F w) (break_at n (cell_of w) w.demand.rule) (listed (is_unmet b F) n ws) rest)
    where
      front : (t : Bool) (x : Break) (bs rest : List Break) → when t x (bs ++ rest) ≡ when t x bs ++ rest
      front true x bs rest = refl
      front false x bs rest = refl

  fit_late : (ws : List Want) → all (is_fit b.keys) ws ≡ true → all (λ w. is_late w.demand) ws ≡ true
  unfolding all
  fit_late [] o = refl
  fit_late (w ∷ ws) o =
      let q = and_both (is_fit b.keys w) (all (is_fit b.keys) ws) o in
      rw (sound_late b.keys w.demand (fit_sound w q.0)) (fit_late ws q.1)

  pub end_means : (rest : List Break) → end_breaks b x (length F + 1) rest ≡ at_end (end_rules b) (ends b) F ++ rest
  unfolding at_end end_rules at_cell
  end_means rest =
      let fit = fit_in b.keys b.demands sized.sound in
      puts_listed (length F + 1) (wants b) fit rest
      ∙ ap (λ (bs : List Break). bs ++ rest) (sym (cells_demanded (is_unmet b F) (length F + 1) b.demands (ends b) 1 ∙ cells_listed (is_unmet b F) (length F + 1) (ends b) 0 (wants b) (fit_late (wants b) fit) sized.order (omega arith)))
