-- The state follows the lines: what is carried stands for the lines above, before the first line and after each. Assumes nothing.
use mathlib.Core.Path.{◌≡◌, refl, sym, ap, ◌∙◌}
use mathlib.Core.Bool.{Bool, true, false, cond, ◌||◌, or-false, or-true, or_assoc}
use mathlib.Core.List.{List, [], ◌∷◌, ◌++◌}
use Prim.Native.Nat.{ℕ, zero, suc, ◌+◌, ◌<◌}
use native.Mathlib.Nat.{not-suc-le-zero}
use native.Mathlib.Omega.{arith}
use lib.Dec.{eqb, ltb}
use lib.Seq.{get_or-set_same, get_or-set_other}
use lib.ListN.{length, get_or, set, length-set}
use borrow.Author.Tests.{eq-eqb, ne_eqb, lt-ltb, le-ltb, ltb-true, ltb-false, eqb-true, eqb-false}
use Rattle.text_bytes.specs.Bytes.{Bytes, any, first_from, first_kept, is_empty, split_on}
use Rattle.text_bytes.proofs.Laws.Firsts.{first_more}
use Rattle.text.specs.Lines.{width}
use Rattle.rules.specs.Sorts.{sort_of, header_in, row_in, header, row, is_header, is_table}
use Rattle.rules.specs.Rules.{of_section, of_later, nearer, nearest, nearest_in, in_section, is_present}
use Rattle.scan.specs.Machine.{has_slot, header_slot, Slots, Headers}
use Rattle.scan.specs.Carried.{initial, after_header, sort_state, Stands, Follows}
use Rattle.scan.specs.declared.state.State.{State}
use Rattle.rules.specs.declared.sorts.Sort.{Sort}
use Rattle.book_facts.specs.declared.Asking.{Asking}
use Rattle.rules.specs.declared.sorts.Sort.TheVariants.{Silent, Unknown, Meta, Header, Row}
use Rattle.rules.proofs.Laws.Sorting.{header_section, row_section_lem}
use Rattle.scan.proofs.Laws.Celling.{any_one_more}
use Rattle.book.specs.Book.{SECTIONS, Book}
use Rattle.book.proofs.Laws.Sized.{Sized}

pub nearest_append : (book : Book) (xs : List Bytes) (x found : Bytes) → nearest_in book (xs ++ (x ∷ [])) found ≡ nearer book x (nearest_in book xs found)
unfolding nearest_in
nearest_append book [] x found = refl
nearest_append book (y ∷ ys) x found = nearest_append book ys x (nearer book y found)

-- BEFORE THE FIRST LINE
pub stands_start : (book : Book) (a : Asking) (kinds slots : List ℕ) → ((i : ℕ) → get_or slots i 0 ≡ 0) → Stands book [] (initial a) kinds slots
unfolding any first_from nearest_in sort_of is_empty split_on is_present
stands_start book a kinds slots empty = record {
  headers = λ i p h. empty (header_slot i);
  present = λ i h. only_zero i;
  presents = refl;
  highest = λ h. le-ltb h 0 (omega arith);
  section = refl;
  width = refl;
  table = refl;
  columns = λ w i h. absurd (not-suc-le-zero h);
  keys = λ i h. empty i;
}
  where
    only_zero : (i : ℕ) → get_or (true ∷ false ∷ false ∷ false ∷ false ∷ []) i false ≡ (eqb i 0 || false)
    only_zero zero = refl
    only_zero (suc i) = none_after i ∙ sym (rw (ne_eqb (suc i) 0 (λ e. omega arith)))
      where
        none_after : (i : ℕ) → get_or (false ∷ false ∷ false ∷ false ∷ []) i false ≡ false
        none_after zero = refl
        none_after (suc zero) = refl
        none_after (suc (suc zero)) = refl
        none_after (suc (suc (suc zero))) = refl
        none_after (suc (suc (suc (suc i)))) = refl

-- SECTIONS PRESENT, with one line more
present_append : (book : Book) (above : List Bytes) (l : Bytes) (i : ℕ) → is_present book (above ++ (l ∷ [])) i ≡ (is_present book above i || in_section book i l)
unfolding is_present
present_append book above l i = rw (any_one_more (in_section book i) above l) (sym (or_assoc (eqb i 0) (any (in_section book i) above) (in_section book i l)))

zero_present : (book : Book) (above : List Bytes) (i : ℕ) → i ≡ 0 → is_present book above i ≡ true
unfolding is_present
zero_present book above i e = rw (eq-eqb i 0 e)

-- a line of no section changes nothing
present_same : (book : Book) (above : List Bytes) (l : Bytes) (i : ℕ) → header book l ≡ 0 → row book l ≡ 0 → is_present book (above ++ (l ∷ [])) i ≡ is_present book above i
present_same book above l i z w = present_append book above l i ∙ go (eqb i 0) refl
  where
    go : (t : Bool) → eqb i 0 ≡ t → (is_present book above i || in_section book i l) ≡ is_present book above i
    go true e = let q = zero_present book above i (eqb-true i 0 e) in rw q
    go false e = rw (z, w, ne_eqb 0 i (λ q. eqb-false i 0 e (sym q))) (or-false (is_present book above i))

-- one of section r makes it present
module _ (book : Book) (above : List Bytes) (l : Bytes) (present : List Bool) (r : ℕ) (low : 0 < r) (room : r < length present)
    (stands : (i : ℕ) → i < SECTIONS → get_or present i false ≡ is_present book above i) (its : (i : ℕ) → 0 < i → in_section book i l ≡ eqb r i) where
  present_set : (i : ℕ) → i < SECTIONS → get_or (set present r true) i false ≡ is_present book (above ++ (l ∷ [])) i
  present_set i h = go (eqb r i) refl ∙ sym (present_append book above l i)
    where
      other : (t : Bool) → eqb i 0 ≡ t → eqb r i ≡ false → is_present book above i ≡ (is_present book above i || in_section book i l)
      other true e q = let p = zero_present book above i (eqb-true i 0 e) in rw p
      other false e q = let n = eqb-false i 0 e in rw (its i (omega arith), q) (sym (or-false (is_present book above i)))

      go : (t : Bool) → eqb r i ≡ t → get_or (set present r true) i false ≡ (is_present book above i || in_section book i l)
      go true e =
          let q : i ≡ r = sym (eqb-true r i e) in
          ap (λ (k : ℕ). get_or (set present r true) k false) q ∙ get_or-set_same present r true false room ∙ sym (rw (its i (omega arith), e) (or-true (is_present book above i)))
      go false e = get_or-set_other present r i true false (λ g. eqb-false r i e (sym g)) ∙ stands i h ∙ other (eqb i 0) refl e

  -- and where it was, it stays
  present_stay : get_or present r false ≡ true → (i : ℕ) → i < SECTIONS → get_or present i false ≡ is_present book (above ++ (l ∷ [])) i
  present_stay was i h = go (eqb r i) refl ∙ present_set i h
    where
      go : (t : Bool) → eqb r i ≡ t → get_or present i false ≡ get_or (set present r true) i false
      go true e =
          let q : i ≡ r = sym (eqb-true r i e) in
          ap (λ (k : ℕ). get_or present k false) q ∙ was ∙ sym (ap (λ (k : ℕ). get_or (set present r true) k false) q ∙ get_or-set_same present r true false room)
      go false e = sym (get_or-set_other present r i true false (λ g. eqb-false r i e (sym g)))

-- a section that is present has a line above that is a header or row
section_table : (book : Book) (r : ℕ) → 0 < r → (l : Bytes) → in_section book r l ≡ true → is_table book l ≡ true
section_table book r low l h = go (eqb (header book l) r) refl h
  where
    go : (t : Bool) → eqb (header book l) r ≡ t → (t || eqb (row book l) r) ≡ true → is_table book l ≡ true
    go true e m = let q = eqb-true (header book l) r e in rw (lt-ltb 0 (header book l) (omega arith))
    go false e m = let q = eqb-true (row book l) r m in rw (lt-ltb 0 (row book l) (omega arith)) (or-true (is_header book l))

present_table : (book : Book) (r : ℕ) → 0 < r → (above : List Bytes) → any (in_section book r) above ≡ true → any (is_table book) above ≡ true
unfolding any
present_table book r low [] h = h
present_table book r low (l ∷ ls) h = go (in_section book r l) refl h (present_table book r low ls)
  where
    go : (t : Bool) → in_section book r l ≡ t → (t || any (in_section book r) ls) ≡ true → (any (in_section book r) ls ≡ true → any (is_table book) ls ≡ true)
        → (is_table book l || any (is_table book) ls) ≡ true
    go true e m later = rw (section_table book r low l e)
    go false e m later = rw (later m) (or-true (is_table book l))

was_table : (book : Book) (r : ℕ) → 0 < r → (above : List Bytes) → is_present book above r ≡ true → any (is_table book) above ≡ true
unfolding is_present
was_table book r low above h = present_table book r low above (sym (rw (ne_eqb r 0 (λ e. omega arith))) ∙ h)

-- AFTER A LINE
module _ {book : Book} (sized : Sized book) {above : List Bytes} {s : State} {kinds slots : List ℕ} {n : ℕ} {l : Bytes} {next : State} {kinds' slots' : List ℕ} (here : 1 + length above ≡ n)
    (st : Stands book above s kinds slots) (af : Follows book s kinds slots n l next kinds' slots') where
  -- the first of the lines above, and of this one too
  first_next : (p : Bytes → Bool) → first_kept (first_from 1 p above) (p l) n ≡ first_from 1 p (above ++ (l ∷ []))
  first_next p = sym (first_more p 1 above l (omega arith) ∙ ap (first_kept (first_from 1 p above) (p l)) here)

  keys_next : Slots book (above ++ (l ∷ [])) slots'
  keys_next i h = af.keys i h ∙ rw (st.keys i h) (first_next (has_slot book i))

  headers_next : Headers book (above ++ (l ∷ [])) slots'
  headers_next i p h = af.headers i p h ∙ rw (st.headers i p h) (first_next (of_section book i))

  -- a line that is no header
  kept : header_in (sort_of book l) ≡ 0 → next.highest ≡ s.highest → next.section ≡ s.section → next.width ≡ s.width → next.table ≡ (s.table || is_table book l)
      → ((i : ℕ) → i < SECTIONS → get_or next.present i false ≡ is_present book (above ++ (l ∷ [])) i) → length next.present ≡ SECTIONS → Stands book (above ++ (l ∷ [])) next kinds' slots'
  kept z m f c d p q = record {
    present = p;
    presents = q;
    headers = headers_next;
    highest = λ h. rw m (st.highest h ∙ sym (any_one_more (of_later book h) above l ∙ rw (z, le-ltb h 0 (omega arith)) (or-false (any (of_later book h) above))));
    section = f ∙ rw (nearest_append book above l [], z) st.section;
    width = c ∙ rw (nearest_append book above l [], z) st.width;
    table = d ∙ rw st.table (sym (any_one_more (is_table book) above l));
    columns = rw (nearest_append book above l []) (af.columns (nearest book above) st.columns);
    keys = keys_next;
  }

  headed : (h : ℕ) → sort_of book l ≡ Header h → Stands book (above ++ (l ∷ [])) next kinds' slots'
  headed h e =
      let pos = (header_section book sized l h e).0 in
      let bound = (header_section book sized l h e).1 in
      let q : next ≡ after_header h (width l) s = af.state ∙ rw e in
      rw q (record {
        headers = headers_next;
        present = present_set book above l s.present h pos (omega (arith, bound, st.presents)) st.present (λ i p. rw (e, ne_eqb 0 i (λ z. omega arith)) (or-false (eqb h i)));
        presents = length-set s.present h true ∙ st.presents;
        highest = λ k. rw (any_one_more (of_later book k) above l, ← st.highest k, e) (highest_set k (ltb s.highest h) refl);
        section = rw (nearest_append book above l [], e, lt-ltb 0 h pos, e);
        width = rw (nearest_append book above l [], e, lt-ltb 0 h pos);
        table = rw (any_one_more (is_table book) above l, e, lt-ltb 0 h pos) (sym (or-true (any (is_table book) above)));
        columns = rw (nearest_append book above l []) (af.columns (nearest book above) st.columns);
        keys = keys_next;
      })
    where
      highest_set : (k : ℕ) (t : Bool) → ltb s.highest h ≡ t → ltb k (cond t h s.highest) ≡ (ltb k s.highest || ltb k h)
      highest_set k true u = go (ltb k s.highest) refl
        where
          go : (v : Bool) → ltb k s.highest ≡ v → ltb k h ≡ (v || ltb k h)
          go true w = lt-ltb k h (omega (arith, ltb-true k s.highest w, ltb-true s.highest h u))
          go false w = refl
      highest_set k false u = go (ltb k h) refl
        where
          go : (v : Bool) → ltb k h ≡ v → ltb k s.highest ≡ (ltb k s.highest || v)
          go true w = lt-ltb k s.highest (omega (arith, ltb-true k h w, ltb-false s.highest h u)) ∙ sym (or-true (ltb k s.highest))
          go false w = sym (or-false (ltb k s.highest))

  same_state : {σ : Sort} → sort_of book l ≡ σ → next ≡ s → (header_in σ ≡ 0) → (row_in σ ≡ 0) → Stands book (above ++ (l ∷ [])) next kinds' slots'
  same_state e q z w = kept (rw e z) (ap (λ (x : State). x.highest) q) (ap (λ (x : State). x.section) q) (ap (λ (x : State). x.width) q)
      (ap (λ (x : State). x.table) q ∙ rw (e, z, w) (sym (or-false s.table)))
      (λ i h. ap (λ (x : State). get_or x.present i false) q ∙ st.present i h ∙ sym (present_same book above l i (rw e z) (rw e w)))
      (ap (λ (x : State). length x.present) q ∙ st.presents)

  -- a row
  rowed : (r : ℕ) → sort_of book l ≡ Row r → Stands book (above ++ (l ∷ [])) next kinds' slots'
  rowed r e = go (get_or s.present r false) refl (af.state ∙ rw e)
    where
      low : 0 < r
      low = (row_section_lem book sized l r e).0

      room : r < length s.present
      room = omega (arith, (row_section_lem book sized l r e).1, st.presents)

      its : (i : ℕ) → 0 < i → in_section book i l ≡ eqb r i
      its i p = rw (e, ne_eqb 0 i (λ z. omega arith))

      more : (x : Bool) → (x || is_table book l) ≡ true
      more x = rw (e, lt-ltb 0 r low) (or-true x)

      go : (t : Bool) → get_or s.present r false ≡ t
          → next ≡ cond t s (record { present = set s.present r true; highest = s.highest; section = s.section; asking = s.asking; width = s.width; table = true })
          → Stands book (above ++ (l ∷ [])) next kinds' slots'
      go true p q =
          kept (rw e) (ap (λ (x : State). x.highest) q) (ap (λ (x : State). x.section) q) (ap (λ (x : State). x.width) q)
          (ap (λ (x : State). x.table) q ∙ st.table ∙ was_table book r low above (sym (st.present r (omega (arith, room, st.presents))) ∙ p) ∙ sym (more s.table))
          (λ i h. ap (λ (x : State). get_or x.present i false) q ∙ present_stay book above l s.present r low room st.present its p i h)
          (ap (λ (x : State). length x.present) q ∙ st.presents)
      go false p q =
          kept (rw e) (ap (λ (x : State). x.highest) q) (ap (λ (x : State). x.section) q) (ap (λ (x : State). x.width) q)
          (ap (λ (x : State). x.table) q ∙ sym (more s.table))
          (λ i h. ap (λ (x : State). get_or x.present i false) q ∙ present_set book above l s.present r low room st.present its i h)
          (ap (λ (x : State). length x.present) q ∙ length-set s.present r true ∙ st.presents)

  pub stands_next : Stands book (above ++ (l ∷ [])) next kinds' slots'
  stands_next = go (sort_of book l) refl
    where
      go : (σ : Sort) → sort_of book l ≡ σ → Stands book (above ++ (l ∷ [])) next kinds' slots'
      go Silent e = same_state e (af.state ∙ rw e) refl refl
      go Unknown e = same_state e (af.state ∙ rw e) refl refl
      go Meta e = same_state e (af.state ∙ rw e) refl refl
      go (Header h) e = headed h e
      go (Row r) e = rowed r e

-- what is asked of the file stays
pub asking_kept : {book : Book} {s : State} {kinds slots : List ℕ} {n : ℕ} {l : Bytes} {next : State} {kinds' slots' : List ℕ} → Follows book s kinds slots n l next kinds' slots'
    → next.asking ≡ s.asking
asking_kept {book} {s} {l = l} af = ap (λ (t : State). t.asking) af.state ∙ by (sort_of book l)
  where
    row_keeps : (r : ℕ) (t : Bool) → (cond t s (record { present = set s.present r true; highest = s.highest; section = s.section; asking = s.asking; width = s.width; table = true })).asking ≡ s.asking
    row_keeps r true = refl
    row_keeps r false = refl

    by : (σ : Sort) → (sort_state σ s (width l)).asking ≡ s.asking
    by Silent = refl
    by Unknown = refl
    by Meta = refl
    by (Header h) = refl
    by (Row r) = row_keeps r (get_or s.present r false)
