-- A line judged by its sort: what it puts, and what is carried after it. Assumes nothing.
use mathlib.Core.Path.{◌≡◌, refl, sym, ap, ◌∙◌}
use mathlib.Core.Bool.{Bool, true, false}
use mathlib.Core.List.{List}
use Prim.Native.Nat.{ℕ, ◌≤◌, ◌<◌}
use lib.Dec.{eqb, ltb}
use lib.Seq.{get_or-set_same, get_or-set_other}
use native.Mathlib.Omega.{arith}
use lib.ListN.{length, get_or, set, length-set}
use borrow.Author.Tests.{lt-ltb, ne_eqb, eqb-true, eqb-false}
use Rattle.text_bytes.specs.Bytes.{Bytes, first_kept}
use Rattle.text_bytes.proofs.Laws.Firsts.{kept_none}
use Rattle.text.specs.Lines.{cells, width, is_field}
use Rattle.rules.specs.Sorts.{sort_of, header_in, control_cell}
use Rattle.scan.specs.Places.{LINE_MOST, Lent, Puts}
use Rattle.book_facts.specs.Asked.{asked_by}
use Rattle.rules.specs.Rules.{of_section, names}
use Rattle.scan.specs.Machine.{Ids, has_slot, FIRSTS, header_slot, head_breaks, KindsOf}
use Rattle.scan.specs.Carried.{after_header, sort_state, sort_breaks, line_breaks, Follows}
use Rattle.scan.specs.declared.state.State.{State}
use Rattle.rules.specs.declared.sorts.Sort.{Sort}
use Rattle.rules.specs.declared.sorts.Sort.TheVariants.{Meta, Header}
use Rattle.rules.proofs.Laws.Sorting.{meta_in, meta_sort, header_section}
use Rattle.book.specs.Book.{SECTIONS, SLOTS, Book}
use Rattle.book.proofs.Laws.Sized.{Sized}

module _ (book : Book) (ids : Ids) (s : State) (kinds slots : List ℕ) (n : ℕ) (l : Bytes) (σ : Sort) (e : sort_of book l ≡ σ) where
  pub line_puts : {m : ℕ} {o o' : Lent} → Puts (sort_breaks book σ ids s kinds slots (control_cell l) n (cells l)) m o o' → m ≤ LINE_MOST → Puts (line_breaks book ids s kinds slots n l) LINE_MOST o o'
  line_puts h k = record { does = λ rest. rw e (h.does rest); most = omega (arith, h.most) }

-- a line that does not pass changes no first
unchanged : (first n : ℕ) {t : Bool} → t ≡ false → first ≡ first_kept first t n
unchanged first n e = kept_none first n ∙ sym (ap (λ (t : Bool). first_kept first t n) e)

-- a line that is no metadata line has no slot
no_slot : (book : Book) (l : Bytes) {σ : Sort} → sort_of book l ≡ σ → meta_in σ ≡ false → (i : ℕ) → has_slot book i l ≡ false
unfolding has_slot is_field
no_slot book l e z i = rw (meta_sort book l, e, z)

-- and one that is no header is of no section
no_header : (book : Book) (l : Bytes) {σ : Sort} → sort_of book l ≡ σ → header_in σ ≡ 0 → (i : ℕ) → 0 < i → of_section book i l ≡ false
no_header book l e z i p = rw (e, z) (ne_eqb 0 i (λ q. omega arith))

module _ {book : Book} {s : State} {kinds slots : List ℕ} {n : ℕ} {l : Bytes} {σ : Sort} (e : sort_of book l ≡ σ) (kp : length kinds ≡ 256) (sp : length slots ≡ FIRSTS) where
  -- neither header nor metadata line: kinds and slots stay
  pub follows_kept : header_in σ ≡ 0 → meta_in σ ≡ false → Follows book s kinds slots n l (sort_state σ s (width l)) kinds slots
  follows_kept z m = record {
    state = rw e;
    columns = λ l₀ h. rw (e, z) h;
    keys = λ i h. unchanged (get_or slots i 0) n (no_slot book l e m i);
    headers = λ i p h. unchanged (get_or slots (header_slot i) 0) n (no_header book l e z i p);
    kind_places = kp;
    key_places = sp;
  }

-- a metadata line marks its slot
pub follows_meta : {book : Book} {s : State} {kinds slots slots' : List ℕ} {n : ℕ} {l : Bytes} → sort_of book l ≡ Meta → length kinds ≡ 256
    → ((i : ℕ) → i < SLOTS → get_or slots' i 0 ≡ first_kept (get_or slots i 0) (has_slot book i l) n) → ((i : ℕ) → get_or slots' (header_slot i) 0 ≡ get_or slots (header_slot i) 0) → length slots' ≡ FIRSTS → Follows book s kinds slots n l s kinds slots'
follows_meta {book} {slots = slots} {n = n} {l = l} e kp k hs sp = record {
  state = rw e;
  columns = λ l₀ h. rw e h;
  keys = k;
  headers = λ i p h. hs i ∙ unchanged (get_or slots (header_slot i) 0) n (no_header book l e refl i p);
  kind_places = kp;
  key_places = sp;
}

-- a header keeps the kinds of its columns, and its line where it is the first of its section
follows_header : {book : Book} → Sized book → {s : State} {kinds kinds' slots : List ℕ} {n : ℕ} {l : Bytes} (h : ℕ) → sort_of book l ≡ Header h → length slots ≡ FIRSTS
    → (length (cells l) ≤ 256 → KindsOf book h (names l) kinds') → length kinds' ≡ 256
    → Follows book s kinds slots n l (sort_state (Header h) s (width l)) kinds' (set slots (header_slot h) (first_kept (get_or slots (header_slot h) 0) true n))
follows_header {book} sized {slots = slots} {n = n} {l = l} h e sp k kp = record {
  state = rw e;
  columns = λ l₀ q. rw (e, lt-ltb 0 h (header_section book sized l h e).0, e) k;
  keys = λ i q. get_or-set_other slots (header_slot h) i (first_kept (get_or slots (header_slot h) 0) true n) 0 (λ z. omega (arith, q, z)) ∙ unchanged (get_or slots i 0) n (no_slot book l e refl i);
  headers = λ i p q. at i q (eqb h i) refl;
  kind_places = kp;
  key_places = length-set slots (header_slot h) (first_kept (get_or slots (header_slot h) 0) true n) ∙ sp;
}
  where
    at : (i : ℕ) → i < SECTIONS → (t : Bool) → eqb h i ≡ t → get_or (set slots (header_slot h) (first_kept (get_or slots (header_slot h) 0) true n)) (header_slot i) 0 ≡ first_kept (get_or slots (header_slot i) 0) (of_section book i l) n
    at i q true t = let z = eqb-true h i t in rw (e, t, z) (get_or-set_same slots (header_slot i) (first_kept (get_or slots (header_slot i) 0) true n) 0 (omega (arith, q, sp)))
    at i q false t =
        rw (e, t) (get_or-set_other slots (header_slot h) (header_slot i) (first_kept (get_or slots (header_slot h) 0) true n) 0 (λ z. eqb-false h i t (omega (arith, z))) ∙ kept_none (get_or slots (header_slot i) 0) n)

-- the same of what the code found, said in other words
pub header_puts : (book : Book) (ids : Ids) (s : State) (kinds slots : List ℕ) (n : ℕ) (l : Bytes) (h : ℕ) → sort_of book l ≡ Header h → {slot cc m : ℕ} {o o' : Lent} → slot ≡ header_slot h → cc ≡ control_cell l
    → Puts (head_breaks book (asked_by s.asking) h (get_or slots slot 0) (ltb h s.highest) ids cc n (cells l)) m o o' → m ≤ LINE_MOST → Puts (line_breaks book ids s kinds slots n l) LINE_MOST o o'
header_puts book ids s kinds slots n l h e at c p k = line_puts book ids s kinds slots n l (Header h) e (rw (c, at) at p) k

pub header_follows : {book : Book} → Sized book → {s : State} {kinds kinds' slots : List ℕ} {n : ℕ} {l : Bytes} (h : ℕ) → sort_of book l ≡ Header h → {next : State} {slot w v : ℕ} → slot ≡ header_slot h
    → next ≡ after_header h w s → w ≡ width l → v ≡ first_kept (get_or slots slot 0) true n → length slots ≡ FIRSTS → (length (cells l) ≤ 256 → KindsOf book h (names l) kinds') → length kinds' ≡ 256
    → Follows book s kinds slots n l next kinds' (set slots slot v)
header_follows sized h e at a b d sp k kp = rw (a, b, d, at) (follows_header sized h e sp k kp)
