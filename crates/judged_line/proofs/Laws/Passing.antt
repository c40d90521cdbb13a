-- The lines above, passed without the kinds of their columns: what is carried follows each line, the nearest header is where it is said to be, and with its kinds
-- the scan is whole. Assumes nothing.
use mathlib.Core.Path.{◌≡◌, refl, sym, ap, subst, ◌∙◌}
use mathlib.Core.Bool.{Bool, true, false, cond}
use mathlib.Core.List.{List, [], ◌∷◌}
use mathlib.Core.Logic.{◌⊎◌, inl, inr, ⊎_elim}
use Prim.Native.Nat.{ℕ, zero, suc, ◌+◌, ◌-◌, ◌<◌, ◌≤◌}
use native.Mathlib.Nat.{not-suc-le-zero}
use native.Mathlib.Numerals.{add-one}
use native.Mathlib.Omega.{arith}
use lib.Dec.{ltb}
use lib.ListN.{length, get_or, set, take, drop, length-drop}
use borrow.Author.Tests.{ltb-true, ltb-false}
use Rattle.text_bytes.specs.Bytes.{Bytes, split_on, first_kept}
use Rattle.text_bytes.specs.Places.{part}
use Rattle.text.specs.Lines.{lines, cells, width}
use Rattle.text.specs.Places.{LineAt}
use Rattle.book.specs.Book.{SLOTS, Book, is_section, column_of}
use Rattle.book.proofs.Laws.Sized.{Sized}
use Rattle.rules.specs.Sorts.{sort_of, header_in, header, is_header}
use Rattle.rules.specs.Rules.{names, kind_in, nearer, nearest_in, nearest}
use Rattle.rules.specs.declared.sorts.Sort.{Sort}
use Rattle.rules.specs.declared.sorts.Sort.TheVariants.{Silent, Unknown, Meta, Header, Row}
use Rattle.rules.proofs.Laws.Sorting.{meta_in, header_is}
use Rattle.scan.specs.Machine.{has_slot, FIRSTS, header_slot, KindsOf, Kinds}
use Rattle.scan.specs.Carried.{after_header, sort_state, Scan}
use Rattle.scan.specs.declared.state.State.{State}
use Rattle.scan.proofs.Laws.Following.{nearest_append, asking_kept}
use Rattle.scan.proofs.Laws.Scanning.{lines_above, scan_step}
use Rattle.line_any.proofs.Laws.Steps.{follows_kept, follows_meta, header_follows}
use Rattle.judged_line.specs.Passing.{Passes, Reaches, Headed, Learnt}

-- THERE ARE SUCH KINDS: a place for each name, as far as they go
module _ (f : Bytes → ℕ) where
  fill : ℕ → List Bytes → List ℕ
  fill zero ns = []
  fill (suc n) [] = 0 ∷ fill n []
  fill (suc n) (x ∷ xs) = f x ∷ fill n xs

  fill_length : (n : ℕ) (ns : List Bytes) → length (fill n ns) ≡ n
  unfolding fill
  fill_length zero ns = refl
  fill_length (suc n) [] = ap suc (fill_length n [])
  fill_length (suc n) (x ∷ xs) = ap suc (fill_length n xs)

  fill_at : (n : ℕ) (ns : List Bytes) (i : ℕ) → i < length ns → i < n → get_or (fill n ns) i 0 ≡ f (get_or ns i [])
  unfolding fill
  fill_at zero ns i a c = absurd (omega arith)
  fill_at (suc n) [] i a c = absurd (omega arith)
  fill_at (suc n) (x ∷ xs) zero a c = refl
  fill_at (suc n) (x ∷ xs) (suc i) a c = fill_at n xs i (omega arith) (omega arith)

kinds_exist : (b : Book) (h : ℕ) (ns : List Bytes) → (ks : List ℕ) × ((length ks ≡ 256) × (length ns ≤ 255 → KindsOf b h ns ks))
kinds_exist b h ns =
    let f : Bytes → ℕ = λ x. kind_in (column_of b h x) in
    (0 ∷ fill f 255 ns, (ap suc (fill_length f 255 ns), (λ most i lt. rw (add-one i) (fill_at f 255 ns i lt (omega arith)))))

-- A LINE PASSED, by its sort
module _ {b : Book} {s : State} {slots : List ℕ} {n : ℕ} {l : Bytes} where
  pub passes_kept : {σ : Sort} → sort_of b l ≡ σ → length slots ≡ FIRSTS → header_in σ ≡ 0 → meta_in σ ≡ false → Passes b s slots n l (sort_state σ s (width l)) slots
  passes_kept e sp z m ks kp = (ks, follows_kept e kp sp z m)

  pub passes_meta : {slots' : List ℕ} → sort_of b l ≡ Meta → ((i : ℕ) → i < SLOTS → get_or slots' i 0 ≡ first_kept (get_or slots i 0) (has_slot b i l) n)
      → ((i : ℕ) → get_or slots' (header_slot i) 0 ≡ get_or slots (header_slot i) 0) → length slots' ≡ FIRSTS → Passes b s slots n l s slots'
  passes_meta e k hs sp ks kp = (ks, follows_meta e kp k hs sp)

  pub passes_header : Sized b → (h : ℕ) → sort_of b l ≡ Header h → {next : State} {slot w v : ℕ} → slot ≡ header_slot h → next ≡ after_header h w s → w ≡ width l
      → v ≡ first_kept (get_or slots slot 0) true n → length slots ≡ FIRSTS → Passes b s slots n l next (set slots slot v)
  passes_header sized h e at a c d sp ks kp =
      let k = kinds_exist b h (names l) in
      (k.0, header_follows sized h e at a c d sp (λ q. k.1.1 (omega (arith, length-drop 1 (cells l)))) k.1.0)

-- what follows from some kinds, those that a scan has: as many slots, and what is asked of the file
module _ {b : Book} {file : Bytes} {at n k : ℕ} {l : Bytes} {s s' : State} {slots slots' : List ℕ} (r : Reaches b file at n s slots) (p : Passes b s slots k l s' slots') where
  pub passes_slots : length slots' ≡ FIRSTS
  passes_slots = (p r.0 r.1.0).1.key_places

  pub passes_asking : s'.asking ≡ s.asking
  passes_asking = asking_kept (p r.0 r.1.0).1

-- FROM LINE TO LINE
module _ {b : Book} (sized : Sized b) {file : Bytes} {at n end next : ℕ} {s s' : State} {slots slots' : List ℕ}
    (r : Reaches b file at n s slots) (line : LineAt file at end next) (p : Passes b s slots (n + 1) (part at end file) s' slots') where
  pub reaches_step : Reaches b file next (n + 1) s' slots'
  reaches_step = let f = p r.0 r.1.0 in (f.0, (f.1.kind_places, scan_step sized r.1.1 line f.1))

  -- the nearest header with one line more
  nearest_next : nearest b (take (n + 1) (lines file)) ≡ nearer b (part at end file) (nearest b (take n (lines file)))
  nearest_next =
      let F = lines file in
      rw (add-one n, lines_above b F n (sym r.1.1.left ∙ line.cut)) (nearest_append b (take n F) (part at end file) [])

  pub headed_step : {head : ℕ} (yes : Bool) → yes ≡ is_header b (part at end file) → at < length file → Headed b file n head s → Headed b file (n + 1) (cond yes at head) s'
  headed_step true e lt h low = (lt, (lines (drop next file), rw (nearest_next, ← e) line.cut))
  headed_step {head} false e lt h low =
      let same : nearest b (take (n + 1) (lines file)) ≡ nearest b (take n (lines file)) = nearest_next ∙ rw (← e) in
      let low' : 0 < s.section = omega (arith, low, reaches_step.1.1.stands.section ∙ ap (header b) same, r.1.1.stands.section) in
      ((h low').0, ((h low').1.0, (h low').1.1 ∙ ap (λ (l : Bytes). l ∷ (h low').1.0) (sym same)))

-- the same of line n, where those before it are passed
module _ {b : Book} (sized : Sized b) {file : Bytes} {at end next : ℕ} (n : ℕ) {s s' : State} {slots slots' : List ℕ} (low : 1 ≤ n)
    (r : Reaches b file at (n - 1) s slots) (line : LineAt file at end next) (p : Passes b s slots n (part at end file) s' slots') where
  its_number : n ≡ n - 1 + 1
  its_number = omega (arith, low)

  passed_line : Passes b s slots (n - 1 + 1) (part at end file) s' slots'
  passed_line = subst (λ (k : ℕ). Passes b s slots k (part at end file) s' slots') its_number p

  after_line : n - 1 + 1 ≡ n + 1 - 1
  after_line = omega (arith, low)

  pub next_reached : Reaches b file next (n + 1 - 1) s' slots'
  next_reached = subst (λ (k : ℕ). Reaches b file next k s' slots') after_line (reaches_step sized r line passed_line)

  pub next_headed : {head : ℕ} (t : Bool) → t ≡ is_header b (part at end file) → at < length file → Headed b file (n - 1) head s → Headed b file (n + 1 - 1) (cond t at head) s'
  next_headed {head} t e lt h = subst (λ (k : ℕ). Headed b file k (cond t at head) s') after_line (headed_step sized r line passed_line t e lt h)

-- WITH ITS KINDS a scan is whole
pub scan_known : {b : Book} {file : Bytes} {at n : ℕ} {s : State} {kinds slots : List ℕ} → Reaches b file at n s slots → Kinds b (nearest b (take n (lines file))) kinds → Scan b file at n s kinds slots
scan_known r k =
    let h = r.1.1 in
    let st = h.stands in
    record {
      within = h.within;
      counted = h.counted;
      passed = h.passed;
      left = h.left;
      stands = record {
        headers = st.headers;
        present = st.present;
        presents = st.presents;
        highest = st.highest;
        section = st.section;
        width = st.width;
        table = st.table;
        columns = k;
        keys = st.keys;
      };
    }

-- the nearest header is one, or there is none
nearest_is : (b : Book) (ls : List Bytes) (found : Bytes) → (found ≡ []) ⊎ (0 < header b found) → (nearest_in b ls found ≡ []) ⊎ (0 < header b (nearest_in b ls found))
unfolding nearest_in
nearest_is b [] found h = h
nearest_is b (l ∷ ls) found h = nearest_is b ls (nearer b l found) (go (is_header b l) refl)
  where
    go : (t : Bool) → is_header b l ≡ t → (cond t l found ≡ []) ⊎ (0 < header b (cond t l found))
    go true e = inr (ltb-true 0 (header b l) e)
    go false e = h

header_sort : (σ : Sort) → 0 < header_in σ → σ ≡ Header (header_in σ)
header_sort Silent h = absurd (omega arith)
header_sort Unknown h = absurd (omega arith)
header_sort Meta h = absurd (omega arith)
header_sort (Header s) h = refl
header_sort (Row s) h = absurd (omega arith)

module _ {b : Book} {file : Bytes} {at n : ℕ} {s : State} {slots : List ℕ} (r : Reaches b file at n s slots) where
  abbrev above : List Bytes
  above = take n (lines file)

  section_of_lem : s.section ≡ header b (nearest b above)
  section_of_lem = r.1.1.stands.section

  -- its section is one of the book's
  pub section_is : 0 < s.section → is_section b s.section ≡ true
  section_is low = rw section_of_lem (header_is b (nearest b above) (header b (nearest b above)) (header_sort (sort_of b (nearest b above)) (omega (arith, low, section_of_lem))))

  pub kinds_known : {head : ℕ} {kinds : List ℕ} → Headed b file n head s → Learnt b file head s.section kinds → Kinds b (nearest b above) kinds
  unfolding split_on
  kinds_known {kinds = kinds} h k = go (ltb 0 s.section) refl
    where
      go : (t : Bool) → ltb 0 s.section ≡ t → Kinds b (nearest b above) kinds
      go true e = λ most. let low = ltb-true 0 s.section e in subst (λ (i : ℕ). KindsOf b i (names (nearest b above)) kinds) section_of_lem (k.columns low (nearest b above) (h low).1.0 (h low).1.1 most)
      go false e =
          ⊎_elim
          (λ (q : nearest b above ≡ []). rw q (λ most i lt. absurd (not-suc-le-zero lt)))
          (λ (low : 0 < header b (nearest b above)). absurd (omega (arith, low, section_of_lem, ltb-false 0 s.section e)))
          (nearest_is b above [] (inl refl))

-- of the line that begins there
pub learnt : {b : Book} {file : Bytes} {head end next section : ℕ} {kinds : List ℕ} → LineAt file head end next
    → (length (cells (part head end file)) ≤ 256 → KindsOf b section (drop 1 (cells (part head end file))) kinds) → Learnt b file head section kinds
learnt {b} {file} {head} {end} {next} {section} {kinds} line k = record {
  columns = λ low l rest e. let q : part head end file ≡ l = ap (λ (ls : List Bytes). get_or ls 0 []) (sym line.cut ∙ e) in
      subst (λ (x : Bytes). length (cells x) ≤ 256 → KindsOf b section (drop 1 (cells x)) kinds) q k;
}
