-- What a rule may know of the other lines of a file: never what a row's cells hold. Two files that differ only in the cells of rows give every line the same
-- breaks but for the rows that differ: for any rules that do not look at the cells of other rows. Assumes nothing.
use mathlib.Core.Path.{◌≡◌, refl, sym, ap, ◌∙◌}
use mathlib.Core.Bool.{Bool, true, false, cond}
use mathlib.Core.List.{List, [], ◌∷◌}
use Prim.Native.Nat.{ℕ, zero, suc, ◌+◌, ◌-◌, ◌<◌}
use native.Mathlib.Omega.{arith}
use lib.ListN.{length, get_or, take, set, get_or-eq_default}
use Rattle.text_bytes.specs.Bytes.{Bytes, any, is, is_empty, first_from}
use Rattle.text.specs.Lines.{cell, width, coded, is_field}
use Rattle.book.specs.Book.{Book, Want}
use Rattle.book_ids.specs.Ids.{declares}
use Rattle.book_facts.specs.Facts.{earliest}
use Rattle.rules.specs.Sorts.{sort_of, code_sort, row, is_table}
use Rattle.rules.specs.Breaks.{spot, spot_at, Rule, at_cell, at_line, at_end}
use Rattle.rules.specs.Rules.{same_key, of_section, of_later, nearer, nearest_in, in_section, has_key}
use Rattle.rules.specs.Edited.{Alike, equal, rows, Alikes, done, next, Local}
use Rattle.rules.specs.declared.sorts.Sort.TheVariants.{Silent, Meta, Row}
use Rattle.rules.proofs.Laws.Renewing.{each_same}

module _ (b : Book) where
  -- FILES THAT ARE ALIKE

  pub alikes_self : (ls : List Bytes) → Alikes b ls ls
  alikes_self [] = done
  alikes_self (l ∷ ls) = next equal (alikes_self ls)

  pub alikes_length : {ls ms : List Bytes} → Alikes b ls ms → length ls ≡ length ms
  alikes_length done = refl
  alikes_length (next a r) = ap suc (alikes_length r)

  pub alikes_take : {ls ms : List Bytes} (n : ℕ) → Alikes b ls ms → Alikes b (take n ls) (take n ms)
  alikes_take zero r = done
  alikes_take (suc n) done = done
  alikes_take (suc n) (next a r) = next a (alikes_take n r)

  pub alikes_set : (ls : List Bytes) (i : ℕ) (m : Bytes) → Alike b (get_or ls i []) m → Alikes b ls (set ls i m)
  alikes_set [] i m a = done
  alikes_set (l ∷ ls) zero m a = next a (alikes_self ls)
  alikes_set (l ∷ ls) (suc i) m a = next equal (alikes_set ls i m a)

  pub alikes_each : (ls ms : List Bytes) → length ms ≡ length ls → ((i : ℕ) → i < length ls → Alike b (get_or ls i []) (get_or ms i [])) → Alikes b ls ms
  alikes_each [] [] e h = done
  alikes_each [] (m ∷ ms) e h = absurd (omega arith)
  alikes_each (l ∷ ls) [] e h = absurd (omega arith)
  alikes_each (l ∷ ls) (m ∷ ms) e h = next (h 0 (omega arith)) (alikes_each ls ms (omega arith) (λ i lt. h (suc i) (omega arith)))

  pub alikes_at : {ls ms : List Bytes} (i : ℕ) → Alikes b ls ms → Alike b (get_or ls i []) (get_or ms i [])
  alikes_at i done = equal
  alikes_at zero (next a r) = a
  alikes_at (suc i) (next a r) = alikes_at i r

  pub row_alike : {l m : Bytes} → Alike b l m → row b m ≡ row b l
  row_alike equal = refl
  row_alike (rows e f) = rw (e, f)

  -- a row stays a row of its section while its code stays
  row_code_lem : (l : Bytes) (s : ℕ) → sort_of b l ≡ Row s → code_sort b (cell 1 l) ≡ Row s
  unfolding sort_of
  row_code_lem l s e = go (is_empty l) e
    where
      go : (t : Bool) → cond t Silent (code_sort b (cell 1 l)) ≡ Row s → code_sort b (cell 1 l) ≡ Row s
      go true h = absurd (let z : ◌≡◌ {A = ℕ} 0 1 = cc in omega arith)
      go false h = h

  pub row_stays : (l m : Bytes) (s : ℕ) → sort_of b l ≡ Row s → is_empty m ≡ false → cell 1 m ≡ cell 1 l → sort_of b m ≡ Row s
  unfolding sort_of
  row_stays l m s e f q = rw (f, q) (row_code_lem l s e)

  pub alike_code : {l m : Bytes} {s : ℕ} → sort_of b l ≡ Row s → is_empty m ≡ false → cell 1 m ≡ cell 1 l → Alike b l m
  alike_code {l} {m} {s} e f q = rows e (row_stays l m s e f q)

  -- and has a byte
  pub row_some : (l : Bytes) (s : ℕ) → sort_of b l ≡ Row s → is_empty l ≡ false
  unfolding sort_of
  row_some l s e = go (is_empty l) e
    where
      go : (t : Bool) → cond t Silent (code_sort b (cell 1 l)) ≡ Row s → t ≡ false
      go true h = absurd (let z : ◌≡◌ {A = ℕ} 0 1 = cc in omega arith)
      go false h = refl

  -- a row is no metadata
  code_meta : (code : Bytes) (s : ℕ) → is code "MTD" ≡ true → code_sort b code ≡ Row s → ⊥
  unfolding code_sort
  code_meta code s m h = go (is code "COM") (rw m at h)
    where
      go : (t : Bool) → cond t Silent Meta ≡ Row s → ⊥
      go true z = let y : ◌≡◌ {A = ℕ} 0 1 = cc in omega arith
      go false z = let y : ◌≡◌ {A = ℕ} 0 1 = cc in omega arith

  pub row_field : (l : Bytes) (s : ℕ) → sort_of b l ≡ Row s → is_field l ≡ false
  unfolding is_field coded cell
  row_field l s e = go (is (cell 1 l) "MTD") refl
    where
      go : (t : Bool) → is (cell 1 l) "MTD" ≡ t → is_field l ≡ false
      go true m = absurd (code_meta (cell 1 l) s m (row_code_lem l s e))
      go false m = rw m

  -- TESTS OF A LINE

  -- a test that does not look at the cells of a row
  abbrev pub Blind : (Bytes → Bool) → Type 0
  Blind t = (s : ℕ) (l m : Bytes) → sort_of b l ≡ Row s → sort_of b m ≡ Row s → t l ≡ t m

  pub any_blind : {t : Bytes → Bool} {ls ms : List Bytes} → Blind t → Alikes b ls ms → any t ls ≡ any t ms
  unfolding any
  any_blind h done = refl
  any_blind h (next equal r) = rw (any_blind h r)
  any_blind h (next (rows {l} {m} {s} e f) r) = rw (h s l m e f, any_blind h r)

  pub first_blind : {t : Bytes → Bool} {ls ms : List Bytes} (n : ℕ) → Blind t → Alikes b ls ms → first_from n t ls ≡ first_from n t ms
  unfolding first_from
  first_blind n h done = refl
  first_blind n h (next equal r) = rw (first_blind (suc n) h r)
  first_blind n h (next (rows {l} {m} {s} e f) r) = rw (h s l m e f, first_blind (suc n) h r)

  pub nearest_alike : {ls ms : List Bytes} (found : Bytes) → Alikes b ls ms → nearest_in b ls found ≡ nearest_in b ms found
  unfolding nearest_in
  nearest_alike found done = refl
  nearest_alike found (next {l} equal r) = nearest_alike (nearer b l found) r
  nearest_alike found (next (rows e f) r) = rw (e, f) (nearest_alike found r)

  -- what fields alone say
  pub earliest_alike : (g : ℕ → Bytes → ℕ) {ls ms : List Bytes} (n : ℕ) → ((k : ℕ) (l : Bytes) → is_field l ≡ false → g k l ≡ 0) → Alikes b ls ms → earliest g n ls ≡ earliest g n ms
  unfolding earliest
  earliest_alike g n h done = refl
  earliest_alike g n h (next equal r) = rw (earliest_alike g (n + 1) h r)
  earliest_alike g n h (next (rows {l} {m} {s} e f) r) = rw (h n l (row_field l s e), h n m (row_field m s f), earliest_alike g (n + 1) h r)

  field_blind : (t : Bytes → Bool) → ((l : Bytes) → is_field l ≡ false → t l ≡ false) → Blind t
  field_blind t h s l m e f = h l (row_field l s e) ∙ sym (h m (row_field m s f))

  pub table_blind : Blind (is_table b)
  table_blind s l m e f = rw (e, f)

  pub section_blind : (h : ℕ) → Blind (of_section b h)
  section_blind h s l m e f = rw (e, f)

  pub later_blind : (h : ℕ) → Blind (of_later b h)
  later_blind h s l m e f = rw (e, f)

  pub in_section_blind : (h : ℕ) → Blind (in_section b h)
  in_section_blind h s l m e f = rw (e, f)

  pub same_key_blind : (k : Bytes) → Blind (same_key k)
  unfolding same_key
  same_key_blind k = field_blind (same_key k) (λ l h. rw h)

  pub has_key_blind : (w : Want) → Blind (has_key b w)
  unfolding has_key
  has_key_blind w = field_blind (has_key b w) (λ l h. rw h)

  pub declares_blind : (f i : ℕ) → Blind (declares b f i)
  unfolding declares
  declares_blind f i = field_blind (declares b f i) (λ l h. rw h)

  -- RULES

  -- one rule more before local ones
  pub local_more : (r : Rule) (rs : List Rule)
      → ((here : Bytes) (c : ℕ) (above above' file file' : List Bytes) → Alikes b above above' → Alikes b file file'
      → (r.broken (spot above here file) c ≡ r.broken (spot above' here file') c) × (r.first (spot above here file) c ≡ r.first (spot above' here file') c))
      → Local b rs → Local b (r ∷ rs)
  unfolding at_cell
  local_more r rs h g here n c above above' file file' a f =
      rw ((h here c above above' file file' a f).0, (h here c above above' file file' a f).1, g here n c above above' file file' a f)

  module _ (rs : List Rule) (g : Local b rs) {above above' file file' : List Bytes} (a : Alikes b above above') (f : Alikes b file file') where
    pub line_alike : (here : Bytes) (n : ℕ) → at_line rs (spot above here file) n ≡ at_line rs (spot above' here file') n
    unfolding at_line
    line_alike here n = rw (each_same (width here) 1 (at_cell rs (spot above here file) n) (at_cell rs (spot above' here file') n) (λ c p q. g here n c above above' file file' a f))

  -- FILES

  module _ (rs : List Rule) (g : Local b rs) {file file' : List Bytes} (f : Alikes b file file') where
    -- each line is judged as if all others were the old ones
    pub spot_alike : (n : ℕ) → at_line rs (spot_at file' n) n ≡ at_line rs (spot (take (n - 1) file) (get_or file' (n - 1) []) file) n
    spot_alike n = sym (line_alike rs g (alikes_take (n - 1) f) f (get_or file' (n - 1) []) n)

    -- so a line that is the same has the same breaks
    pub spot_same : (n : ℕ) → get_or file' (n - 1) [] ≡ get_or file (n - 1) [] → at_line rs (spot_at file' n) n ≡ at_line rs (spot_at file n) n
    spot_same n e = spot_alike n ∙ rw e

    -- and line N + 1 is the same
    pub end_alike : (w : ℕ) → at_end rs w file' ≡ at_end rs w file
    unfolding at_end
    end_alike w =
        let N = length file + 1 in
        let e : get_or file (N - 1) [] ≡ [] = get_or-eq_default file [] (omega arith) in
        let e' : get_or file' (N - 1) [] ≡ [] = get_or-eq_default file' [] (omega (arith, alikes_length f)) in
        rw (← alikes_length f, e, e')
        (each_same w 1 (at_cell rs (spot (take (N - 1) file') [] file') N) (at_cell rs (spot (take (N - 1) file) [] file) N) (λ c p q. sym (g [] N c (take (N - 1) file) (take (N - 1) file') file file' (alikes_take (N - 1) f) f)))
