-- What the lines of an accepted file add to a weight is the weight: each study variable has at most one column. Assumes nothing.
use mathlib.Core.Path.{◌≡◌, refl, sym, ap, subst, ◌∙◌}
use mathlib.Core.Bool.{Bool, true, false, cond, not, ◌&&◌, and-false}
use mathlib.Core.List.{List, [], ◌∷◌}
use mathlib.Core.Option.{Option, none, some}
use Prim.Native.Nat.{ℕ, zero, suc, ◌+◌, ◌-◌, ◌≤◌, ◌<◌}
use native.Mathlib.Omega.{arith}
use lib.Dec.{eqb, ltb}
use lib.ListN.{length, drop, get_or, get_elem?, length-drop, get_or-eq_default}
use lib.Seq.{get_or-drop}
use borrow.Author.Tests.{ne_eqb, eqb-true, eqb-false, ltb-true, ltb-false}
use Rattle.text_bytes.specs.Bytes.{Bytes, bytes, same, is, begins, split_on, count}
use Rattle.text.specs.Lines.{LIMIT, lines, cells, coded}
use Rattle.book.specs.Book.{header_code, row_code, mz_tab, is_section, section_of, book_of}
use Rattle.text_bytes.proofs.Laws.Same.{same_equal, same_self}
use Rattle.text.proofs.Laws.Counts.{count_most, count_less, lines_most}
use Rattle.value_references.specs.References.{ref_in, ref_to}
use Rattle.value_references.proofs.Laws.Names.{ref_read, ref_written}
use Rattle.rows.specs.Rows.{Line, row_of, text_of, header_of, place_of, column_named, cell_at}
use Rattle.rows.proofs.Laws.Finding.{header_line}
use Rattle.rules.specs.Sorts.{is_header}
use Rattle.rules.specs.Rules.{breaks}
use Rattle.rules.proofs.Laws.Accepted.{accepted_width, accepted_apart, header_coded}
use Rattle.fee_shares.specs.Sums.{bit}
use Rattle.weight_counts.specs.Variables.{PROTEIN, WORD, abundance}
use Rattle.weights.specs.Weights.{is_given, has_in, weight_of}
use Rattle.weight_counts.specs.Counts.{adds, marks, lines_add}
use Rattle.weight_marks.specs.Marks.{variable_of, Marked}
use Rattle.column_marks.specs.declared.Marks.{Marks}
use Rattle.weight_counts.proofs.Laws.Raising.{adds_none, adds_alike}

-- a header that an accepted file has: at most 256 cells, no two columns of one name, and its first cell is the name of none
record Sound (header : Bytes) : Type 0 where
  narrow : length (cells header) ≤ 256
  apart : (a b : ℕ) → 1 ≤ a → a < b → b < length (cells header) → get_or (cells header) b [] ≡ get_or (cells header) a [] → ⊥
  first : variable_of (get_or (cells header) 0 []) ≡ 0

none_named : variable_of [] ≡ 0
unfolding variable_of ref_to ref_in begins bytes
none_named = refl

sound_none : Sound []
unfolding split_on
sound_none = record { narrow = omega arith; apart = λ a b la ab bw e. omega arith; first = none_named }

code_unnamed : variable_of (header_code mz_tab PROTEIN) ≡ 0
unfolding variable_of ref_to ref_in begins bytes mz_tab is_section section_of
code_unnamed = refl

not_same : {x y : Bytes} → same x y ≡ false → x ≡ y → ⊥
not_same {x} {y} e q =
    let t : true ≡ false = sym (same_self y) ∙ ap (λ (w : Bytes). same w y) (sym q) ∙ e in
    let z : ◌≡◌ {A = ℕ} 0 1 = cc in
    omega arith

sound_line : (file : Bytes) → breaks file ≡ [] → (n : ℕ) → 1 ≤ n → n ≤ length (lines file) → coded (header_code mz_tab PROTEIN) (get_or (lines file) (n - 1) []) ≡ true
    → Sound (get_or (lines file) (n - 1) [])
unfolding coded book_of mz_tab is_section
sound_line file kept n lo hi e =
    let head : is_header (book_of (lines file)) (get_or (lines file) (n - 1) []) ≡ true = rw (header_coded (lines file) PROTEIN (get_or (lines file) (n - 1) []) refl e) in
    record {
      narrow = accepted_width file kept n lo hi head;
      apart = λ a b la ab bw q. not_same (accepted_apart file kept n lo hi head a b la ab bw) q;
      first = ap variable_of (same_equal (get_or (cells (get_or (lines file) (n - 1) [])) 0 []) (header_code mz_tab PROTEIN) e) ∙ code_unnamed;
    }

sound_header : (file : Bytes) → breaks file ≡ [] → Sound (header_of file PROTEIN)
unfolding book_of
sound_header file kept = go (row_of file PROTEIN 0) refl
  where
    go : (o : Option Line) → row_of file PROTEIN 0 ≡ o → Sound (text_of o)
    go none e = sound_none
    go (some l) e =
        let at = header_line file PROTEIN l e in
        subst Sound at.2 (sound_line file kept l.line at.0 (omega (arith, at.1)) (subst (λ (x : Bytes). coded (header_code mz_tab PROTEIN) x ≡ true) (sym at.2) at.3))

-- ONE COLUMN: where one passes the test and no other does, the cell there decides
adds_one : (p : ℕ → Bool) (k c : ℕ) (cs : List Bytes) → k ≤ c → p c ≡ true → ((j : ℕ) → (j ≡ c → ⊥) → p j ≡ false) → adds p k cs ≡ bit (is_given (get_elem? cs (c - k)))
unfolding adds
adds_one p k c [] h t f = refl
adds_one p k c (x ∷ cs) h t f = go (eqb k c) refl (λ l. adds_one p (suc k) c cs l t f)
  where
    go : (b : Bool) → eqb k c ≡ b → (suc k ≤ c → adds p (suc k) cs ≡ bit (is_given (get_elem? cs (c - suc k))))
        → bit (p k && not (is x "null")) + adds p (suc k) cs ≡ bit (is_given (get_elem? (x ∷ cs) (c - k)))
    go true e ih =
        let z : c ≡ k = sym (eqb-true k c e) in
        let m : c - k ≡ 0 = omega arith in
        let q : p k ≡ true = ap p (sym z) ∙ t in
        let r = adds_none p (suc k) cs (λ j l. f j (λ d. omega arith)) in
        rw (m, q, r) (omega arith)
    go false e ih =
        let n = eqb-false k c e in
        let m : c - k ≡ suc (c - suc k) = omega arith in
        rw (m, f k n) (omega (arith, ih (omega arith)))

-- THE PLACE OF A NAME among names, the first of which has the number k
place_there : (k : ℕ) (name : Bytes) (ns : List Bytes) → (place_of k name ns ≡ 0 → ⊥) → (k ≤ place_of k name ns) × (place_of k name ns < k + length ns) × (same (get_or ns (place_of k name ns - k) []) name ≡ true)
unfolding place_of
place_there k name [] ne = absurd (ne refl)
place_there k name (n ∷ ns) ne = go (same n name) refl ne (place_there (suc k) name ns)
  where
    go : (t : Bool) → same n name ≡ t → (cond t k (place_of (suc k) name ns) ≡ 0 → ⊥)
        → ((place_of (suc k) name ns ≡ 0 → ⊥) → (suc k ≤ place_of (suc k) name ns) × (place_of (suc k) name ns < suc k + length ns) × (same (get_or ns (place_of (suc k) name ns - suc k) []) name ≡ true))
        → (k ≤ cond t k (place_of (suc k) name ns)) × (cond t k (place_of (suc k) name ns) < k + suc (length ns)) × (same (get_or (n ∷ ns) (cond t k (place_of (suc k) name ns) - k) []) name ≡ true)
    go true e ne ih = let z : k - k ≡ 0 = omega arith in (omega arith, omega arith, rw z e)
    go false e ne ih =
        let r = ih ne in
        let z : place_of (suc k) name ns - k ≡ suc (place_of (suc k) name ns - suc k) = omega arith in
        (omega arith, omega arith, rw z r.2)

place_none : (k : ℕ) (name : Bytes) (ns : List Bytes) → 1 ≤ k → place_of k name ns ≡ 0 → (i : ℕ) → i < length ns → same (get_or ns i []) name ≡ false
unfolding place_of
place_none k name [] h z i l = absurd (omega arith)
place_none k name (n ∷ ns) h z i l = go (same n name) refl z i l (λ q j m. place_none (suc k) name ns (omega arith) q j m)
  where
    go : (t : Bool) → same n name ≡ t → cond t k (place_of (suc k) name ns) ≡ 0 → (i : ℕ) → i < suc (length ns)
        → (place_of (suc k) name ns ≡ 0 → (j : ℕ) → j < length ns → same (get_or ns j []) name ≡ false) → same (get_or (n ∷ ns) i []) name ≡ false
    go true e z i l ih = absurd (omega arith)
    go false e z zero l ih = e
    go false e z (suc i) l ih = ih z i (omega arith)

-- a name is that of study variable i exactly where it reads so
names_variable : (i : ℕ) → 1 ≤ i → i ≤ 64 → (name : Bytes) → eqb (variable_of name) i ≡ same name (abundance i)
unfolding variable_of
names_variable i lo hi name = go (eqb (ref_to WORD name) i) refl (same name (abundance i)) refl
  where
    go : (t : Bool) → eqb (ref_to WORD name) i ≡ t → (u : Bool) → same name (abundance i) ≡ u → t ≡ u
    go true e true d = refl
    go false e false d = refl
    go true e false d =
        let q : name ≡ abundance i = ref_read WORD name i (eqb-true (ref_to WORD name) i e) lo in
        absurd (let w : true ≡ false = sym (same_self (abundance i)) ∙ ap (λ (x : Bytes). same x (abundance i)) (sym q) ∙ d in let z : ◌≡◌ {A = ℕ} 0 1 = cc in omega arith)
    go false e true d =
        let q : ref_to WORD name ≡ i = ap (ref_to WORD) (same_equal name (abundance i) d) ∙ ref_written WORD i lo hi in
        absurd (eqb-false (ref_to WORD name) i e q)

module _ {header : Bytes} (sound : Sound header) (i : ℕ) (lo : 1 ≤ i) (hi : i ≤ 64) where
  abbrev p : ℕ → Bool
  p j = eqb (variable_of (get_or (cells header) j [])) i

  abbrev c : ℕ
  c = column_named header (abundance i)

  named : (j : ℕ) → p j ≡ same (get_or (cells header) j []) (abundance i)
  named j = names_variable i lo hi (get_or (cells header) j [])

  -- neither the first cell nor what stands past the last
  first_not : p 0 ≡ false
  first_not = rw sound.first (ne_eqb 0 i (λ e. omega arith))

  past_not : (j : ℕ) → length (cells header) ≤ j → p j ≡ false
  past_not j h = rw (get_or-eq_default (cells header) [] {n = j} h, none_named) (ne_eqb 0 i (λ e. omega arith))

  column_is : (j : ℕ) → 1 ≤ j → get_or (drop 1 (cells header)) (j - 1) [] ≡ get_or (cells header) j []
  column_is j h = let z : 1 + (j - 1) ≡ j = omega arith in get_or-drop 1 (cells header) (j - 1) [] ∙ ap (λ (x : ℕ). get_or (cells header) x []) z

  -- no such column
  none_is : c ≡ 0 → (j : ℕ) → p j ≡ false
  none_is z zero = first_not
  none_is z (suc j) = go (ltb (suc j) (length (cells header))) refl
    where
      go : (t : Bool) → ltb (suc j) (length (cells header)) ≡ t → p (suc j) ≡ false
      go true h =
          let l = ltb-true (suc j) (length (cells header)) h in
          let w : suc j - 1 ≡ j = omega arith in
          named (suc j) ∙ ap (λ (x : Bytes). same x (abundance i)) (sym (column_is (suc j) (omega arith)) ∙ ap (λ (x : ℕ). get_or (drop 1 (cells header)) x []) w) ∙ place_none 1 (abundance i) (drop 1 (cells header)) (omega arith) z j (omega (arith, length-drop 1 (cells header)))
      go false h = past_not (suc j) (ltb-false (suc j) (length (cells header)) h)

  -- the one column
  module _ (ne : c ≡ 0 → ⊥) where
    there : (1 ≤ c) × (c < 1 + length (drop 1 (cells header))) × (same (get_or (drop 1 (cells header)) (c - 1) []) (abundance i) ≡ true)
    there = place_there 1 (abundance i) (drop 1 (cells header)) ne

    column_in_lem : c < length (cells header)
    column_in_lem = omega (arith, there.0, there.1, length-drop 1 (cells header))

    column_name : get_or (cells header) c [] ≡ abundance i
    column_name = sym (column_is c there.0) ∙ same_equal (get_or (drop 1 (cells header)) (c - 1) []) (abundance i) there.2

    one_is : p c ≡ true
    one_is = named c ∙ ap (λ (x : Bytes). same x (abundance i)) column_name ∙ same_self (abundance i)

    -- a second of the same name there is not
    others_not : (j : ℕ) → (j ≡ c → ⊥) → p j ≡ false
    others_not zero d = first_not
    others_not (suc j) d = go (p (suc j)) refl (ltb (suc j) (length (cells header))) refl (ltb (suc j) c) refl
      where
        go : (b : Bool) → p (suc j) ≡ b → (t : Bool) → ltb (suc j) (length (cells header)) ≡ t → (u : Bool) → ltb (suc j) c ≡ u → b ≡ false
        go false q t h u g = refl
        go true q false h u g = sym q ∙ past_not (suc j) (ltb-false (suc j) (length (cells header)) h)
        go true q true h u g = absurd (clash u g)
          where
            alike : get_or (cells header) (suc j) [] ≡ get_or (cells header) c []
            alike = same_equal (get_or (cells header) (suc j) []) (abundance i) (sym (named (suc j)) ∙ q) ∙ sym column_name

            clash : (u : Bool) → ltb (suc j) c ≡ u → ⊥
            clash true g = sound.apart (suc j) c (omega arith) (ltb-true (suc j) c g) column_in_lem (sym alike)
            clash false g =
                let m = ltb-false (suc j) c g in
                sound.apart c (suc j) there.0 (omega arith) (ltb-true (suc j) (length (cells header)) h) alike

  -- WHAT A ROW ADDS is one where its cell is not `null`
  row_adds_lem : (l : Bytes) → adds p 0 (cells l) ≡ bit (is_given (cell_at l c))
  unfolding cell_at
  row_adds_lem l = go (eqb c 0) refl
    where
      go : (t : Bool) → eqb c 0 ≡ t → adds p 0 (cells l) ≡ bit (is_given (cond t none (get_elem? (cells l) c)))
      go true e = adds_none p 0 (cells l) (λ j h. none_is (eqb-true c 0 e) j)
      go false e =
          let ne = eqb-false c 0 e in
          let z : c - 0 ≡ c = omega arith in
          adds_one p 0 c (cells l) (omega arith) (one_is ne) (others_not ne) ∙ rw z

  module _ {m : Marks} (is : Marked header m) where
    marks_alike : (j : ℕ) → marks m.of i j ≡ p j
    marks_alike j = go (ltb j 256) refl
      where
        go : (t : Bool) → ltb j 256 ≡ t → marks m.of i j ≡ p j
        go true h = rw (is.says j (ltb-true j 256 h))
        go false h =
            let l = ltb-false j 256 h in
            rw (is.good.none j (omega (arith, is.good.inside))) (ne_eqb 0 i (λ e. omega arith)) ∙ sym (past_not j (omega (arith, sound.narrow)))

    -- WHAT THE LINES ADD is how many of them are counted
    lines_count : (ls : List Bytes) → lines_add m.of i ls ≡ count (has_in c) ls
    unfolding lines_add count has_in
    lines_count [] = refl
    lines_count (l ∷ ls) = go (coded (row_code mz_tab PROTEIN) l) (is_given (cell_at l c)) refl (lines_count ls)
      where
        row : adds (marks m.of i) 0 (cells l) ≡ bit (is_given (cell_at l c))
        row = adds_alike (marks m.of i) p 0 (cells l) marks_alike ∙ row_adds_lem l

        go : (t u : Bool) → is_given (cell_at l c) ≡ u → lines_add m.of i ls ≡ count (has_in c) ls
            → cond t (adds (marks m.of i) 0 (cells l)) 0 + lines_add m.of i ls ≡ cond (t && u) (suc (count (has_in c) ls)) (count (has_in c) ls)
        go true true e h = omega (arith, row, ap bit e)
        go true false e h = omega (arith, row, ap bit e)
        go false u e h = omega arith

-- THE WEIGHTS of an accepted file are what its lines add
pub weighed_lines : (file : Bytes) → breaks file ≡ [] → {m : Marks} → Marked (header_of file PROTEIN) m → (i : ℕ) → 1 ≤ i → i ≤ 64 → lines_add m.of i (lines file) ≡ weight_of file i
unfolding weight_of
weighed_lines file kept is i lo hi = lines_count (sound_header file kept) i lo hi is (lines file)

-- a weight is at most the number of lines
pub weight_most : (file : Bytes) (i : ℕ) → weight_of file i ≤ length file
unfolding weight_of
weight_most file i = omega (arith, count_most (has_in (column_named (header_of file PROTEIN) (abundance i))) (lines file), lines_most file)

-- EVERY WEIGHT IS ONE THAT A SPLIT TAKES: where some row counts there is a header too, so the rows are fewer than the lines

-- a line with the header's code has not the row's
not_row : (l : Bytes) → coded (header_code mz_tab PROTEIN) l ≡ true → coded (row_code mz_tab PROTEIN) l ≡ false
unfolding coded mz_tab is_section section_of bytes same
not_row l e = ap (λ (x : Bytes). same x (row_code mz_tab PROTEIN)) (same_equal (get_or (cells l) 0 []) (header_code mz_tab PROTEIN) e)

not_has : (c : ℕ) (l : Bytes) → coded (header_code mz_tab PROTEIN) l ≡ true → has_in c l ≡ false
unfolding has_in
not_has c l e = rw (not_row l e)

none_has : (name l : Bytes) → has_in (column_named [] name) l ≡ false
unfolding has_in cell_at place_of split_on
none_has name l = and-false (coded (row_code mz_tab PROTEIN) l)

count_zero : (p : Bytes → Bool) → ((l : Bytes) → p l ≡ false) → (ls : List Bytes) → count p ls ≡ 0
unfolding count
count_zero p h [] = refl
count_zero p h (l ∷ ls) = rw (h l) (count_zero p h ls)

pub weight_small : (file : Bytes) (i : ℕ) → length file ≤ LIMIT → weight_of file i < LIMIT
unfolding weight_of book_of
weight_small file i fits = go (row_of file PROTEIN 0) refl
  where
    go : (o : Option Line) → row_of file PROTEIN 0 ≡ o → count (has_in (column_named (text_of o) (abundance i))) (lines file) < LIMIT
    go none e = omega (arith, count_zero (has_in (column_named [] (abundance i))) (none_has (abundance i)) (lines file))
    go (some l) e =
        let c = column_named l.text (abundance i) in
        let at = header_line file PROTEIN l e in
        let out : has_in c (get_or (lines file) (l.line - 1) []) ≡ false = not_has c (get_or (lines file) (l.line - 1) []) (subst (λ (x : Bytes). coded (header_code mz_tab PROTEIN) x ≡ true) (sym at.2) at.3) in
        omega (arith, count_less (has_in c) (lines file) [] (l.line - 1) (omega (arith, at.0, at.1)) out, lines_most file)
