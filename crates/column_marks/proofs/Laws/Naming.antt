-- The columns of an accepted file's protein header, by name: no two have one name, so of the cells of a row one at most stands under it. Assumes nothing.
use mathlib.Core.Path.{◌≡◌, refl, sym, ap, subst, ◌∙◌}
use mathlib.Core.Bool.{Bool, true, false, cond, not, ◌&&◌}
use mathlib.Core.List.{List, [], ◌∷◌}
use mathlib.Core.Option.{Option, none, some}
use Prim.Native.Nat.{ℕ, zero, suc, ◌+◌, ◌-◌, ◌≤◌, ◌<◌}
use native.Mathlib.Omega.{arith}
use lib.Dec.{eqb, ltb, leb}
use lib.ListN.{length, drop, get_or, get_elem?, length-drop, get_or-eq_default}
use lib.Seq.{get_or-drop}
use borrow.Author.Tests.{ne_eqb, le-leb, lt-leb, eqb-true, eqb-false, ltb-true, ltb-false, leb-true, leb-false}
use Rattle.text_bytes.specs.Bytes.{Bytes, same, split_on}
use Rattle.text.specs.Lines.{lines, cells, coded}
use Rattle.book.specs.Book.{header_code, mz_tab, is_section, book_of}
use Rattle.text_bytes.proofs.Laws.Same.{same_equal, same_self}
use Rattle.value_references.specs.References.{ref_to}
use Rattle.value_references.proofs.Laws.Names.{ref_le, ref_read, ref_written}
use Rattle.rows.specs.Rows.{Line, row_of, text_of, header_of, place_of, column_named, cell_at}
use Rattle.rows.proofs.Laws.Finding.{header_line}
use Rattle.rules.specs.Sorts.{is_header}
use Rattle.rules.specs.Rules.{breaks}
use Rattle.rules.proofs.Laws.Accepted.{accepted_width, accepted_apart, header_coded}
use Rattle.fee_shares.specs.Sums.{sum_to}
use Rattle.column_marks.specs.Columns.{PROTEIN, INDICES, named}
use Rattle.column_marks.specs.Marks.{mark_of, Marked}
use Rattle.column_marks.specs.Sums.{sum_cells, given}
use Rattle.column_marks.specs.declared.Asked.{Asked}
use Rattle.column_marks.specs.declared.Marks.{Marks}
use Rattle.column_marks.proofs.Laws.Columning.{none_marked}
use Rattle.column_marks.proofs.Laws.Summing.{cells_none, cells_alike, cells_both}

-- a word that neither the first cell of a header is a name of, nor the empty text
pub record Unlike (word : Bytes) : Type 0 where
  pub empty : ref_to word [] ≡ 0
  pub code : ref_to word (header_code mz_tab PROTEIN) ≡ 0

-- a header that an accepted file has: at most 256 cells, no two columns of one name, and its first cell is the name of none
pub record Sound (header : Bytes) : Type 0 where
  pub narrow : length (cells header) ≤ 256
  pub apart : (a b : ℕ) → 1 ≤ a → a < b → b < length (cells header) → get_or (cells header) b [] ≡ get_or (cells header) a [] → ⊥
  pub first : (word : Bytes) → Unlike word → ref_to word (get_or (cells header) 0 []) ≡ 0

sound_none : Sound []
unfolding split_on
sound_none = record { narrow = omega arith; apart = λ a b la ab bw e. omega arith; first = λ word u. u.empty }

not_same : {x y : Bytes} → same x y ≡ false → x ≡ y → ⊥
not_same {x} {y} e q =
    let t : true ≡ false = sym (same_self y) ∙ ap (λ (w : Bytes). same w y) (sym q) ∙ e in
    let z : ◌≡◌ {A = ℕ} 0 1 = cc in
    omega arith

sound_line : (file : Bytes) → breaks file ≡ [] → (n : ℕ) → 1 ≤ n → n ≤ length (lines file) → coded (header_code mz_tab PROTEIN) (get_or (lines file) (n - 1) []) ≡ true
    → Sound (get_or (lines file) (n - 1) [])
unfolding coded book_of mz_tab is_section
sound_line file kept n lo hi e =
    let head : is_header (book_of (lines file)) (get_or (lines file) (n - 1) []) ≡ true = rw (header_coded (lines file) PROTEIN (get_or (lines file) (n - 1) []) refl e) in
    record {
      narrow = accepted_width file kept n lo hi head;
      apart = λ a b la ab bw q. not_same (accepted_apart file kept n lo hi head a b la ab bw) q;
      first = λ word u. ap (ref_to word) (same_equal (get_or (cells (get_or (lines file) (n - 1) [])) 0 []) (header_code mz_tab PROTEIN) e) ∙ u.code;
    }

pub sound_header : (file : Bytes) → breaks file ≡ [] → Sound (header_of file PROTEIN)
unfolding book_of
sound_header file kept = go (row_of file PROTEIN 0) refl
  where
    go : (o : Option Line) → row_of file PROTEIN 0 ≡ o → Sound (text_of o)
    go none e = sound_none
    go (some l) e =
        let at = header_line file PROTEIN l e in
        subst Sound at.2 (sound_line file kept l.line at.0 (omega (arith, at.1)) (subst (λ (x : Bytes). coded (header_code mz_tab PROTEIN) x ≡ true) (sym at.2) at.3))

-- THE MARKS of a sound header are those of all its columns
pub marks_all : {asked : Asked} {header : Bytes} {m : Marks} → Sound header → Marked asked header m → (j : ℕ) → get_or m.of j 0 ≡ mark_of asked (get_or (cells header) j [])
marks_all {asked} {header} {m} sound marked j = go (ltb j 256) refl
  where
    go : (t : Bool) → ltb j 256 ≡ t → get_or m.of j 0 ≡ mark_of asked (get_or (cells header) j [])
    go true h = marked.says j (ltb-true j 256 h)
    go false h =
        let l = ltb-false j 256 h in
        let past = get_or-eq_default (cells header) [] {n = j} (omega (arith, sound.narrow)) in
        marked.good.none j (omega (arith, marked.good.inside)) ∙ sym (ap (mark_of asked) past ∙ none_marked asked)

-- ONE COLUMN: where one passes the test and no other does, the cell there decides
cells_one : (p : ℕ → Bool) (f : Bytes → ℕ) (k c : ℕ) (cs : List Bytes) → k ≤ c → p c ≡ true → ((j : ℕ) → (j ≡ c → ⊥) → p j ≡ false)
    → sum_cells (λ (j : ℕ) (x : Bytes). cond (p j) (f x) 0) k cs ≡ given f (get_elem? cs (c - k))
unfolding sum_cells
cells_one p f k c [] h t n = refl
cells_one p f k c (x ∷ cs) h t n = go (eqb k c) refl (λ l. cells_one p f (suc k) c cs l t n)
  where
    go : (b : Bool) → eqb k c ≡ b → (suc k ≤ c → sum_cells (λ (j : ℕ) (y : Bytes). cond (p j) (f y) 0) (suc k) cs ≡ given f (get_elem? cs (c - suc k)))
        → cond (p k) (f x) 0 + sum_cells (λ (j : ℕ) (y : Bytes). cond (p j) (f y) 0) (suc k) cs ≡ given f (get_elem? (x ∷ cs) (c - k))
    go true e ih =
        let z : c ≡ k = sym (eqb-true k c e) in
        let m : c - k ≡ 0 = omega arith in
        let q : p k ≡ true = ap p (sym z) ∙ t in
        let r = cells_none (λ (j : ℕ) (y : Bytes). cond (p j) (f y) 0) (suc k) cs (λ j d l. rw (n j (λ w. omega arith))) in
        rw (m, q, r) (omega arith)
    go false e ih =
        let ne = eqb-false k c e in
        let m : c - k ≡ suc (c - suc k) = omega arith in
        rw (m, n k ne) (omega (arith, ih (omega arith)))

-- THE PLACE OF A NAME among names, the first of which has the number k
place_there : (k : ℕ) (name : Bytes) (ns : List Bytes) → (place_of k name ns ≡ 0 → ⊥) → (k ≤ place_of k name ns) × (place_of k name ns < k + length ns) × (same (get_or ns (place_of k name ns - k) []) name ≡ true)
unfolding place_of
place_there k name [] ne = absurd (ne refl)
place_there k name (n ∷ ns) ne = go (same n name) refl ne (place_there (suc k) name ns)
  where
    go : (t : Bool) → same n name ≡ t → (cond t k (place_of (suc k) name ns) ≡ 0 → ⊥)
        → ((place_of (suc k) name ns ≡ 0 → ⊥) → (suc k ≤ place_of (suc k) name ns) × (place_of (suc k) name ns < suc k + length ns) × (same (get_or ns (place_of (suc k) name ns - suc k) []) name ≡ true))
        → (k ≤ cond t k (place_of (suc k) name ns)) × (cond t k (place_of (suc k) name ns) < k + suc (length ns)) × (same (get_or (n ∷ ns) (cond t k (place_of (suc k) name ns) - k) []) name ≡ true)
    go true e ne ih = let z : k - k ≡ 0 = omega arith in (omega arith, omega arith, rw z e)
    go false e ne ih =
        let r = ih ne in
        let z : place_of (suc k) name ns - k ≡ suc (place_of (suc k) name ns - suc k) = omega arith in
        (omega arith, omega arith, rw z r.2)

place_none : (k : ℕ) (name : Bytes) (ns : List Bytes) → 1 ≤ k → place_of k name ns ≡ 0 → (i : ℕ) → i < length ns → same (get_or ns i []) name ≡ false
unfolding place_of
place_none k name [] h z i l = absurd (omega arith)
place_none k name (n ∷ ns) h z i l = go (same n name) refl z i l (λ q j m. place_none (suc k) name ns (omega arith) q j m)
  where
    go : (t : Bool) → same n name ≡ t → cond t k (place_of (suc k) name ns) ≡ 0 → (i : ℕ) → i < suc (length ns)
        → (place_of (suc k) name ns ≡ 0 → (j : ℕ) → j < length ns → same (get_or ns j []) name ≡ false) → same (get_or (n ∷ ns) i []) name ≡ false
    go true e z i l ih = absurd (omega arith)
    go false e z zero l ih = e
    go false e z (suc i) l ih = ih z i (omega arith)

module _ {header : Bytes} (sound : Sound header) (word : Bytes) (unlike : Unlike word) where
  -- the index that the name of column j has, if it is of the word
  abbrev index : ℕ → ℕ
  index j = ref_to word (get_or (cells header) j [])

  past_not : (j : ℕ) → length (cells header) ≤ j → index j ≡ 0
  past_not j h = ap (ref_to word) (get_or-eq_default (cells header) [] {n = j} h) ∙ unlike.empty

  column_is : (j : ℕ) → 1 ≤ j → get_or (drop 1 (cells header)) (j - 1) [] ≡ get_or (cells header) j []
  column_is j h = let z : 1 + (j - 1) ≡ j = omega arith in get_or-drop 1 (cells header) (j - 1) [] ∙ ap (λ (x : ℕ). get_or (cells header) x []) z

  module _ (n : ℕ) (lo : 1 ≤ n) (hi : n ≤ INDICES) where
    abbrev p : ℕ → Bool
    p j = eqb (index j) n

    abbrev c : ℕ
    c = column_named header (named word n)

    -- a name has the index n exactly where it reads so
    reads : (j : ℕ) → p j ≡ same (get_or (cells header) j []) (named word n)
    reads j = go (eqb (ref_to word (get_or (cells header) j [])) n) refl (same (get_or (cells header) j []) (named word n)) refl
      where
        go : (t : Bool) → eqb (ref_to word (get_or (cells header) j [])) n ≡ t → (u : Bool) → same (get_or (cells header) j []) (named word n) ≡ u → t ≡ u
        go true e true d = refl
        go false e false d = refl
        go true e false d =
            let q : get_or (cells header) j [] ≡ named word n = ref_read word (get_or (cells header) j []) n (eqb-true (ref_to word (get_or (cells header) j [])) n e) lo in
            absurd (not_same d q)
        go false e true d =
            let q : ref_to word (get_or (cells header) j []) ≡ n = ap (ref_to word) (same_equal (get_or (cells header) j []) (named word n) d) ∙ ref_written word n lo hi in
            absurd (eqb-false (ref_to word (get_or (cells header) j [])) n e q)

    none_of : (j : ℕ) → index j ≡ 0 → p j ≡ false
    none_of j z = rw z (ne_eqb 0 n (λ e. omega arith))

    -- no such column
    none_is : c ≡ 0 → (j : ℕ) → p j ≡ false
    none_is z zero = none_of 0 (sound.first word unlike)
    none_is z (suc j) = go (ltb (suc j) (length (cells header))) refl
      where
        go : (t : Bool) → ltb (suc j) (length (cells header)) ≡ t → p (suc j) ≡ false
        go true h =
            let l = ltb-true (suc j) (length (cells header)) h in
            let w : suc j - 1 ≡ j = omega arith in
            reads (suc j) ∙ ap (λ (x : Bytes). same x (named word n)) (sym (column_is (suc j) (omega arith)) ∙ ap (λ (x : ℕ). get_or (drop 1 (cells header)) x []) w) ∙ place_none 1 (named word n) (drop 1 (cells header)) (omega arith) z j (omega (arith, length-drop 1 (cells header)))
        go false h = none_of (suc j) (past_not (suc j) (ltb-false (suc j) (length (cells header)) h))

    -- the one column
    module _ (ne : c ≡ 0 → ⊥) where
      there : (1 ≤ c) × (c < 1 + length (drop 1 (cells header))) × (same (get_or (drop 1 (cells header)) (c - 1) []) (named word n) ≡ true)
      there = place_there 1 (named word n) (drop 1 (cells header)) ne

      column_in_lem : c < length (cells header)
      column_in_lem = omega (arith, there.0, there.1, length-drop 1 (cells header))

      column_name : get_or (cells header) c [] ≡ named word n
      column_name = sym (column_is c there.0) ∙ same_equal (get_or (drop 1 (cells header)) (c - 1) []) (named word n) there.2

      one_is : p c ≡ true
      one_is = reads c ∙ ap (λ (x : Bytes). same x (named word n)) column_name ∙ same_self (named word n)

      -- a second of the same name there is not
      others_not : (j : ℕ) → (j ≡ c → ⊥) → p j ≡ false
      others_not zero d = none_of 0 (sound.first word unlike)
      others_not (suc j) d = go (p (suc j)) refl (ltb (suc j) (length (cells header))) refl (ltb (suc j) c) refl
        where
          go : (b : Bool) → p (suc j) ≡ b → (t : Bool) → ltb (suc j) (length (cells header)) ≡ t → (u : Bool) → ltb (suc j) c ≡ u → b ≡ false
          go false q t h u g = refl
          go true q false h u g = sym q ∙ none_of (suc j) (past_not (suc j) (ltb-false (suc j) (length (cells header)) h))
          go true q true h u g = absurd (clash u g)
            where
              alike : get_or (cells header) (suc j) [] ≡ get_or (cells header) c []
              alike = same_equal (get_or (cells header) (suc j) []) (named word n) (sym (reads (suc j)) ∙ q) ∙ sym column_name

              clash : (u : Bool) → ltb (suc j) c ≡ u → ⊥
              clash true g = sound.apart (suc j) c (omega arith) (ltb-true (suc j) c g) column_in_lem (sym alike)
              clash false g =
                  let m = ltb-false (suc j) c g in
                  sound.apart c (suc j) there.0 (omega arith) (ltb-true (suc j) (length (cells header)) h) alike

    -- WHAT A ROW ADDS under the name is what its cell adds
    pub row_named : (f : Bytes → ℕ) (l : Bytes) → sum_cells (λ (j : ℕ) (x : Bytes). cond (p j) (f x) 0) 0 (cells l) ≡ given f (cell_at l c)
    unfolding cell_at
    row_named f l = go (eqb c 0) refl
      where
        go : (t : Bool) → eqb c 0 ≡ t → sum_cells (λ (j : ℕ) (x : Bytes). cond (p j) (f x) 0) 0 (cells l) ≡ given f (cond t none (get_elem? (cells l) c))
        go true e = cells_none (λ (j : ℕ) (x : Bytes). cond (p j) (f x) 0) 0 (cells l) (λ j d h. rw (none_is (eqb-true c 0 e) j))
        go false e =
            let ne = eqb-false c 0 e in
            let z : c - 0 ≡ c = omega arith in
            cells_one p f 0 c (cells l) (omega arith) (one_is ne) (others_not ne) ∙ rw z

  -- WHAT A ROW ADDS under all names of the word, index by index
  module _ (f : Bytes → ℕ) (l : Bytes) where
    -- the cells under names with an index up to m
    abbrev up_to : ℕ → ℕ → Bytes → ℕ
    up_to m j x = cond (not (eqb (index j) 0) && leb (index j) m) (f x) 0

    abbrev under : ℕ → ℕ
    under n = given f (cell_at l (column_named header (named word (suc n))))

    one_more : (m j : ℕ) (x : Bytes) → up_to (suc m) j x ≡ up_to m j x + cond (eqb (index j) (suc m)) (f x) 0
    one_more m j x = go (eqb (index j) 0) refl (leb (index j) m) refl (eqb (index j) (suc m)) refl
      where
        go : (t : Bool) → eqb (index j) 0 ≡ t → (u : Bool) → leb (index j) m ≡ u → (v : Bool) → eqb (index j) (suc m) ≡ v
            → cond (not t && leb (index j) (suc m)) (f x) 0 ≡ cond (not t && u) (f x) 0 + cond v (f x) 0
        go true a u b true d = absurd (omega (arith, eqb-true (index j) 0 a, eqb-true (index j) (suc m) d))
        go true a u b false d = refl
        go false a true b true d = absurd (omega (arith, leb-true (index j) m b, eqb-true (index j) (suc m) d))
        go false a true b false d =
            let q = leb-true (index j) m b in
            rw (le-leb (index j) (suc m) (omega arith)) (omega arith)
        go false a false b true d =
            let q = eqb-true (index j) (suc m) d in
            rw (le-leb (index j) (suc m) (omega arith)) (omega arith)
        go false a false b false d =
            let q = leb-false (index j) m b in
            let r = eqb-false (index j) (suc m) d in
            rw (lt-leb (index j) (suc m) (omega arith)) (omega arith)

    row_up_to : (m : ℕ) → m ≤ INDICES → sum_cells (up_to m) 0 (cells l) ≡ sum_to m under
    unfolding sum_to
    row_up_to zero h = cells_none (up_to zero) 0 (cells l) (λ j x k. go j x (eqb (index j) 0) refl)
      where
        go : (j : ℕ) (x : Bytes) (t : Bool) → eqb (index j) 0 ≡ t → cond (not t && leb (index j) 0) (f x) 0 ≡ 0
        go j x true e = refl
        go j x false e = let n = eqb-false (index j) 0 e in rw (lt-leb (index j) 0 (omega arith))
    row_up_to (suc m) h =
        cells_both (up_to m) (λ (j : ℕ) (x : Bytes). cond (eqb (index j) (suc m)) (f x) 0) (up_to (suc m)) 0 (cells l) (one_more m)
        ∙ rw (row_up_to m (omega arith), row_named (suc m) (omega arith) h f l)

    pub row_all : sum_cells (λ (j : ℕ) (x : Bytes). cond (eqb (index j) 0) 0 (f x)) 0 (cells l) ≡ sum_to INDICES under
    row_all = cells_alike (λ (j : ℕ) (x : Bytes). cond (eqb (index j) 0) 0 (f x)) (up_to INDICES) 0 (cells l) (λ j x. go j x (eqb (index j) 0)) ∙ row_up_to INDICES (omega arith)
      where
        go : (j : ℕ) (x : Bytes) (t : Bool) → cond t 0 (f x) ≡ cond (not t && leb (index j) INDICES) (f x) 0
        go j x true = refl
        go j x false = rw (le-leb (index j) INDICES (ref_le word (get_or (cells header) j [])))
