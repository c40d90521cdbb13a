-- The marks of a header, cell by cell. Assumes nothing.
use mathlib.Core.Path.{◌≡◌, refl, sym, ap, ◌∙◌}
use mathlib.Core.Bool.{Bool, true, false, cond}
use mathlib.Core.List.{List, []}
use Prim.Native.Nat.{ℕ, suc, ◌+◌, ◌-◌, ◌≤◌, ◌<◌}
use native.Mathlib.Omega.{arith}
use lib.Dec.{eqb, ltb}
use lib.ListN.{length, drop, get_or, set, replicate, length-set, length-replicate, get_or-replicate, get_or-eq_default}
use lib.Seq.{get_or-set_same, get_or-set_other}
use borrow.Author.Tests.{eq-eqb, ne_eqb, eqb-true, eqb-false, ltb-true, ltb-false}
use Rattle.text_bytes.specs.Bytes.{Bytes, bytes, begins}
use Rattle.text_bytes.specs.Places.{part, Ends}
use Rattle.text.specs.Lines.{TAB, cells}
use Rattle.text_bytes.proofs.Laws.Pieces.{piece_cut, piece_last}
use Rattle.value_references.specs.References.{ref_in, ref_to}
use Rattle.value_references.proofs.Laws.Names.{ref_le}
use Rattle.scan.proofs.Laws.Celling.{cell_here}
use Rattle.column_marks.specs.Marks.{variable_of, counter_of, mark_of, Marked}
use Rattle.column_marks.specs.Columns.{ABUNDANCE, PSMS, DISTINCT, UNIQUE}
use Rattle.column_marks.specs.declared.Asked.{Asked}
use Rattle.column_marks.specs.declared.Asked.TheVariants.{Variables, Counters}

-- what stands past the last cell has no mark
pub none_marked : (asked : Asked) → mark_of asked [] ≡ 0
unfolding variable_of counter_of ref_to ref_in begins bytes
none_marked Variables = refl
none_marked Counters = refl

counter_most : (name : Bytes) → counter_of name ≤ 64
unfolding counter_of
counter_most name = go (eqb (ref_to PSMS name) 0) (eqb (ref_to DISTINCT name) 0) (eqb (ref_to UNIQUE name) 0)
  where
    go : (p d u : Bool) → cond p (cond d (cond u 0 3) 2) 1 ≤ 64
    go false d u = omega arith
    go true false u = omega arith
    go true true false = omega arith
    go true true true = omega arith

-- the counters are tried one after the other
module _ (name : Bytes) {p : ℕ} (is_p : p ≡ ref_to PSMS name) where
  pub counts_psms : (p ≡ 0 → ⊥) → 1 ≡ counter_of name
  unfolding counter_of
  counts_psms n = rw (sym is_p, ne_eqb p 0 n)

  module _ (no-p : p ≡ 0) {d : ℕ} (is-d : d ≡ ref_to DISTINCT name) where
    pub counts_distinct : (d ≡ 0 → ⊥) → 2 ≡ counter_of name
    unfolding counter_of
    counts_distinct n = rw (sym is_p, eq-eqb p 0 no-p, sym is-d, ne_eqb d 0 n)

    module _ (no-d : d ≡ 0) {u : ℕ} (is-u : u ≡ ref_to UNIQUE name) where
      pub counts_unique : (u ≡ 0 → ⊥) → 3 ≡ counter_of name
      unfolding counter_of
      counts_unique n = rw (sym is_p, eq-eqb p 0 no-p, sym is-d, eq-eqb d 0 no-d, sym is-u, ne_eqb u 0 n)

      pub counts_nothing : u ≡ 0 → 0 ≡ counter_of name
      unfolding counter_of
      counts_nothing z = rw (sym is_p, eq-eqb p 0 no-p, sym is-d, eq-eqb d 0 no-d, sym is-u, eq-eqb u 0 z)

mark_most : (asked : Asked) (name : Bytes) → mark_of asked name ≤ 64
unfolding variable_of
mark_most Variables name = ref_le ABUNDANCE name
mark_most Counters name = counter_most name

-- zeros
pub zero_all : (ws : List ℕ) (i : ℕ) → length ws ≤ i → ((j : ℕ) → j < i → get_or ws j 0 ≡ 0) → (j : ℕ) → get_or ws j 0 ≡ 0
zero_all ws i h z j = go (ltb j i) refl
  where
    go : (t : Bool) → ltb j i ≡ t → get_or ws j 0 ≡ 0
    go true e = z j (ltb-true j i e)
    go false e = let l = ltb-false j i e in get_or-eq_default ws 0 {n = j} (omega arith)

-- the cells before k are marked, and the cells from `at` on are left
pub record SoFar (asked : Asked) (header : Bytes) (at k width : ℕ) (of : List ℕ) : Type 0 where
  pub long : length of ≡ 256
  pub within : width ≤ k
  pub few : k ≤ 256
  pub done : (j : ℕ) → j < k → get_or of j 0 ≡ mark_of asked (get_or (cells header) j [])
  pub none : (j : ℕ) → width ≤ j → get_or of j 0 ≡ 0
  pub left : (j : ℕ) → get_or (cells header) (k + j) [] ≡ get_or (cells (drop at header)) j []

pub marks_start : (asked : Asked) (header : Bytes) → SoFar asked header 0 0 0 (replicate 256 0)
marks_start asked header = record {
  long = refl;
  within = omega arith;
  few = omega arith;
  done = λ j h. absurd (omega arith);
  none = λ j h. zero_all (replicate 256 0) 256 (omega (arith, length-replicate {A = ℕ} 256 0)) (λ i l. get_or-replicate 256 i 0 0 l) j;
  left = λ j. let z : 0 + j ≡ j = omega arith in ap (λ (i : ℕ). get_or (cells header) i []) z;
}

-- marks that say what the cells are can be used
marked_good : (asked : Asked) {header : Bytes} {of : List ℕ} {width : ℕ} → length of ≡ 256 → width ≤ 256 → ((j : ℕ) → width ≤ j → get_or of j 0 ≡ 0)
    → ((j : ℕ) → j < 256 → get_or of j 0 ≡ mark_of asked (get_or (cells header) j [])) → Marked asked header (record { of = of; width = width })
marked_good asked {header} {of} {width} long inside none says = record {
  good = record { long = long; inside = inside; low = λ j. low j (ltb j 256) refl; none = none };
  says = says;
}
  where
    low : (j : ℕ) (t : Bool) → ltb j 256 ≡ t → get_or of j 0 ≤ 64
    low j true h = omega (arith, says j (ltb-true j 256 h), mark_most asked (get_or (cells header) j []))
    low j false h = omega (arith, none j (let n = ltb-false j 256 h in omega arith))

module _ (asked : Asked) {header : Bytes} {at k width : ℕ} {of : List ℕ} (so : SoFar asked header at k width of) where
  -- all cells that have a mark are marked
  pub marks_full : 256 ≤ k → Marked asked header (record { of = of; width = width })
  marks_full h = marked_good asked so.long (omega (arith, so.within, so.few)) so.none (λ j l. so.done j (omega arith))

  module _ {e mark : ℕ} (ends : Ends TAB header at e) (is : mark ≡ mark_of asked (part at e header)) (more : k < 256) where
    here : get_or (cells header) k [] ≡ part at e header
    here =
        let z : k ≡ k + 0 = omega arith in
        ap (λ (i : ℕ). get_or (cells header) i []) z ∙ so.left 0 ∙ ap (λ (cs : List Bytes). get_or cs 0 []) (cell_here ends)

    after : List ℕ
    after = set of k mark

    -- the mark of cell k, and those of the others as they were
    at_k : get_or after k 0 ≡ mark
    unfolding after
    at_k = get_or-set_same of k mark 0 (omega (arith, so.long))

    not_k : (j : ℕ) → (j ≡ k → ⊥) → get_or after j 0 ≡ get_or of j 0
    unfolding after
    not_k j ne = get_or-set_other of k j mark 0 ne

    done_next : (j : ℕ) → j < k + 1 → get_or after j 0 ≡ mark_of asked (get_or (cells header) j [])
    done_next j h = go (eqb j k) refl
      where
        go : (t : Bool) → eqb j k ≡ t → get_or after j 0 ≡ mark_of asked (get_or (cells header) j [])
        go true q = let z : j ≡ k = eqb-true j k q in rw z (at_k ∙ is ∙ ap (mark_of asked) (sym here))
        go false q = not_k j (eqb-false j k q) ∙ so.done j (let n = eqb-false j k q in omega arith)

    wide : ℕ
    wide = cond (eqb mark 0) width (k + 1)

    wide_most : wide ≤ k + 1
    unfolding wide
    wide_most = go (eqb mark 0)
      where
        go : (t : Bool) → cond t width (k + 1) ≤ k + 1
        go true = omega (arith, so.within)
        go false = omega arith

    none_next : (j : ℕ) → wide ≤ j → get_or after j 0 ≡ 0
    unfolding wide
    none_next j = go (eqb mark 0) refl (eqb j k) refl
      where
        go : (t : Bool) → eqb mark 0 ≡ t → (u : Bool) → eqb j k ≡ u → cond t width (k + 1) ≤ j → get_or after j 0 ≡ 0
        go true p true q h = let z : j ≡ k = eqb-true j k q in rw z (at_k ∙ eqb-true mark 0 p)
        go true p false q h = not_k j (eqb-false j k q) ∙ so.none j h
        go false p true q h = absurd (omega (arith, eqb-true j k q))
        go false p false q h = not_k j (eqb-false j k q) ∙ so.none j (omega (arith, so.within))

    pub marks_next : {width' : ℕ} → width' ≡ cond (eqb mark 0) width (k + 1) → e < length header → SoFar asked header (e + 1) (k + 1) width' (set of k mark)
    unfolding after wide
    marks_next w lt = rw w (record {
      long = length-set of k mark ∙ so.long;
      within = wide_most;
      few = omega arith;
      done = done_next;
      none = none_next;
      left = λ j.
          let z : k + 1 + j ≡ k + suc j = omega arith in
          ap (λ (i : ℕ). get_or (cells header) i []) z ∙ so.left (suc j) ∙ ap (λ (cs : List Bytes). get_or cs (suc j) []) (piece_cut ends lt);
    })

    -- past the last cell
    none_left : (j : ℕ) → k + 1 ≤ j → e ≡ length header → get_or (cells header) j [] ≡ []
    none_left j h q =
        let z : j ≡ k + suc (j - k - 1) = omega arith in
        ap (λ (i : ℕ). get_or (cells header) i []) z ∙ so.left (suc (j - k - 1)) ∙ ap (λ (cs : List Bytes). get_or cs (suc (j - k - 1)) []) (piece_last ends q)

    pub marks_last : {width' : ℕ} → width' ≡ cond (eqb mark 0) width (k + 1) → e ≡ length header → Marked asked header (record { of = set of k mark; width = width' })
    unfolding after wide
    marks_last w q = rw w (marked_good asked (length-set of k mark ∙ so.long) (omega (arith, wide_most)) none_next says)
      where
        says : (j : ℕ) → j < 256 → get_or (set of k mark) j 0 ≡ mark_of asked (get_or (cells header) j [])
        says j h = go (ltb j (k + 1)) refl
          where
            go : (t : Bool) → ltb j (k + 1) ≡ t → get_or (set of k mark) j 0 ≡ mark_of asked (get_or (cells header) j [])
            go true u = done_next j (ltb-true j (k + 1) u)
            go false u =
                let past = ltb-false j (k + 1) u in
                none_next j (omega (arith, wide_most)) ∙ sym (ap (mark_of asked) (none_left j past q) ∙ none_marked asked)
