-- What is carried of the header says which cells of a row are filled; and a walk from line to line, by what of the copy and the changes is still to come. Assumes
-- nothing.
use mathlib.Core.Path.{◌≡◌, refl, sym, ap, subst, ◌∙◌}
use mathlib.Core.Bool.{Bool, true, false, cond, ◌&&◌, and-false}
use mathlib.Core.List.{List, [], ◌∷◌, ◌++◌}
use Prim.Native.Nat.{ℕ, suc, ◌+◌, ◌-◌, ◌*◌, ◌≤◌, ◌<◌}
use native.Mathlib.Nat.{not-suc-le-zero}
use native.Mathlib.Numerals.{add-one}
use native.Mathlib.Omega.{arith}
use lib.Dec.{eqb, leb}
use lib.ListN.{length, get_or, take, drop, length-take, length-drop}
use lib.Seq.{length-take-le}
use borrow.Author.Tests.{le-leb, lt-ltb, leb-true, eqb-true}
use Rattle.text_bytes.specs.Bytes.{Bytes, is_empty, split_on}
use Rattle.text_bytes.proofs.Laws.Tests.{and_both}
use Rattle.text_bytes.proofs.Laws.Each.{split_some}
use Rattle.text_bytes.specs.Places.{part}
use Rattle.text.specs.Lines.{TAB, lines, cells, cell, width}
use Rattle.text.specs.Joined.{line_ends, joined, tabbed}
use Rattle.text.specs.Places.{LineAt}
use Rattle.text.proofs.Laws.Lines.{lines_done}
use Rattle.text.proofs.Laws.Joining.{ends_next, end_before}
use Rattle.book.specs.Book.{Book}
use Rattle.book.proofs.Laws.Sized.{Sized}
use Rattle.rules.specs.Sorts.{sort_of, header}
use Rattle.rules.specs.Breaks.{Spot, spot, spot_at, each}
use Rattle.rules.specs.Mended.{changes_by, copy_by}
use Rattle.rules.specs.Rules.{is_under, is_as_wide, nearer, nearest, nearest_in, column_kind}
use Rattle.rules.specs.declared.sorts.Sort.{Sort}
use Rattle.rules.specs.declared.sorts.Sort.TheVariants.{Silent, Unknown, Meta, Header, Row}
use Rattle.rules.proofs.Laws.Sorting.{row_section_lem, header_section}
use Rattle.rules.proofs.Laws.Filling.{null_stands, cons_here, fills_at, holes, holes_in, holes_in_lem, all_changes, fill_cells, other_cells, other_holes}
use Rattle.rules.proofs.Laws.Mending.{fill_lines, lines_mended}
use Rattle.scan.specs.Places.{Lent, lent}
use Rattle.scan.specs.Machine.{Kinds}
use Rattle.scan.proofs.Laws.Means.{not_over, cell_suc, kind_at}
use Rattle.scan.proofs.Laws.Following.{nearest_append}
use Rattle.scan.proofs.Laws.Scanning.{lines_above}
use Rattle.mender_places.specs.Places.{lay_all, note_all, Mends}
use Rattle.mender_places.proofs.Laws.Laying.{lay_append, lay_count, note_append}
use Rattle.mender_rows.specs.Rows.{fills_in, filled, found, is_even, row_filled, row_found}
use Rattle.mender.specs.Walk.{sort_filled, sort_found, section_after, width_after, Heads, Passes}

-- A ROW

module _ (b : Book) (sized : Sized b) (above : List Bytes) (l : Bytes) (file : List Bytes) {h w : ℕ} {kinds : List ℕ} (hd : Heads b above h w kinds) where
  abbrev p : Spot
  p = spot above l file

  module _ (s : ℕ) (e : sort_of b l ≡ Row s) where
    even : (is_under b p && is_as_wide b p) ≡ is_even h w s (cells l)
    even = rw (e, lt-ltb 0 s (row_section_lem b sized l s e).0, not_over b sized (width (nearest b above)), ← hd.its_section, ← hd.width_of)

    -- a row that is not judged by its cells
    uneven_fills : is_even h w s (cells l) ≡ false → (c : ℕ) (x : Bytes) → fills_at b p c x ≡ false
    unfolding fills_at
    uneven_fills f c x = rw (even, f, and-false (leb 2 c))

    -- and one that is: at cell c, after the first
    even_fills : is_even h w s (cells l) ≡ true → (c : ℕ) (x : Bytes) → 2 ≤ c → c ≤ w → fills_at b p c x ≡ fills_in (get_or kinds (c - 1) 0) x
    unfolding fills_at
    even_fills f c x low high =
        let q = and_both (eqb h s && leb w 256) (eqb (length (cells l)) w) f in
        let r = and_both (eqb h s) (leb w 256) q.0 in
        let j : suc (c - 1) ≡ c = omega arith in
        let z : suc (c - 1) - 1 ≡ c - 1 = omega arith in
        let section : s ≡ header b (nearest b above) = sym (eqb-true h s r.0) ∙ hd.its_section in
        let at : cell c (nearest b above) ≡ get_or (cells (nearest b above)) (c - 1) [] = rw j at (cell_suc b sized (c - 1) (nearest b above)) in
        let kind : column_kind b p c ≡ get_or kinds (c - 1) 0 =
        rw (e, at, section) (rw z at (kind_at b sized (nearest b above) kinds (c - 1) (omega arith) (omega (arith, hd.width_of)) (omega (arith, hd.width_of, leb-true w 256 r.1)) hd.columns)) in
        rw (even, f, le-leb 2 c low, kind, null_stands (get_or kinds (c - 1) 0))

    uneven_cells : is_even h w s (cells l) ≡ false → (c : ℕ) (xs : List Bytes) → fill_cells b p c xs ≡ xs
    unfolding fill_cells
    uneven_cells f c [] = refl
    uneven_cells f c (x ∷ xs) = rw (uneven_fills f c x, uneven_cells f (suc c) xs)

    uneven_holes : is_even h w s (cells l) ≡ false → (n c : ℕ) (xs : List Bytes) → holes_in b p n c xs ≡ []
    unfolding holes_in
    uneven_holes f n c [] = refl
    uneven_holes f n c (x ∷ xs) = rw (uneven_fills f c x, uneven_holes f n (suc c) xs)

    even_cells : is_even h w s (cells l) ≡ true → (c : ℕ) (xs : List Bytes) → 2 ≤ c → c + length xs ≤ w + 1 → fill_cells b p c xs ≡ filled kinds c xs
    unfolding fill_cells filled
    even_cells f c [] low high = refl
    even_cells f c (x ∷ xs) low high = rw (even_fills f c x low (omega arith), even_cells f (suc c) xs (omega arith) (omega arith))

    even_holes : is_even h w s (cells l) ≡ true → (n c : ℕ) (xs : List Bytes) → 2 ≤ c → c + length xs ≤ w + 1 → holes_in b p n c xs ≡ found kinds n c xs
    unfolding holes_in found
    even_holes f n c [] low high = refl
    even_holes f n c (x ∷ xs) low high = rw (even_fills f c x low (omega arith), even_holes f n (suc c) xs (omega arith) (omega arith))

    -- cell 1 is never filled
    first_fills : (x : Bytes) → fills_at b p 1 x ≡ false
    unfolding fills_at
    first_fills x = refl

    wide : is_even h w s (cells l) ≡ true → length (cells l) ≡ w
    wide f = eqb-true (length (cells l)) w (and_both (eqb h s && leb w 256) (eqb (length (cells l)) w) f).1

    row_cells : (xs : List Bytes) → xs ≡ cells l → fill_cells b p 1 xs ≡ row_filled h w kinds s xs
    unfolding row_filled fill_cells
    row_cells [] e = absurd (split_some TAB l (sym (ap length e)))
    row_cells (x ∷ xs) e = rw (first_fills x) (go (is_even h w s (x ∷ xs)) refl)
      where
        same : is_even h w s (x ∷ xs) ≡ is_even h w s (cells l)
        same = ap (is_even h w s) e

        go : (u : Bool) → is_even h w s (x ∷ xs) ≡ u → x ∷ fill_cells b p 2 xs ≡ cond u (x ∷ filled kinds 2 xs) (x ∷ xs)
        go true f = ap (λ (ys : List Bytes). x ∷ ys) (even_cells (sym same ∙ f) 2 xs (omega arith) (omega (arith, wide (sym same ∙ f), ap length e)))
        go false f = ap (λ (ys : List Bytes). x ∷ ys) (uneven_cells (sym same ∙ f) 2 xs)

    row_holes : (n : ℕ) (xs : List Bytes) → xs ≡ cells l → holes_in b p n 1 xs ≡ row_found h w kinds s n xs
    unfolding row_found holes_in
    row_holes n [] e = absurd (split_some TAB l (sym (ap length e)))
    row_holes n (x ∷ xs) e = rw (first_fills x) (go (is_even h w s (x ∷ xs)) refl)
      where
        same : is_even h w s (x ∷ xs) ≡ is_even h w s (cells l)
        same = ap (is_even h w s) e

        go : (u : Bool) → is_even h w s (x ∷ xs) ≡ u → holes_in b p n 2 xs ≡ cond u (found kinds n 2 xs) []
        go true f = even_holes (sym same ∙ f) n 2 xs (omega arith) (omega (arith, wide (sym same ∙ f), ap length e))
        go false f = uneven_holes (sym same ∙ f) n 2 xs

  -- ANY LINE

  pub line_cells : fill_cells b p 1 (cells l) ≡ sort_filled (sort_of b l) h w kinds (cells l)
  line_cells = go (sort_of b l) refl
    where
      go : (σ : Sort) → sort_of b l ≡ σ → fill_cells b p 1 (cells l) ≡ sort_filled σ h w kinds (cells l)
      go Silent e = other_cells b p (rw e) 1 (cells l)
      go Unknown e = other_cells b p (rw e) 1 (cells l)
      go Meta e = other_cells b p (rw e) 1 (cells l)
      go (Header s) e = other_cells b p (rw e) 1 (cells l)
      go (Row s) e = row_cells s e (cells l) refl

  pub line_holes : (n : ℕ) → holes_in b p n 1 (cells l) ≡ sort_found (sort_of b l) h w kinds n (cells l)
  line_holes n = go (sort_of b l) refl
    where
      go : (σ : Sort) → sort_of b l ≡ σ → holes_in b p n 1 (cells l) ≡ sort_found σ h w kinds n (cells l)
      go Silent e = other_holes b p (rw e) n 1 (cells l)
      go Unknown e = other_holes b p (rw e) n 1 (cells l)
      go Meta e = other_holes b p (rw e) n 1 (cells l)
      go (Header s) e = other_holes b p (rw e) n 1 (cells l)
      go (Row s) e = row_holes s e n (cells l) refl

  -- what is carried after it
  pub heads_next : {h' w' : ℕ} {kinds' : List ℕ} → Passes b l h w kinds h' w' kinds' → Heads b (above ++ (l ∷ [])) h' w' kinds'
  heads_next {h'} {w'} {kinds'} q =
      let e = nearest_append b above l [] in
      record {
        its_section = q.section_next ∙ section (sort_of b l) refl ∙ ap (header b) (sym e);
        width_of = q.width_next ∙ cells_of (sort_of b l) refl ∙ ap width (sym e);
        columns = subst (λ (x : Bytes). Kinds b x kinds') (sym e) (q.columns_after (nearest b above) hd.columns);
      }
    where
      section : (σ : Sort) → sort_of b l ≡ σ → section_after σ h ≡ header b (nearer b l (nearest b above))
      section Silent e = rw e hd.its_section
      section Unknown e = rw e hd.its_section
      section Meta e = rw e hd.its_section
      section (Header s) e = rw (e, lt-ltb 0 s (header_section b sized l s e).0, e)
      section (Row s) e = rw e hd.its_section

      cells_of : (σ : Sort) → sort_of b l ≡ σ → width_after σ w (length (cells l)) ≡ width (nearer b l (nearest b above))
      cells_of Silent e = rw e hd.width_of
      cells_of Unknown e = rw e hd.width_of
      cells_of Meta e = rw e hd.width_of
      cells_of (Header s) e = rw (e, lt-ltb 0 s (header_section b sized l s e).0)
      cells_of (Row s) e = rw e hd.width_of

-- before the first line there is none
pub heads_start : (b : Book) (kinds : List ℕ) → Heads b [] 0 1 kinds
unfolding nearest_in sort_of is_empty split_on
heads_start b kinds = record { its_section = refl; width_of = refl; columns = λ w i lt. absurd (not-suc-le-zero lt) }

-- FROM LINE TO LINE

-- n lines are passed, up to the place `at`: what is laid and noted, and what is still to come, are the copy and the changes
pub record Midway (b : Book) (file : Bytes) (copy₀ changes₀ copy changes kinds : List ℕ) (n to count h w at : ℕ) : Type 0 where
  pub within : at ≤ length file
  pub counted : n ≤ at
  pub left : lines (drop at file) ≡ drop n (lines file)
  pub heads : Heads b (take n (lines file)) h w kinds
  pub columns : length kinds ≡ 256
  pub far : to ≤ 5 * at
  pub few : count ≤ at
  pub copied : lay_all (lent copy to) (joined (fill_lines b (lines file) (suc n) (drop n (lines file))) (line_ends (drop at file))) ≡ lay_all (lent copy₀ 0) (copy_by b file)
  pub noticed : note_all (lent changes count) (each (length (lines file) - n) (suc n) (λ i. holes b (spot_at (lines file) i) i)) ≡ note_all (lent changes₀ 0) (changes_by b (lines file))

pub midway_start : (b : Book) (file : Bytes) (copy changes kinds : List ℕ) → length kinds ≡ 256 → Midway b file copy changes copy changes kinds 0 0 0 0 1 0
unfolding copy_by
midway_start b file copy changes kinds k = record {
  within = omega arith;
  counted = omega arith;
  left = refl;
  heads = heads_start b kinds;
  columns = k;
  far = omega arith;
  few = omega arith;
  copied = ap (lay_all (lent copy 0)) (ap (λ (ms : List Bytes). joined ms (line_ends file)) (sym (lines_mended b (lines file))));
  noticed = let z : length (lines file) - 0 ≡ length (lines file) = omega arith in rw z (ap (note_all (lent changes 0)) (sym (all_changes b (lines file))));
}

module _ (b : Book) (sized : Sized b) {file : Bytes} {copy₀ changes₀ copy changes kinds : List ℕ} {n to count h w at : ℕ} (m : Midway b file copy₀ changes₀ copy changes kinds n to count h w at) where
  abbrev F : List Bytes
  F = lines file

  module _ {end next : ℕ} (line : LineAt file at end next) where
    abbrev l : Bytes
    l = part at end file

    ahead : drop n F ≡ l ∷ lines (drop next file)
    ahead = sym m.left ∙ line.cut

    here : (n < length F) × (get_or F n [] ≡ l) × (drop (suc n) F ≡ lines (drop next file))
    here = cons_here F n ahead

    spot_here : spot_at F (suc n) ≡ spot (take n F) l F
    spot_here = let z : suc n - 1 ≡ n = omega arith in rw (z, here.1)

    -- the copy of the line, its end, and those of the lines after it
    copy_next : joined (fill_lines b F (suc n) (drop n F)) (line_ends (drop at file))
        ≡ tabbed (sort_filled (sort_of b l) h w kinds (cells l)) ++ (part end next file ++ joined (fill_lines b F (suc (suc n)) (drop (suc n) F)) (line_ends (drop next file)))
    unfolding fill_lines joined
    copy_next = rw (ahead, ends_next line, spot_here, line_cells b sized (take n F) l F m.heads, here.2)

    -- the changes of the line, and those of the lines after it
    notes_next : each (length F - n) (suc n) (λ i. holes b (spot_at F i) i) ≡ sort_found (sort_of b l) h w kinds (n + 1) (cells l) ++ each (length F - suc n) (suc (suc n)) (λ i. holes b (spot_at F i) i)
    unfolding each
    notes_next =
        let z : length F - n ≡ suc (length F - suc n) = omega (arith, here.0) in
        let e : holes b (spot_at F (suc n)) (suc n) ≡ sort_found (sort_of b l) h w kinds (suc n) (cells l) =
        ap (λ (p : Spot). holes b p (suc n)) spot_here ∙ holes_in_lem b (spot (take n F) l F) (suc n) ∙ line_holes b sized (take n F) l F m.heads (suc n) in
        rw (z, e, add-one n)

    -- a line further
    pub midway_next : {copy₁ copy₂ changes₁ kinds' : List ℕ} {to₁ to₂ count₁ h' w' n' : ℕ}
        → Mends (tabbed (sort_filled (sort_of b l) h w kinds (cells l))) (sort_found (sort_of b l) h w kinds (n + 1) (cells l)) (5 * length l) (length l) (lent copy to) (lent copy₁ to₁) (lent changes count) (lent changes₁ count₁)
        → Passes b l h w kinds h' w' kinds' → n' ≡ n + 1 → lent copy₂ to₂ ≡ lay_all (lent copy₁ to₁) (part end next file) → Midway b file copy₀ changes₀ copy₂ changes₁ kinds' n' to₂ count₁ h' w' next
    midway_next {copy₁} {copy₂} {changes₁} {kinds'} {to₁} {to₂} {count₁} {h'} {w'} {n'} mends passes e lays =
        let e' : n' ≡ suc n = e ∙ add-one n in
        let long : length l ≡ end - at = length-take-le (end - at) (drop at file) (omega (arith, line.starts, line.ends, length-drop at file)) in
        let rest = joined (fill_lines b F (suc (suc n)) (drop (suc n) F)) (line_ends (drop next file)) in
        let tail : length (part end next file) ≤ next - end = omega (arith, length-take (next - end) (drop end file)) in
        record {
          within = line.within;
          counted = omega (arith, e, line.on, m.counted);
          left = rw e' (sym here.2);
          heads = rw (e', lines_above b F n ahead) (heads_next b sized (take n F) l F m.heads passes);
          columns = passes.kind_places;
          far = omega (arith, mends.most_bytes, m.far, long, tail, ap (λ (o : Lent). o.count) lays, lay_count (part end next file) (lent copy₁ to₁), line.starts, end_before line);
          few = omega (arith, mends.most_changes, m.few, long, line.starts, end_before line);
          copied = rw (e', lays, mends.lays) (sym (lay_append (tabbed (sort_filled (sort_of b l) h w kinds (cells l))) (part end next file ++ rest) (lent copy to) ∙ lay_append (part end next file) rest (lay_all (lent copy to) (tabbed (sort_filled (sort_of b l) h w kinds (cells l))))) ∙ ap (lay_all (lent copy to)) (sym copy_next) ∙ m.copied);
          noticed = rw (e', mends.notes) (sym (note_append (sort_found (sort_of b l) h w kinds (n + 1) (cells l)) (each (length F - suc n) (suc (suc n)) (λ i. holes b (spot_at F i) i)) (lent changes count)) ∙ ap (note_all (lent changes count)) (sym notes_next) ∙ m.noticed);
        }

  -- all lines are passed
  pub midway_end : length file ≤ at → Mends (copy_by b file) (changes_by b F) (5 * length file) (length file) (lent copy₀ 0) (lent copy to) (lent changes₀ 0) (lent changes count)
  unfolding lay_all note_all fill_lines joined each
  midway_end e =
      let none : drop n F ≡ [] = sym m.left ∙ lines_done file at e in
      let z : length F - n ≡ 0 = omega (arith, length-drop n F, ap length none) in
      record {
        lays = rw none at m.copied;
        notes = rw z at m.noticed;
        most_bytes = omega (arith, m.far, m.within);
        most_changes = omega (arith, m.few, m.within);
      }
