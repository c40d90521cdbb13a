-- The copy with `null` in the empty cells where it may stand: its lines, their ends and cells, its breaks, its length; mended again it stays the same, and a file
-- with nothing to mend is its own copy. Assumes nothing.
use mathlib.Core.Path.{◌≡◌, refl, sym, ap, subst, ◌∙◌}
use mathlib.Core.Bool.{Bool, true, false, cond, ◌&&◌, and-false, or-false}
use mathlib.Core.List.{List, [], ◌∷◌, ◌++◌}
use mathlib.Core.Logic.{⊎_elim}
use Prim.Native.Nat.{ℕ, zero, suc, ◌+◌, ◌-◌, ◌*◌, ◌≤◌, ◌<◌}
use native.Mathlib.Nat.{eq-or-lt_of_le}
use native.Mathlib.Omega.{arith}
use lib.Dec.{eqb, leb}
use lib.ListN.{length, get_or, drop, length-append}
use borrow.Author.Tests.{eq-eqb, ne_eqb, ltb-true}
use Rattle.text_bytes.specs.Bytes.{Bytes, bytes, any, is_empty}
use Rattle.text_bytes.proofs.Laws.Each.{any_append, split_some}
use Rattle.text.specs.Lines.{TAB, lines, cells, cell, width}
use Rattle.text.specs.Joined.{line_ends, joined, tabbed}
use Rattle.text.proofs.Laws.Joining.{lines_joined, cells_tabbed, Filled, none, same, new, filled_cells, filled_some, AllFilled, done, next, joined_filled, ends_filled}
use Rattle.book.specs.Book.{Book, book_of}
use Rattle.rules.specs.Sorts.{sort_of, is_row}
use Rattle.rules.specs.Breaks.{Break, break_at, when, Spot, spot_at, each}
use Rattle.rules.specs.Rules.{is_under, is_as_wide, breaks}
use Rattle.rules.specs.Mended.{NULL, changes_by, changes_of, left_of, is_changed, mended_cells, mended_lines, copy_by, copy_of}
use Rattle.rules.specs.declared.sorts.Sort.TheVariants.{Row}
use Rattle.rules.proofs.Laws.Alike.{row_stays, row_some}
use Rattle.rules.proofs.Laws.Locality.{row_sort}
use Rattle.rules.proofs.Laws.Filling.{null_some, cons_here, fills_at, fills, hole, holes, holes_in, holes_in_lem, all_changes, fill_cells, other_cells, fill_length, fill_at, Stood, other, row, Fills, breaks_filled, changes_filled}

-- WHERE A CHANGE IS

module _ (t : Break → Bool) (f : ℕ → List Break) where
  any_nowhere : (left m : ℕ) → ((j : ℕ) → m ≤ j → any t (f j) ≡ false) → any t (each left m f) ≡ false
  unfolding each any
  any_nowhere zero m h = refl
  any_nowhere (suc left) m h = any_append t (f m) (each left (suc m) f) ∙ rw (h m (omega arith), any_nowhere left (suc m) (λ j l. h j (omega arith)))

  -- f of one number alone has what is sought
  any_each : (i left m : ℕ) → m ≤ i → i < m + left → ((j : ℕ) → (j ≡ i → ⊥) → any t (f j) ≡ false) → any t (each left m f) ≡ any t (f i)
  unfolding each
  any_each i zero m low high h = absurd (omega arith)
  any_each i (suc left) m low high h =
      any_append t (f m) (each left (suc m) f)
      ∙ ⊎_elim
      (λ (e : m ≡ i). rw (any_nowhere left (suc m) (λ j l. h j (λ z. omega arith)), or-false (any t (f m)), e))
      (λ (lt : m < i). rw (h m (λ z. omega arith), any_each i left (suc m) lt (omega arith) h))
      (eq-or-lt_of_le low)

module _ (b : Book) (p : Spot) (n c : ℕ) where
  abbrev at : Break → Bool
  at g = eqb g.line n && eqb g.cell c

  hole_other : (m d : ℕ) → (eqb m n && eqb d c) ≡ false → any at (hole b p m d) ≡ false
  unfolding any
  hole_other m d h = go (fills b p d)
    where
      go : (u : Bool) → any at (when u (break_at m d 19) []) ≡ false
      go true = rw h
      go false = refl

  hole_here : any at (hole b p n c) ≡ fills b p c
  unfolding any
  hole_here = go (fills b p c)
    where
      go : (u : Bool) → any at (when u (break_at n c 19) []) ≡ u
      go true = rw (eq-eqb n n refl, eq-eqb c c refl)
      go false = refl

module _ (b : Book) (file : List Bytes) where
  -- a change is at a cell of a line exactly where `null` comes
  pub changed_fills : (n c : ℕ) → 1 ≤ n → n ≤ length file → 1 ≤ c → c ≤ width (get_or file (n - 1) []) → is_changed (changes_by b file) n c ≡ fills b (spot_at file n) c
  changed_fills n c nl nh cl ch =
      let t : Break → Bool = λ g. eqb g.line n && eqb g.cell c in
      let w : ℕ → ℕ = λ m. width (get_or file (m - 1) []) in
      rw (all_changes b file)
      (any_each t (λ m. holes b (spot_at file m) m) n (length file) 1 nl (omega arith) (λ m ne. any_nowhere t (hole b (spot_at file m) m) (w m) 1 (λ d l. hole_other b (spot_at file m) n c m d (rw (ne_eqb m n ne))))
      ∙ any_each t (hole b (spot_at file n) n) c (w n) 1 cl (omega arith) (λ d ne. hole_other b (spot_at file n) n c n d (rw (ne_eqb d c ne) (and-false (eqb n n))))
      ∙ hole_here b (spot_at file n) n c)

-- CELLS AND LINES

-- the lines from line n on, with `null` where it comes
unfoldable pub fill_lines : Book → List Bytes → ℕ → List Bytes → List Bytes
fill_lines b file n [] = []
fill_lines b file n (l ∷ ls) = tabbed (fill_cells b (spot_at file n) 1 (cells l)) ∷ fill_lines b file (suc n) ls

module _ (gs : List Break) (b : Book) (p : Spot) (n : ℕ) where
  cells_same : (c : ℕ) (xs : List Bytes) → ((i : ℕ) → i < length xs → is_changed gs n (c + i) ≡ fills_at b p (c + i) (get_or xs i [])) → mended_cells gs n c xs ≡ fill_cells b p c xs
  unfolding mended_cells fill_cells
  cells_same c [] h = refl
  cells_same c (x ∷ xs) h =
      let z : c + 0 ≡ c = omega arith in
      let here : is_changed gs n c ≡ fills_at b p c x = rw z at (h 0 (omega arith)) in
      rw (here, cells_same (suc c) xs (λ i lt. let e : c + suc i ≡ suc c + i = omega arith in rw e at (h (suc i) (omega arith))))

module _ (b : Book) (file : List Bytes) where
  cells_filled : (n : ℕ) → 1 ≤ n → n ≤ length file → mended_cells (changes_by b file) n 1 (cells (get_or file (n - 1) [])) ≡ fill_cells b (spot_at file n) 1 (cells (get_or file (n - 1) []))
  unfolding cell
  cells_filled n low high = cells_same (changes_by b file) b (spot_at file n) n 1 (cells (get_or file (n - 1) []))
      (λ i lt. let e : 1 + i - 1 ≡ i = omega arith in changed_fills b file n (1 + i) low high (omega arith) (omega arith) ∙ rw e)

  lines_same : (n : ℕ) (ls : List Bytes) → 1 ≤ n → drop (n - 1) file ≡ ls → mended_lines (changes_by b file) n ls ≡ fill_lines b file n ls
  unfolding mended_lines fill_lines
  lines_same n [] low e = refl
  lines_same n (l ∷ ls) low e =
      let r = cons_here file (n - 1) e in
      let z : suc n - 1 ≡ suc (n - 1) = omega arith in
      let c : mended_cells (changes_by b file) n 1 (cells l) ≡ fill_cells b (spot_at file n) 1 (cells l) =
      subst (λ (x : Bytes). mended_cells (changes_by b file) n 1 (cells x) ≡ fill_cells b (spot_at file n) 1 (cells x)) r.1 (cells_filled n low (omega (arith, r.0))) in
      rw (c, lines_same (suc n) ls (omega arith) (rw z r.2))

  pub lines_mended : mended_lines (changes_by b file) 1 file ≡ fill_lines b file 1 file
  lines_mended = lines_same 1 file (omega arith) refl

  -- `null` is some, and cuts nothing
  fill_filled : (p : Spot) (c : ℕ) (xs : List Bytes) → Filled xs (fill_cells b p c xs)
  unfolding fill_cells NULL bytes any
  fill_filled p c [] = none
  fill_filled p c (x ∷ xs) = go (fills_at b p c x) (fill_filled p (suc c) xs)
    where
      go : (u : Bool) → Filled xs (fill_cells b p (suc c) xs) → Filled (x ∷ xs) (cond u NULL x ∷ fill_cells b p (suc c) xs)
      go true ih = new x NULL null_some refl refl refl ih
      go false ih = same x ih

  all_filled : (n : ℕ) (ls : List Bytes) → AllFilled ls (fill_lines b file n ls)
  unfolding fill_lines
  all_filled n [] = done
  all_filled n (l ∷ ls) = next (fill_filled (spot_at file n) 1 (cells l)) (all_filled (suc n) ls)

  lines_length : (n : ℕ) (ls : List Bytes) → length (fill_lines b file n ls) ≡ length ls
  unfolding fill_lines
  lines_length n [] = refl
  lines_length n (l ∷ ls) = ap suc (lines_length (suc n) ls)

  lines_at : (n i : ℕ) (ls : List Bytes) → i < length ls → get_or (fill_lines b file n ls) i [] ≡ tabbed (fill_cells b (spot_at file (n + i)) 1 (cells (get_or ls i [])))
  unfolding fill_lines
  lines_at n i [] lt = absurd (omega arith)
  lines_at n zero (l ∷ ls) lt = let e : n + 0 ≡ n = omega arith in rw e
  lines_at n (suc i) (l ∷ ls) lt = let e : n + suc i ≡ suc n + i = omega arith in rw e (lines_at (suc n) i ls (omega arith))

  -- cell 1 is never filled
  first_cell : (p : Spot) (l : Bytes) → cell 1 (tabbed (fill_cells b p 1 (cells l))) ≡ cell 1 l
  unfolding cell fills_at
  first_cell p l = rw (filled_cells l (fill_filled p 1 (cells l))) (fill_at b p 1 (cells l) 0 (some (cells l) (λ z. split_some TAB l z)))
    where
      some : (xs : List Bytes) → (length xs ≡ 0 → ⊥) → 0 < length xs
      some [] h = absurd (h refl)
      some (x ∷ xs) h = omega arith

  stood : (n : ℕ) → Stood b (spot_at file n) (tabbed (fill_cells b (spot_at file n) 1 (cells (get_or file (n - 1) []))))
  stood n = go (is_row b l) refl
    where
      l : Bytes
      l = get_or file (n - 1) []

      p : Spot
      p = spot_at file n

      of_row : (s : ℕ) → sort_of b l ≡ Row s → is_row b l ≡ true → Stood b p (tabbed (fill_cells b p 1 (cells l)))
      of_row s e h =
          let f = fill_filled p 1 (cells l) in
          let m = tabbed (fill_cells b p 1 (cells l)) in
          let code : cell 1 m ≡ cell 1 l = first_cell p l in
          row e (ltb-true 0 s (rw e at h)) (row_stays b l m s e (filled_some l f (row_some b l s e)) code) (filled_cells l f)

      go : (u : Bool) → is_row b l ≡ u → Stood b p (tabbed (fill_cells b p 1 (cells l)))
      go true h = let r = row_sort b l h in of_row r.0 r.1 h
      go false h = rw (other_cells b p h 1 (cells l), cells_tabbed l) (other h)

  pub fills_lines : Fills b file (fill_lines b file 1 file)
  fills_lines = record {
    count = lines_length 1 file;
    each_line = λ n low high. let e : 1 + (n - 1) ≡ n = omega arith in rw (lines_at 1 (n - 1) file (omega arith), e) (stood n);
  }

-- NOTHING TO MEND

cells_kept : (n c : ℕ) (xs : List Bytes) → mended_cells [] n c xs ≡ xs
unfolding mended_cells any
cells_kept n c [] = refl
cells_kept n c (x ∷ xs) = rw (cells_kept n (suc c) xs)

lines_kept : (n : ℕ) (ls : List Bytes) → mended_lines [] n ls ≡ ls
unfolding mended_lines
lines_kept n [] = refl
lines_kept n (l ∷ ls) = rw (cells_kept n 1 (cells l), cells_tabbed l, lines_kept (suc n) ls)

-- a file with nothing to mend is copied byte for byte
pub copy_same : (file : Bytes) → changes_of file ≡ [] → copy_of file ≡ file
unfolding copy_by
copy_same file h = rw (h, lines_kept 1 (lines file)) (lines_joined file)

-- THE COPY

module _ (file : Bytes) where
  abbrev book : Book
  book = book_of (lines file)

  copy_filled : lines (copy_of file) ≡ fill_lines book (lines file) 1 (lines file)
  unfolding copy_by
  copy_filled = rw (lines_mended book (lines file)) (joined_filled file (all_filled book (lines file) 1 (lines file)))

  copy_fills : Fills book (lines file) (lines (copy_of file))
  copy_fills = rw copy_filled (fills_lines book (lines file))

  -- its lines are those that are mended
  pub copy_lines : lines (copy_of file) ≡ mended_lines (changes_of file) 1 (lines file)
  copy_lines = copy_filled ∙ sym (lines_mended book (lines file))

  -- each has the end that it had
  pub copy_ends : line_ends (copy_of file) ≡ line_ends file
  unfolding copy_by
  copy_ends = rw (lines_mended book (lines file)) (ends_filled file (all_filled book (lines file) 1 (lines file)))

  pub copy_count : length (lines (copy_of file)) ≡ length (lines file)
  copy_count = copy_fills.count

  -- its breaks are the file's without the mended ones, in the same order with the same numbers
  pub copy_breaks : breaks (copy_of file) ≡ left_of file
  unfolding breaks book_of
  copy_breaks = breaks_filled book copy_fills

  -- nothing is left to mend, and mended again it stays the same
  pub copy_changes : changes_of (copy_of file) ≡ []
  unfolding book_of
  copy_changes = changes_filled book copy_fills

  pub copy_twice : copy_of (copy_of file) ≡ copy_of file
  copy_twice = copy_same (copy_of file) copy_changes

  -- CELL BY CELL
  module _ (n : ℕ) (low : 1 ≤ n) (high : n ≤ length (lines file)) where
    abbrev line : Bytes
    line = get_or (lines file) (n - 1) []

    abbrev line' : Bytes
    line' = get_or (lines (copy_of file)) (n - 1) []

    copy_line : cells line' ≡ fill_cells book (spot_at (lines file) n) 1 (cells line)
    copy_line =
        let e : 1 + (n - 1) ≡ n = omega arith in
        rw (copy_filled, lines_at book (lines file) 1 (n - 1) (lines file) (omega arith), e) (filled_cells line (fill_filled book (lines file) (spot_at (lines file) n) 1 (cells line)))

    -- a line has as many cells as it had
    pub copy_width : width line' ≡ width line
    copy_width = rw copy_line (fill_length book (spot_at (lines file) n) 1 (cells line))

    -- each is `null` where a change is, and else what stood there
    pub copy_cell : (c : ℕ) → 1 ≤ c → c ≤ width line → cell c line' ≡ cond (is_changed (changes_of file) n c) NULL (cell c line)
    unfolding cell
    copy_cell c cl ch =
        let e : 1 + (c - 1) ≡ c = omega arith in
        rw (copy_line, changed_fills book (lines file) n c low high cl ch) (rw e at (fill_at book (spot_at (lines file) n) 1 (cells line) (c - 1) (omega arith)))

-- HOW LONG THE COPY IS

module _ (b : Book) (p : Spot) (n : ℕ) where
  cell_size : (c : ℕ) (x : Bytes) → length (cond (fills_at b p c x) NULL x) ≡ length x + 4 * length (when (fills_at b p c x) (break_at n c 19) [])
  unfolding fills_at NULL bytes is_empty
  cell_size c [] = go (fills_at b p c [])
    where
      go : (u : Bool) → length (cond u NULL []) ≡ 0 + 4 * length (when u (break_at n c 19) [])
      go true = refl
      go false = refl
  cell_size c (x ∷ xs) = rw (and-false (is_under b p && is_as_wide b p), and-false (leb 2 c)) (omega arith)

  when_size : (u : Bool) (g : Break) (gs : List Break) → length (when u g gs) ≡ length (when u g []) + length gs
  when_size true g gs = omega arith
  when_size false g gs = omega arith

  cells_size : (c : ℕ) (xs : List Bytes) → length (tabbed (fill_cells b p c xs)) ≡ length (tabbed xs) + 4 * length (holes_in b p n c xs)
  unfolding fill_cells holes_in tabbed
  cells_size c [] = refl
  cells_size c (x ∷ []) = cell_size c x
  cells_size c (x ∷ (y ∷ ys)) =
      let u = fills_at b p c x in
      let rest = holes_in b p n (suc c) (y ∷ ys) in
      let t = tabbed (fill_cells b p (suc c) (y ∷ ys)) in
      rw (length-append (cond u NULL x) (TAB ∷ t), length-append x (TAB ∷ tabbed (y ∷ ys)), when_size u (break_at n c 19) rest)
      (omega (arith, cell_size c x, cells_size (suc c) (y ∷ ys)))

module _ (b : Book) (file : List Bytes) where
  lines_size : (n : ℕ) (ls es : List Bytes) → 1 ≤ n → drop (n - 1) file ≡ ls
      → length (joined (fill_lines b file n ls) es) ≡ length (joined ls es) + 4 * length (each (length ls) n (λ i. holes b (spot_at file i) i))
  unfolding fill_lines joined each
  lines_size n [] es low e = refl
  lines_size n (l ∷ ls) es low e =
      let r = cons_here file (n - 1) e in
      let z : suc n - 1 ≡ suc (n - 1) = omega arith in
      let p = spot_at file n in
      let h = holes b p n in
      let rest = each (length ls) (suc n) (λ i. holes b (spot_at file i) i) in
      let size : length (tabbed (fill_cells b p 1 (cells l))) ≡ length l + 4 * length h =
      subst (λ (x : Bytes). length (tabbed (fill_cells b p 1 (cells x))) ≡ length x + 4 * length h) r.1
      (cells_size b p n 1 (cells p.here) ∙ rw (cells_tabbed p.here, holes_in_lem b p n)) in
      go es (λ gs. lines_size (suc n) ls gs (omega arith) (rw z r.2)) (length-append h rest) size
    where
      m : Bytes
      m = tabbed (fill_cells b (spot_at file n) 1 (cells l))

      ms : List Bytes
      ms = fill_lines b file (suc n) ls

      H : List Break
      H = holes b (spot_at file n) n

      R : List Break
      R = each (length ls) (suc n) (λ i. holes b (spot_at file i) i)

      go : (es : List Bytes) → ((gs : List Bytes) → length (joined ms gs) ≡ length (joined ls gs) + 4 * length R) → length (H ++ R) ≡ length H + length R → length m ≡ length l + 4 * length H
          → length (joined (m ∷ ms) es) ≡ length (joined (l ∷ ls) es) + 4 * length (H ++ R)
      go [] ih a s = omega (arith, ih [], a, s, length-append m (joined ms []), length-append l (joined ls []))
      go (g ∷ gs) ih a s =
          omega (arith, ih gs, a, s, length-append m (g ++ joined ms gs), length-append g (joined ms gs), length-append l (g ++ joined ls gs), length-append g (joined ls gs))

-- four bytes more for each change
pub copy_length : (file : Bytes) → length (copy_of file) ≡ length file + 4 * length (changes_of file)
unfolding copy_by
copy_length file =
    let b = book_of (lines file) in
    let F = lines file in
    rw (lines_mended b F, all_changes b F) (lines_size b F 1 F (line_ends file) (omega arith) refl ∙ rw (lines_joined file))
