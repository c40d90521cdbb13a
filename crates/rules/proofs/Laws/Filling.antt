-- A file whose rows have `null` in the empty cells where it may stand has the breaks of the file without those of these cells: over lists of lines. And the
-- changes, line by line and cell by cell. Assumes nothing.
use mathlib.Core.Path.{◌≡◌, refl, sym, ap, ◌∙◌}
use mathlib.Core.Bool.{Bool, true, false, cond, not, ◌&&◌, ◌||◌, and-false, and-true}
use mathlib.Core.List.{List, [], ◌∷◌, ◌++◌, append-nil}
use mathlib.Core.Logic.{⊎_elim}
use Prim.Native.Nat.{ℕ, zero, suc, ◌+◌, ◌-◌, ◌≤◌, ◌<◌}
use native.Mathlib.Nat.{eq-or-lt_of_le}
use native.Mathlib.Omega.{arith}
use lib.Dec.{eqb, leb, ltb}
use lib.ListN.{length, get_or, take, drop, take-append-drop}
use borrow.Author.Tests.{eq-eqb, ne_eqb, le-leb, lt-ltb}
use Rattle.text_bytes.specs.Bytes.{Bytes, bytes, same as equalBytes, any, all, is_empty, first_from}
use Rattle.text_bytes.proofs.Laws.Tests.{absurd_bool}
use Rattle.text.specs.Lines.{is_meta, cells, cell, width, control, first_control}
use Rattle.book.specs.Letters.{KEPT, NONE}
use Rattle.book.specs.Book.{Book, column_of}
use Rattle.book_kinds.specs.Kinds.{is_kept, of_kind, cell_of_kind}
use Rattle.values.specs.Values.{is_text, is_null}
use Rattle.rules.specs.Sorts.{sort_of, header, row_in, is_row, is_silent, control_cell}
use Rattle.rules.specs.Breaks.{Break, break_at, break_with, when, Spot, spot, spot_at, Rule, each, at_cell, at_line, in_lines, at_end}
use Rattle.rules.specs.Rules.{is_under, is_as_wide, is_wide, nearest, kind_in, rules, end_rules, ends, breaks_by, flaw_at}
use Rattle.rules.specs.Edited.{kept, Alike, equal, rows, Alikes}
use Rattle.rules.specs.Mended.{NULL, takes_null, is_mended, changes_by}
use Rattle.value_references.specs.declared.index.Flaw.TheVariants.{Form}
use Rattle.rules.specs.declared.sorts.Sort.{Sort}
use Rattle.rules.specs.declared.sorts.Sort.TheVariants.{Silent, Unknown, Meta, Header, Row}
use Rattle.rules.proofs.Laws.Sorting.{meta_in, meta_sort, silent_in, silent_sort}
use Rattle.rules.proofs.Laws.Renewing.{kept_append, kept_each, kept_when, kept_rest, kept_left, kept_alike, each_same, each_none}
use Rattle.rules.proofs.Laws.Alike.{alikes_take, alikes_each, alikes_at, row_alike, row_field, nearest_alike, spot_alike, end_alike}
use Rattle.rules.proofs.Laws.Locality.{rules_local, end_rules_local}

-- `null` may stand in every column but those of text that is never `null`
pub null_stands : (k : ℕ) → cell_of_kind k NULL ≡ not (eqb k KEPT)
unfolding cell_of_kind is_kept is_text is_null NULL bytes equalBytes is_empty
null_stands k = go (eqb k KEPT)
  where
    go : (t : Bool) → cond t (is_kept NULL) (is_null NULL || of_kind k NONE NULL) ≡ not t
    go true = refl
    go false = refl

pub null_some : is_empty NULL ≡ false
unfolding NULL bytes is_empty
null_some = refl

-- ONE RULE OF ALL

-- what a test of the number k keeps of rules that have other numbers: nothing
module _ (k : ℕ) (t : Break → Bool) (p : Spot) (n c : ℕ) where
  abbrev of_rule : Break → Bool
  of_rule g = eqb g.rule k && t g

  pub kept_others : (rs : List Rule) → all (λ r. not (eqb r.number k)) rs ≡ true → kept of_rule (at_cell rs p n c) ≡ []
  unfolding at_cell kept all
  kept_others [] h = refl
  kept_others (r ∷ rs) h = go (eqb r.number k) refl h (kept_others rs)
    where
      go : (u : Bool) → eqb r.number k ≡ u → (not u && all (λ r. not (eqb r.number k)) rs) ≡ true → (all (λ r. not (eqb r.number k)) rs ≡ true → kept of_rule (at_cell rs p n c) ≡ [])
          → kept of_rule (at_cell (r ∷ rs) p n c) ≡ []
      go true e h ih = absurd_bool h
      go false e h ih = kept_when of_rule (r.broken p c) (break_with n c r.number (r.first p c)) (at_cell rs p n c) ∙ rw (e, and-false (r.broken p c)) (ih h)

  at_append : (xs ys : List Rule) → at_cell (xs ++ ys) p n c ≡ at_cell xs p n c ++ at_cell ys p n c
  unfolding at_cell
  at_append [] ys = refl
  at_append (x ∷ xs) ys = rw (at_append xs ys) (go (x.broken p c))
    where
      b : Break
      b = break_with n c x.number (x.first p c)

      go : (u : Bool) → when u b (at_cell xs p n c ++ at_cell ys p n c) ≡ when u b (at_cell xs p n c) ++ at_cell ys p n c
      go true = refl
      go false = refl

  abbrev kept_here : Rule → List Break
  kept_here r = when (r.broken p c && t (break_with n c k (r.first p c))) (break_with n c k (r.first p c)) []

  one_first : (r : Rule) (rs : List Rule) → r.number ≡ k → all (λ r. not (eqb r.number k)) rs ≡ true → kept of_rule (at_cell (r ∷ rs) p n c) ≡ kept_here r
  unfolding at_cell
  one_first r rs e h = kept_when of_rule (r.broken p c) (break_with n c r.number (r.first p c)) (at_cell rs p n c) ∙ rw (e, eq-eqb k k refl, kept_others rs h)

  -- and of rules among which one has it
  pub kept_one : (rs : List Rule) (i : ℕ) (r : Rule) → all (λ r. not (eqb r.number k)) (take i rs) ≡ true → drop i rs ≡ r ∷ drop (suc i) rs → r.number ≡ k
      → all (λ r. not (eqb r.number k)) (drop (suc i) rs) ≡ true → kept of_rule (at_cell rs p n c) ≡ kept_here r
  kept_one rs i r before at number after =
      let whole : rs ≡ take i rs ++ (r ∷ drop (suc i) rs) = sym (take-append-drop i rs) ∙ ap (λ (x : List Rule). take i rs ++ x) at in
      let split : at_cell rs p n c ≡ at_cell (take i rs) p n c ++ at_cell (r ∷ drop (suc i) rs) p n c = ap (λ (x : List Rule). at_cell x p n c) whole ∙ at_append (take i rs) (r ∷ drop (suc i) rs) in
      ap (kept of_rule) split
      ∙ kept_append of_rule (at_cell (take i rs) p n c) (at_cell (r ∷ drop (suc i) rs) p n c)
      ∙ rw (kept_others (take i rs) before) (one_first r (drop (suc i) rs) number after)

-- what stands at the places from i on
pub cons_here : (ls : List Bytes) (i : ℕ) {x : Bytes} {xs : List Bytes} → drop i ls ≡ x ∷ xs → (i < length ls) × (get_or ls i [] ≡ x) × (drop (suc i) ls ≡ xs)
cons_here [] zero e = absurd (omega (arith, ap length e))
cons_here [] (suc i) e = absurd (omega (arith, ap length e))
cons_here (l ∷ ls) zero e = (omega arith, ap (λ (zs : List Bytes). get_or zs 0 []) e, ap (λ (zs : List Bytes). drop 1 zs) e)
cons_here (l ∷ ls) (suc i) e = let r = cons_here ls i e in (omega (arith, r.0), r.1, r.2)

-- WHERE `null` COMES

-- rule 19 is broken at cell c, which holds x, and `null` may stand there
unfoldable pub fills_at : Book → Spot → ℕ → Bytes → Bool
fills_at b p c x = (leb 2 c && ((is_under b p && is_as_wide b p) && is_empty x)) && takes_null b p c

abbrev pub fills : Book → Spot → ℕ → Bool
fills b p c = fills_at b p c (cell c p.here)

-- the change at cell c of line n
abbrev pub hole : Book → Spot → ℕ → ℕ → List Break
hole b p n c = when (fills b p c) (break_at n c 19) []

-- the changes of line n
abbrev pub holes : Book → Spot → ℕ → List Break
holes b p n = each (width p.here) 1 (hole b p n)

-- the same, cell after cell: the changes in the cells xs, the first of which is cell c
unfoldable pub holes_in : Book → Spot → ℕ → ℕ → List Bytes → List Break
holes_in b p n c [] = []
holes_in b p n c (x ∷ xs) = when (fills_at b p c x) (break_at n c 19) (holes_in b p n (suc c) xs)

module _ (b : Book) (p : Spot) (n : ℕ) where
  holes_from : (c : ℕ) (xs : List Bytes) → 1 ≤ c → drop (c - 1) (cells p.here) ≡ xs → each (length xs) c (hole b p n) ≡ holes_in b p n c xs
  unfolding each holes_in cell
  holes_from c [] low e = refl
  holes_from c (x ∷ xs) low e =
      let r = cons_here (cells p.here) (c - 1) e in
      let z : suc c - 1 ≡ suc (c - 1) = omega arith in
      rw (r.1, holes_from (suc c) xs (omega arith) (rw z r.2)) (go (fills_at b p c x))
    where
      go : (u : Bool) → when u (break_at n c 19) [] ++ holes_in b p n (suc c) xs ≡ when u (break_at n c 19) (holes_in b p n (suc c) xs)
      go true = refl
      go false = refl

  pub holes_in_lem : holes b p n ≡ holes_in b p n 1 (cells p.here)
  holes_in_lem = holes_from 1 (cells p.here) (omega arith) refl

-- in rows alone
pub other_fills : (b : Book) (p : Spot) (c : ℕ) (x : Bytes) → is_row b p.here ≡ false → fills_at b p c x ≡ false
unfolding fills_at
other_fills b p c x h = rw (h, and-false (leb 2 c))

silent_other : (b : Book) (l : Bytes) → is_silent l ≡ true → is_row b l ≡ false
silent_other b l h = go (sort_of b l) (sym (silent_sort b l) ∙ h)
  where
    go : (s : Sort) → silent_in s ≡ true → ltb 0 (row_in s) ≡ false
    go Silent e = refl
    go Unknown e = refl
    go Meta e = refl
    go (Header s) e = refl
    go (Row s) e = absurd_bool e

module _ (b : Book) (file : List Bytes) where
  cell_changes : (n c : ℕ) → kept (is_mended b file) (at_cell (rules b) (spot_at file n) n c) ≡ hole b (spot_at file n) n c
  unfolding fills_at rules all
  cell_changes n c = kept_one 19 (λ g. takes_null b (spot_at file g.line) g.cell) (spot_at file n) n c (rules b) 18 (get_or (rules b) 18 (record { number = 0; broken = λ p c. false; first = λ p c. 0 })) refl refl refl refl

  line_changes : (n : ℕ) → kept (is_mended b file) (at_line (rules b) (spot_at file n) n) ≡ holes b (spot_at file n) n
  unfolding at_line kept
  line_changes n = go (is_silent (get_or file (n - 1) [])) refl
    where
      p : Spot
      p = spot_at file n

      f : ℕ → List Break
      f c = kept (is_mended b file) (at_cell (rules b) p n c)

      go : (t : Bool) → is_silent (get_or file (n - 1) []) ≡ t → kept (is_mended b file) (cond t [] (each (width p.here) 1 (at_cell (rules b) p n))) ≡ holes b p n
      go true e = sym (each_none (width p.here) 1 (hole b p n) (λ c l. rw (other_fills b p c (cell c p.here) (silent_other b p.here e))))
      go false e = kept_each (is_mended b file) (at_cell (rules b) p n) (width p.here) 1 ∙ each_same (width p.here) 1 f (hole b p n) (λ c l h. cell_changes n c)

  -- no change is at the end
  end_changes : kept (is_mended b file) (at_end (end_rules b) (ends b) file) ≡ []
  unfolding at_end end_rules all
  end_changes =
      let N = length file + 1 in
      let at : ℕ → List Break = at_cell (end_rules b) (spot_at file N) N in
      kept_each (is_mended b file) at (ends b) 1
      ∙ each_none (ends b) 1 (λ c. kept (is_mended b file) (at c)) (λ c l. kept_others 19 (λ g. takes_null b (spot_at file g.line) g.cell) (spot_at file N) N c (end_rules b) refl)

  -- the changes of a file, line by line
  pub all_changes : changes_by b file ≡ each (length file) 1 (λ n. holes b (spot_at file n) n)
  unfolding changes_by breaks_by in_lines
  all_changes =
      let f : ℕ → List Break = λ n. at_line (rules b) (spot_at file n) n in
      kept_append (is_mended b file) (in_lines (rules b) file) (at_end (end_rules b) (ends b) file)
      ∙ rw (end_changes, append-nil (kept (is_mended b file) (each (length file) 1 f)))
      (kept_each (is_mended b file) f (length file) 1 ∙ each_same (length file) 1 (λ n. kept (is_mended b file) (f n)) (λ n. holes b (spot_at file n) n) (λ n l h. line_changes n))

-- CELLS THAT ARE FILLED

-- the cells of a line from cell c on, with `null` where it comes
unfoldable pub fill_cells : Book → Spot → ℕ → List Bytes → List Bytes
fill_cells b p c [] = []
fill_cells b p c (x ∷ xs) = cond (fills_at b p c x) NULL x ∷ fill_cells b p (suc c) xs

-- a line that is no row stays as it is
module _ (b : Book) (p : Spot) (h : is_row b p.here ≡ false) where
  pub other_cells : (c : ℕ) (xs : List Bytes) → fill_cells b p c xs ≡ xs
  unfolding fill_cells
  other_cells c [] = refl
  other_cells c (x ∷ xs) = rw (other_fills b p c x h, other_cells (suc c) xs)

  pub other_holes : (n c : ℕ) (xs : List Bytes) → holes_in b p n c xs ≡ []
  unfolding holes_in
  other_holes n c [] = refl
  other_holes n c (x ∷ xs) = rw (other_fills b p c x h, other_holes n (suc c) xs)

module _ (b : Book) (p : Spot) where
  pub fill_length : (c : ℕ) (xs : List Bytes) → length (fill_cells b p c xs) ≡ length xs
  unfolding fill_cells
  fill_length c [] = refl
  fill_length c (x ∷ xs) = ap suc (fill_length (suc c) xs)

  pub fill_at : (c : ℕ) (xs : List Bytes) (i : ℕ) → i < length xs → get_or (fill_cells b p c xs) i [] ≡ cond (fills_at b p (c + i) (get_or xs i [])) NULL (get_or xs i [])
  unfolding fill_cells
  fill_at c [] i lt = absurd (omega arith)
  fill_at c (x ∷ xs) zero lt = let e : c + 0 ≡ c = omega arith in rw e
  fill_at c (x ∷ xs) (suc i) lt = let e : c + suc i ≡ suc c + i = omega arith in rw e (fill_at (suc c) xs i (omega arith))

  -- `null` has no control byte
  fill_any : (c : ℕ) (x : Bytes) → any control (cond (fills_at b p c x) NULL x) ≡ any control x
  unfolding fills_at NULL bytes any control is_empty
  fill_any c [] = go (fills_at b p c [])
    where
      go : (t : Bool) → any control (cond t NULL []) ≡ false
      go true = refl
      go false = refl
  fill_any c (x ∷ xs) = rw (and-false (is_under b p && is_as_wide b p), and-false (leb 2 c))

  fill_control : (k c : ℕ) (xs : List Bytes) → first_control k (fill_cells b p c xs) ≡ first_control k xs
  unfolding fill_cells first_from
  fill_control k c [] = refl
  fill_control k c (x ∷ xs) = rw (fill_any c x, fill_control (suc k) (suc c) xs)

-- rules 19 and 20 at a cell that holds x, and at the same cell filled
at_filled : (E X N : Bool) (k : ℕ) (x : Bytes) → is_empty x ≡ X → cell_of_kind k NULL ≡ N → (u : Bool) (b1 b19 b20 : Break)
    → when (u && true) b1 (when ((E && is_empty x) && not (cell_of_kind k NULL)) b19 (when ((E && (not (is_empty x) && not (cell_of_kind k x))) && true) b20 []))
    ≡ when u b1
    (when (E && is_empty (cond ((E && is_empty x) && cell_of_kind k NULL) NULL x)) b19
    (when (E && (not (is_empty (cond ((E && is_empty x) && cell_of_kind k NULL) NULL x)) && not (cell_of_kind k (cond ((E && is_empty x) && cell_of_kind k NULL) NULL x)))) b20 []))
at_filled false X N k x ex en u b1 b19 b20 = rw (and-true u)
at_filled true true true k x ex en u b1 b19 b20 = rw (and-true u, ex, en, null_some, en)
at_filled true true false k x ex en u b1 b19 b20 = rw (and-true u, ex, en, ex)
at_filled true false N k x ex en u b1 b19 b20 = rw (and-true u, ex, ex, and-true (not (cell_of_kind k x)))

-- ONE CELL OF A ROW

module _ (b : Book) (above file : List Bytes) (n : ℕ) where
  -- the row's nearest header is its section's, has not over 256 cells and as many as the row
  abbrev even : ℕ → ℕ → Bool
  even s w = (eqb (header b (nearest b above)) s && not (is_wide (nearest b above))) && eqb w (width (nearest b above))

  abbrev kind : ℕ → ℕ → ℕ
  kind s c = kind_in (column_of b s (cell c (nearest b above)))

  row_flaw : (l : Bytes) (s c : ℕ) → sort_of b l ≡ Row s → flaw_at b (spot above l file) c ≡ Form
  unfolding flaw_at
  row_flaw l s c e = rw (row_field b l s e, e, and-false (leb 2 c))

  row_meta : (l : Bytes) (s : ℕ) → sort_of b l ≡ Row s → is_meta l ≡ false
  row_meta l s e = meta_sort b l ∙ ap meta_in e

  row_later : (l : Bytes) (s c : ℕ) → sort_of b l ≡ Row s → 0 < s → 2 ≤ c → at_cell (rules b) (spot above l file) n c
      ≡ when (eqb (control_cell l) c) (break_at n c 1)
      (when (even s (width l) && is_empty (cell c l)) (break_at n c 19)
      (when (even s (width l) && (not (is_empty (cell c l)) && not (cell_of_kind (kind s c) (cell c l)))) (break_at n c 20) []))
  unfolding rules at_cell
  row_later l s c e z h = rw (row_flaw l s c e, row_meta l s e, e, ne_eqb c 1 (λ q. omega arith), le-leb 2 c h, lt-ltb 0 s z)

  row_one : (l : Bytes) (s : ℕ) → sort_of b l ≡ Row s → 0 < s → at_cell (rules b) (spot above l file) n 1
      ≡ when (eqb (control_cell l) 1) (break_at n 1 1)
      (when (not (eqb (header b (nearest b above)) s)) (break_at n 1 17)
      (when ((eqb (header b (nearest b above)) s && not (is_wide (nearest b above))) && not (eqb (width l) (width (nearest b above)))) (break_at n 1 18) []))
  unfolding rules at_cell
  row_one l s e z = rw (row_flaw l s 1 e, row_meta l s e, e, lt-ltb 0 s z)

  fills_row : (l x : Bytes) (s c : ℕ) → sort_of b l ≡ Row s → 0 < s → 2 ≤ c → fills_at b (spot above l file) c x ≡ ((even s (width l) && is_empty x) && cell_of_kind (kind s c) NULL)
  unfolding fills_at
  fills_row l x s c e z h = rw (e, le-leb 2 c h, lt-ltb 0 s z)

  -- a row and the same row filled
  module _ (l m : Bytes) (s : ℕ) (el : sort_of b l ≡ Row s) (em : sort_of b m ≡ Row s) (z : 0 < s) (w : width m ≡ width l) (k : control_cell m ≡ control_cell l) (t : Break → Bool) where
    -- at a cell after the first
    later_filled : (c : ℕ) → 2 ≤ c → cell c m ≡ cond (fills b (spot above l file) c) NULL (cell c l) → t (break_at n c 1) ≡ true → t (break_at n c 19) ≡ not (cell_of_kind (kind s c) NULL) → t (break_at n c 20) ≡ true
        → kept t (at_cell (rules b) (spot above l file) n c) ≡ at_cell (rules b) (spot above m file) n c
    unfolding kept
    later_filled c h y t1 t19 t20 =
        let E = even s (width l) in
        let x = cell c l in
        let C = cell_of_kind (kind s c) x in
        rw (
          row_later l s c el z h,
          row_later m s c em z h,
          w,
          k,
          kept_when t (eqb (control_cell l) c) (break_at n c 1) (when (E && is_empty x) (break_at n c 19) (when (E && (not (is_empty x) && not C)) (break_at n c 20) [])),
          kept_when t (E && is_empty x) (break_at n c 19) (when (E && (not (is_empty x) && not C)) (break_at n c 20) []),
          kept_when t (E && (not (is_empty x) && not C)) (break_at n c 20) [],
          t1,
          t19,
          t20,
          y,
          fills_row l x s c el z h,
        )
        (at_filled E (is_empty x) (cell_of_kind (kind s c) NULL) (kind s c) x refl refl (eqb (control_cell l) c) (break_at n c 1) (break_at n c 19) (break_at n c 20))

    -- at cell 1
    first_filled : t (break_at n 1 1) ≡ true → t (break_at n 1 17) ≡ true → t (break_at n 1 18) ≡ true → kept t (at_cell (rules b) (spot above l file) n 1) ≡ at_cell (rules b) (spot above m file) n 1
    unfolding kept
    first_filled t1 t17 t18 =
        let H = eqb (header b (nearest b above)) s in
        let U = (H && not (is_wide (nearest b above))) && not (eqb (width l) (width (nearest b above))) in
        rw (
          row_one l s el z,
          row_one m s em z,
          w,
          k,
          kept_when t (eqb (control_cell l) 1) (break_at n 1 1) (when (not H) (break_at n 1 17) (when U (break_at n 1 18) [])),
          kept_when t (not H) (break_at n 1 17) (when U (break_at n 1 18) []),
          kept_when t U (break_at n 1 18) [],
          t1,
          t17,
          t18,
          and-true (eqb (control_cell l) 1),
          and-true (not H),
          and-true U,
        )

-- A LINE

-- a line stands filled: a row has `null` where it comes, any other line is the same
pub data Stood (b : Book) (p : Spot) : Bytes → Type 0 where
  other : is_row b p.here ≡ false → Stood b p p.here
  row : {m : Bytes} {s : ℕ} → sort_of b p.here ≡ Row s → 0 < s → sort_of b m ≡ Row s → cells m ≡ fill_cells b p 1 (cells p.here) → Stood b p m

module _ (b : Book) (file : List Bytes) (n : ℕ) where
  abbrev here : Bytes
  here = get_or file (n - 1) []

  abbrev stays : Break → Bool
  stays g = not (is_mended b file g)

  -- no break of a line that is no row is mended
  other_stays : is_row b here ≡ false → kept stays (at_line (rules b) (spot_at file n) n) ≡ at_line (rules b) (spot_at file n) n
  other_stays h =
      let p = spot_at file n in
      let none : kept (is_mended b file) (at_line (rules b) p n) ≡ [] = line_changes b file n ∙ each_none (width here) 1 (hole b p n) (λ c l. rw (other_fills b p c (cell c here) h)) in
      kept_rest (is_mended b file) (at_line (rules b) p n) none

  -- what is left of the breaks of a line are those of the line as it stands filled
  line_filled : {m : Bytes} → Stood b (spot_at file n) m → kept stays (at_line (rules b) (spot_at file n) n) ≡ at_line (rules b) (spot (take (n - 1) file) m file) n
  unfolding at_line cell
  line_filled (other h) = other_stays h
  line_filled (row {m} {s} el z em ec) =
      let p = spot_at file n in
      let above = take (n - 1) file in
      let w : width m ≡ width here = rw ec (fill_length b p 1 (cells here)) in
      let k : control_cell m ≡ control_cell here = rw ec (fill_control b p 1 1 (cells here)) in
      let body : (c : ℕ) → 1 ≤ c → c < 1 + width here → kept stays (at_cell (rules b) p n c) ≡ at_cell (rules b) (spot above m file) n c = λ c low high. ⊎_elim
      (λ (q : 1 ≡ c). rw (← q) (first_filled b above file n here m s el em z w k stays refl refl refl))
      (λ (q : 1 < c).
      let j : 1 + (c - 1) ≡ c = omega arith in
      let y : cell c m ≡ cond (fills b p c) NULL (cell c here) = rw ec (rw j at (fill_at b p 1 (cells here) (c - 1) (omega arith))) in
      later_filled b above file n here m s el em z w k stays c q y refl (rw el) refl)
      (eq-or-lt_of_le low) in
      rw (row_loud here s el, row_loud m s em, w, kept_each stays (at_cell (rules b) p n) (width here) 1) (each_same (width here) 1 (λ c. kept stays (at_cell (rules b) p n c)) (at_cell (rules b) (spot above m file) n) body)
    where
      row_loud : (l : Bytes) (s : ℕ) → sort_of b l ≡ Row s → is_silent l ≡ false
      row_loud l s e = silent_sort b l ∙ ap silent_in e

-- A FILE

-- as many lines, each filled
pub record Fills (b : Book) (file file' : List Bytes) : Type 0 where
  pub count : length file' ≡ length file
  pub each_line : (n : ℕ) → 1 ≤ n → n ≤ length file → Stood b (spot_at file n) (get_or file' (n - 1) [])

stood_alike : {b : Book} {p : Spot} {m : Bytes} → Stood b p m → Alike b p.here m
stood_alike (other h) = equal
stood_alike (row el z em ec) = rows el em

module _ (b : Book) {file file' : List Bytes} (h : Fills b file file') where
  pub fills_alikes : Alikes b file file'
  fills_alikes = alikes_each b file file' h.count (λ i lt. let j : suc i - 1 ≡ i = omega arith in rw j at (stood_alike (h.each_line (suc i) (omega arith) lt)))

  -- the breaks of the filled file are the old ones without those that are mended
  pub breaks_filled : breaks_by b file' ≡ kept (λ g. not (is_mended b file g)) (breaks_by b file)
  unfolding breaks_by in_lines
  breaks_filled =
      let t : Break → Bool = λ g. not (is_mended b file g) in
      let end = at_end (end_rules b) (ends b) file in
      let f : ℕ → List Break = λ n. at_line (rules b) (spot_at file n) n in
      rw (
        end_alike b (end_rules b) (end_rules_local b) fills_alikes (ends b),
        h.count,
        kept_append t (in_lines (rules b) file) end,
        kept_rest (is_mended b file) end (end_changes b file),
        kept_each t f (length file) 1,
        each_same (length file) 1 (λ n. at_line (rules b) (spot_at file' n) n) (λ n. kept t (f n))
            (λ n p q. spot_alike b (rules b) (rules_local b) fills_alikes n ∙ sym (line_filled b file n (h.each_line n p (omega arith)))),
      )

  -- a change is one of both files, or of none
  mended_alike : (g : Break) → is_mended b file' g ≡ is_mended b file g
  mended_alike g =
      let i = g.line - 1 in
      rw (row_alike b (alikes_at b i fills_alikes), ← nearest_alike b [] (alikes_take b i fills_alikes))

  -- and nothing more is to be mended in it
  pub changes_filled : changes_by b file' ≡ []
  unfolding changes_by
  changes_filled = rw breaks_filled (kept_alike (is_mended b file') (is_mended b file) mended_alike (kept (λ g. not (is_mended b file g)) (breaks_by b file)) ∙ kept_left (is_mended b file) (breaks_by b file))
