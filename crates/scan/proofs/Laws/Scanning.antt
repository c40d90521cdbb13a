-- The scan over the lines of a file: how many breaks there can be, and where it stands after each line. Assumes nothing.
use mathlib.Core.Path.{◌≡◌, refl, sym, ap, ◌∙◌}
use mathlib.Core.Bool.{Bool, true, false, cond, ◌&&◌}
use mathlib.Core.List.{List, [], ◌∷◌, ◌++◌, append_assoc, append-nil}
use Prim.Native.Nat.{ℕ, zero, suc, ◌+◌, ◌-◌, ◌*◌, ◌≤◌}
use native.Mathlib.Nat.{mul-suc}
use native.Mathlib.Numerals.{add-one}
use native.Mathlib.Omega.{arith}
use lib.Dec.{eqb}
use lib.Seq.{get_or-drop, drop-drop, take-suc}
use lib.ListN.{length, take, drop, get_or, length-append, length-take, length-drop}
use Rattle.text_bytes.specs.Bytes.{Bytes, on_first, split_on}
use Rattle.text_bytes.specs.Places.{part}
use Rattle.text.specs.Lines.{LIMIT, lines, starts_lf, width}
use Rattle.text.specs.Places.{LineAt}
use Rattle.text_bytes.proofs.Laws.Pieces.{on_first_length}
use Rattle.text.proofs.Laws.Lines.{lines_done}
use Rattle.book_facts.specs.Asked.{asked_by}
use Rattle.rules.specs.Sorts.{is_silent}
use Rattle.rules.specs.Breaks.{Break, break_with, when, Spot, spot, spot_at, Rule, each, at_cell, at_line, in_lines, at_end}
use Rattle.scan.specs.Places.{FILE_MOST}
use Rattle.scan.specs.Machine.{Ids}
use Rattle.scan.specs.Carried.{line_breaks, Stands, Follows, from, last, Scan}
use Rattle.scan.specs.declared.state.State.{State}
use Rattle.scan.proofs.Laws.Following.{stands_next}
use Rattle.scan.proofs.Laws.Lining.{Knows, means}
use Rattle.book.proofs.Laws.Sized.{Sized}
use Rattle.book.specs.Book.{Book}
use Rattle.rules.specs.Rules.{rules, end_rules, ends, breaks_by}

-- HOW MANY BREAKS THERE CAN BE: at most one of each rule at a cell, and at most two cells a byte

at_bound : (rs : List Rule) (p : Spot) (n c : ℕ) → length (at_cell rs p n c) ≤ length rs
unfolding at_cell
at_bound [] p n c = omega arith
at_bound (r ∷ rs) p n c = go (r.broken p c) (at_bound rs p n c)
  where
    go : (t : Bool) → length (at_cell rs p n c) ≤ length rs → length (when t (break_with n c r.number (r.first p c)) (at_cell rs p n c)) ≤ suc (length rs)
    go true h = omega arith
    go false h = omega arith

-- the number of the rules of a line
RULES : ℕ
RULES = 22

each_bound : (m left c : ℕ) (f : ℕ → List Break) → ((i : ℕ) → length (f i) ≤ m) → length (each left c f) ≤ m * left
unfolding each
each_bound m zero c f h = omega arith
each_bound m (suc left) c f h =
    let s : m * suc left ≡ m + m * left = omega (arith, mul-suc m left) in
    omega (arith, length-append (f c) (each left (suc c) f), h c, each_bound m left (suc c) f h, s)

line_bound : (book : Book) (p : Spot) (n : ℕ) → length (at_line (rules book) p n) ≤ RULES * width p.here
unfolding at_line rules RULES
line_bound book p n = go (is_silent p.here)
  where
    all : length (each (width p.here) 1 (at_cell (rules book) p n)) ≤ 22 * width p.here
    all = each_bound 22 (width p.here) 1 (at_cell (rules book) p n) (at_bound (rules book) p n)

    go : (t : Bool) → length (cond t [] (each (width p.here) 1 (at_cell (rules book) p n))) ≤ 22 * width p.here
    go true = omega arith
    go false = all

widths : List Bytes → ℕ
widths [] = 0
widths (l ∷ ls) = width l + widths ls

cells_front : (x : ℕ) (l : Bytes) → width (x ∷ l) ≤ width l + 1
unfolding split_on
cells_front x l = go (eqb x 9)
  where
    go : (t : Bool) → length (cond t ([] ∷ split_on 9 l) (on_first x (split_on 9 l))) ≤ length (split_on 9 l) + 1
    go true = omega arith
    go false = on_first_length x (split_on 9 l)

front_widths : (x : ℕ) (ls : List Bytes) → widths (on_first x ls) ≤ widths ls + 2
unfolding widths on_first split_on
front_widths x [] = omega (arith, cells_front x [])
front_widths x (l ∷ ls) = omega (arith, cells_front x l)

widths_bound : (b : Bytes) → widths (lines b) ≤ 2 * length b
unfolding lines widths split_on
widths_bound [] = omega arith
widths_bound (x ∷ xs) = go (eqb x 10) (eqb x 13 && starts_lf xs) (widths_bound xs)
  where
    go : (t u : Bool) → widths (lines xs) ≤ 2 * length xs → widths (cond t ([] ∷ lines xs) (cond u (lines xs) (on_first x (lines xs)))) ≤ 2 * suc (length xs)
    go true u h = omega arith
    go false true h = omega arith
    go false false h = omega (arith, front_widths x (lines xs))

module _ (book : Book) (F : List Bytes) (n : ℕ) {l : Bytes} {ls : List Bytes} (e : drop n F ≡ l ∷ ls) where
  line_here : get_or F n [] ≡ l
  line_here =
      let z : n ≡ n + 0 = omega arith in
      ap (λ (k : ℕ). get_or F k []) z ∙ sym (get_or-drop n F 0 []) ∙ ap (λ (q : List Bytes). get_or q 0 []) e

  lines_left : drop (suc n) F ≡ ls
  lines_left =
      let w : suc n ≡ n + 1 = omega arith in
      ap (λ (k : ℕ). drop k F) w ∙ sym (drop-drop 1 n F) ∙ ap (λ (q : List Bytes). drop 1 q) e

  lines_more : length F - n ≡ suc (length F - suc n)
  lines_more = omega (arith, length-drop n F, ap length e)

  pub lines_above : take (suc n) F ≡ take n F ++ (l ∷ [])
  lines_above = take-suc F n [] (omega (arith, length-drop n F, ap length e)) ∙ rw line_here

  -- the breaks of line n + 1, and those of the lines after it
  pub from_next : from book F n ≡ at_line (rules book) (spot (take n F) l F) (suc n) ++ from book F (suc n)
  unfolding each
  from_next =
      let z : suc n - 1 ≡ n = omega arith in
      rw (lines_more, z, line_here)

from_bound : (book : Book) (F : List Bytes) (ls : List Bytes) (n : ℕ) → drop n F ≡ ls → length (from book F n) ≤ 22 * widths ls
unfolding widths each RULES
from_bound book F [] n e = let z : length F - n ≡ 0 = omega (arith, length-drop n F, ap length e) in rw z (omega arith)
from_bound book F (l ∷ ls) n e =
    rw (from_next book F n e)
    (omega (arith, length-append (at_line (rules book) (spot (take n F) l F) (suc n)) (from book F (suc n)), line_bound book (spot (take n F) l F) (suc n), from_bound book F ls (suc n) (lines_left book F n e)))

widths_drop : (n : ℕ) (ls : List Bytes) → widths (drop n ls) ≤ widths ls
unfolding widths
widths_drop zero ls = omega arith
widths_drop (suc n) [] = omega arith
widths_drop (suc n) (l ∷ ls) = omega (arith, widths_drop n ls)

-- all breaks are those of the lines and those at the end
pub breaks_left : (book : Book) (file : Bytes) → breaks_by book (lines file) ≡ from book (lines file) 0 ++ last book (lines file)
unfolding breaks_by in_lines
breaks_left book file = let z : length (lines file) - 0 ≡ length (lines file) = omega arith in rw z

-- so their count fits 32 bits with room, of the lines left and of all
pub left_bound : (book : Book) → Sized book → (b : Bytes) → length b ≤ LIMIT → (n : ℕ) → length (from book (lines b) n ++ last book (lines b)) ≤ FILE_MOST
unfolding at_end end_rules
left_bound book sized b h n =
    let F = lines b in
    omega (
      arith,
      length-append (from book F n) (last book F),
      from_bound book F (drop n F) n refl,
      widths_drop n F,
      widths_bound b,
      each_bound 2 (ends book) 1 (at_cell (end_rules book) (spot_at F (length F + 1)) (length F + 1)) (at_bound (end_rules book) (spot_at F (length F + 1)) (length F + 1)),
      sized.ends,
    )

pub breaks_bound : (book : Book) → Sized book → (b : Bytes) → length b ≤ LIMIT → length (breaks_by book (lines b)) ≤ FILE_MOST
breaks_bound book sized b h = omega (arith, left_bound book sized b h 0, ap length (breaks_left book b))

-- THE SCAN: where it stands, by the place and the number of lines passed
pub scan_start : (book : Book) (file : Bytes) {s : State} {kinds slots : List ℕ} → Stands book [] s kinds slots → Scan book file 0 0 s kinds slots
scan_start book file st = record { within = omega arith; counted = omega arith; passed = omega arith; left = refl; stands = st }

module _ {book : Book} (sized : Sized book) {file : Bytes} {at n : ℕ} {s : State} {kinds slots : List ℕ} (h : Scan book file at n s kinds slots) where
  module _ {end next : ℕ} (line : LineAt file at end next) where
    ahead : drop n (lines file) ≡ part at end file ∷ lines (drop next file)
    ahead = sym h.left ∙ line.cut

    -- a line further
    pub scan_step : {s' : State} {kinds' slots' : List ℕ} → Follows book s kinds slots (n + 1) (part at end file) s' kinds' slots' → Scan book file next (n + 1) s' kinds' slots'
    scan_step af =
        let F = lines file in
        record {
          within = line.within;
          counted = omega (arith, line.on, h.counted);
          passed = omega (arith, length-drop n F, ap length ahead);
          left = rw (add-one n) (sym (lines_left book F n ahead));
          stands = rw (add-one n, lines_above book F n ahead) (stands_next sized (omega (arith, length-take n F, h.passed)) h.stands af);
        }

    -- the breaks of the line, in front of those of the lines after it and those at the end
    pub scan_left : {ids : Ids} → Knows book (lines file) (asked_by s.asking) ids
        → from book (lines file) n ++ last book (lines file) ≡ line_breaks book ids s kinds slots (n + 1) (part at end file) [] ++ (from book (lines file) (n + 1) ++ last book (lines file))
    scan_left k =
        let F = lines file in
        let l = part at end file in
        let bs = at_line (rules book) (spot (take n F) l F) (suc n) in
        ap (λ (xs : List Break). xs ++ last book F) (from_next book F n ahead) ∙ append_assoc bs (from book F (suc n)) (last book F)
        ∙ rw (add-one n) (ap (λ (xs : List Break). xs ++ (from book F (suc n) ++ last book F)) (sym (rw (add-one n) at (means sized k h.stands l (n + 1) []) ∙ append-nil bs)))

  -- all lines are passed
  pub scan_all : length file ≤ at → n ≡ length (lines file)
  scan_all e =
      let none : drop n (lines file) ≡ [] = sym h.left ∙ lines_done file at e in
      omega (arith, h.passed, length-drop n (lines file), ap length none)

  -- and what is left are the breaks at the end
  pub scan_last : length file ≤ at → from book (lines file) n ++ last book (lines file) ≡ last book (lines file)
  unfolding each
  scan_last e = let z : length (lines file) - n ≡ 0 = omega (arith, scan_all e) in rw z
