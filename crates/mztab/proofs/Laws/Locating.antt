-- Places that answer what is sought, by the tests that lead to each answer. Assumes nothing.
use mathlib.Core.Path.{◌≡◌, refl, ap, ◌∙◌}
use mathlib.Core.Bool.{true, false}
use mathlib.Core.List.{[], ◌∷◌}
use mathlib.Core.Option.{none, some}
use Prim.Native.Nat.{ℕ, zero, suc, ◌+◌, ◌-◌, ◌≤◌, ◌<◌}
use native.Mathlib.Omega.{arith}
use lib.ListN.{length, take, drop, length-take, length-drop}
use borrow.Author.Tests.{lt-ltb, le-ltb, ne_eqb}
use Rattle.numbers.specs.Numbers.{TOO_LONG, NO_SECTION, NO_ROW, NO_CELL}
use Rattle.numbers.specs.Refusals.{number_of}
use Rattle.numbers.specs.declared.Refusal.{Refusal}
use Rattle.numbers.specs.declared.Refusal.TheVariants.{TooLong, NoSection, NoRow, NoCell, NoRoom, NotAccepted, BelowZero, Past64Bits, NoRecord, NotAsMany, TooLarge, AllZero}
use Rattle.text_bytes.specs.Bytes.{Bytes, is}
use Rattle.text_bytes.specs.Places.{part, after}
use Rattle.text.specs.Lines.{LIMIT, TAB, LF, lines}
use Rattle.text_bytes.proofs.Laws.Parts.{part_part}
use Rattle.rows.specs.Rows.{Line, line_of, row_of, cell_at}
use Rattle.mztab.specs.Shown.{Sought, refused, nowhere, cell_start, sought_row, sought, Shown, given, shown, or_else, Placed, Points, PointsOr}
use denote.Ref.{Bor}
use Rattle.mztab.specs.Readings.{told, unread, reading_of}
use Rattle.mztab.specs.declared.cells.Place.{Place}
use Rattle.value_readings.specs.Reading.{value_of}
use Rattle.value_readings.specs.declared.Value.{Value}
use Rattle.book.specs.Book.{is_section, book_of}

-- no refusal has the number 0
refusal_numbered : (e : Refusal) → number_of e ≡ 0 → ⊥
refusal_numbered TooLong h = omega arith
refusal_numbered NoSection h = omega arith
refusal_numbered NoRow h = omega arith
refusal_numbered NoCell h = omega arith
refusal_numbered NoRoom h = omega arith
refusal_numbered NotAccepted h = omega arith
refusal_numbered BelowZero h = omega arith
refusal_numbered Past64Bits h = omega arith
refusal_numbered NoRecord h = omega arith
refusal_numbered NotAsMany h = omega arith
refusal_numbered TooLarge h = omega arith
refusal_numbered AllZero h = omega arith

-- a refusal's place
pub placed_refused : (f : Bytes) {s : Sought} {n : ℕ} → refused n ≡ s → Placed f s n nowhere
placed_refused f q = record {
  says = ap (λ (x : Sought). x.number) q;
  on = ap (λ (x : Sought). x.line) q;
  at = ap (λ (x : Sought). x.cell) q;
  from = ap (λ (x : Sought). x.start) q;
  starts = omega arith;
  ends = omega arith;
  views = ap (λ (x : Sought). x.view) q;
}

-- what a place says and shows is the answer
pub placed_shown : {f : Bytes} {s : Sought} {n : ℕ} {p : Place} → Placed f s n p → given n (part p.start p.end f) ≡ shown s
placed_shown h = rw (h.says, h.views)

-- the stand-in, by whether the cell is `null`
module _ (n : ℕ) (v other : Bytes) (s : Shown) (e : given n v ≡ s) where
  pub or_null : is v "null" ≡ true → given n other ≡ or_else other s
  unfolding or_else
  or_null t = rw (← e, t)

  pub or_kept : is v "null" ≡ false → given n v ≡ or_else other s
  unfolding or_else
  or_kept t = rw (← e, t)

-- where it stands, by the same
module _ (other file view : Bor Bytes) (start : ℕ) {n : ℕ} {v : Bytes} {s : Shown} (e : given n v ≡ s) where
  pub points_other : is v "null" ≡ true → view ≡ other → PointsOr (is s.view "null") other file start view
  points_other t p = rw (← ap (λ (x : Shown). x.view) e, t) p

  pub points_kept : is v "null" ≡ false → Points file start view → PointsOr (is s.view "null") other file start view
  points_kept t p = rw (← ap (λ (x : Shown). x.view) e, t) p

module _ (f : Bytes) (section row column : ℕ) where
  pub sought_long : LIMIT < length f → refused TOO_LONG ≡ sought f section row column
  unfolding sought
  sought_long h = rw (lt-ltb LIMIT (length f) h)

  module _ (fits : length f ≤ LIMIT) where
    pub sought_nowhere : is_section (book_of (lines f)) section ≡ false → refused NO_SECTION ≡ sought f section row column
    unfolding sought
    sought_nowhere h = rw (le-ltb LIMIT (length f) fits, h)

    module _ (of : is_section (book_of (lines f)) section ≡ true) where
      -- past the first tests, the row decides
      sought_in : sought f section row column ≡ sought_row f (row_of f section row) column
      unfolding sought
      sought_in = rw (le-ltb LIMIT (length f) fits, of)

      pub sought_no_row : row_of f section row ≡ none → refused NO_ROW ≡ sought f section row column
      sought_no_row e = rw (sought_in, e)

      -- and in a row, the column
      module _ (l : Line) (here : row_of f section row ≡ some l) where
        pub sought_no_cell : cell_at l.text column ≡ none → refused NO_CELL ≡ sought f section row column
        sought_no_cell e = rw (sought_in, here, e)

        sought_cell_lem : (view : Bytes) → cell_at l.text column ≡ some view → record { number = 0; line = l.line; cell = column + 1; start = cell_start f l column; view = view } ≡ sought f section row column
        sought_cell_lem view e = rw (sought_in, here, e)

      -- a cell's place, from the place of its line and its place in the line
      pub placed_cell :
          (n a e from to : ℕ) → a ≤ e → e ≤ length f → a ≡ after LF (n - 1) f → row_of f section row ≡ some (line_of n (part a e f))
          → from ≤ to → to ≤ length (part a e f) → from ≡ after TAB column (part a e f) → cell_at (part a e f) column ≡ some (part from to (part a e f))
          → Placed f (sought f section row column) 0 (record { line = n; cell = column + 1; start = a + from; end = a + to })
      placed_cell n a e from to ae ef at here ft tl after-tabs cell =
          let q = sought_cell_lem (line_of n (part a e f)) here (part from to (part a e f)) cell in
          let k : to ≤ e - a = omega (arith, length-take (e - a) (drop a f), length-drop a f) in
          let j : a + to - (a + from) ≡ to - from = omega arith in
          record {
            says = ap (λ (x : Sought). x.number) q;
            on = ap (λ (x : Sought). x.line) q;
            at = ap (λ (x : Sought). x.cell) q;
            from = omega arith ∙ ap (λ (x : Sought). x.start) q;
            starts = omega arith;
            ends = omega arith;
            views = rw (j, ← part_part f a (e - a) from (to - from) (omega arith)) (ap (λ (x : Sought). x.view) q);
          }

-- a reading that is refused, and one that is read
pub placed_unread : {f : Bytes} {s : Sought} (e : Refusal) {p : Place} → Placed f s (number_of e) p → told (number_of e) unread ≡ reading_of s
unfolding reading_of
placed_unread e h = rw (← h.says, ne_eqb (number_of e) 0 (refusal_numbered e))

pub placed_read : {f : Bytes} {s : Sought} {p : Place} → Placed f s 0 p → (v : Value) → v ≡ value_of (part p.start p.end f) → told 0 (record { line = p.line; cell = p.cell; value = v }) ≡ reading_of s
unfolding reading_of
placed_read h v e = rw (e, h.views, h.on, h.at, ← h.says)

-- a part is as many bytes as it has of those from its start on
part_own : (n : ℕ) (l : Bytes) → take n l ≡ take (length (take n l)) l
part_own zero l = refl
part_own (suc n) [] = refl
part_own (suc n) (x ∷ xs) = ap (λ (t : Bytes). x ∷ t) (part_own n xs)

pub part_stands : {f : Bytes} {s : Sought} {n : ℕ} {p : Place} → Placed f s n p → part p.start p.end f ≡ take (length (part p.start p.end f)) (drop s.start f)
part_stands {f} {s} {n} {p} h = part_own (p.end - p.start) (drop p.start f) ∙ ap (λ (a : ℕ). take (length (part p.start p.end f)) (drop a f)) h.from
