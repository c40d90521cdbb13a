-- What a scan asks of a book: how many sections, slots and wants it sets room aside for, wants in order, and sound demands. Assumes nothing.
use Prim.Native.Nat.{ℕ, ◌+◌, ◌≤◌, ◌<◌}
use Prim.Native.String.{String}
use mathlib.Core.Path.{◌≡◌, refl}
use mathlib.Core.Bool.{Bool, true, false, ◌&&◌, ◌||◌}
use mathlib.Core.List.{List, [], ◌∷◌}
use native.Mathlib.Omega.{arith}
use lib.Dec.{eqb, ltb}
use lib.ListN.{length}
use borrow.Author.Tests.{leb-true, ltb-true, eqb-true}
use Rattle.text_bytes.specs.Bytes.{Bytes, bytes, same, all, count}
use Rattle.text_bytes.proofs.Laws.Tests.{and_both}
use Rattle.book_names.specs.Names.{entry_of, pieces_from, pieces, spread, start_of}
use Rattle.book_names.proofs.Laws.Known.{holes}
use Rattle.book.specs.Keys.{keys}
use Rattle.book.specs.Book.{SECTIONS, SLOTS, WANTS, CELLS, Book, Demand, ONCE, Want, cell_of, up_from, wants_of, wants_in, wants, last_cell, key_entries, demands, mz_tab, has_form}
use Rattle.book.specs.Text.{book_in}

-- the cells of what is wanted rise, from above k on
unfoldable pub rising : ℕ → List Want → Bool
rising k [] = true
rising k (w ∷ ws) = ltb k (cell_of w) && rising (cell_of w) ws

-- a demand for each id of a family has a form with one place
unfoldable pub is_each : Demand → Bool
is_each d = ltb d.each ONCE && eqb (holes (pieces (bytes d.form))) 1

-- one of the two rules at the end
abbrev pub is_late : Demand → Bool
is_late d = eqb d.rule 21 || eqb d.rule 22

-- a sound demand: just one key has its form
unfoldable pub is_sound : List String → Demand → Bool
is_sound ks d = eqb (count (has_form d.form) ks) 1 && ((eqb d.each ONCE || is_each d) && (ltb d.section SECTIONS && is_late d))

module _ (d : Demand) (h : is_each d ≡ true) where
  pub each_family : d.each < ONCE
  unfolding is_each
  each_family = ltb-true d.each ONCE (and_both (ltb d.each ONCE) (eqb (holes (pieces (bytes d.form))) 1) h).0

  pub each_places : holes (pieces (bytes d.form)) ≡ 1
  unfolding is_each
  each_places = eqb-true (holes (pieces (bytes d.form))) 1 (and_both (ltb d.each ONCE) (eqb (holes (pieces (bytes d.form))) 1) h).1

module _ (ks : List String) (d : Demand) (h : is_sound ks d ≡ true) where
  parts : (eqb (count (has_form d.form) ks) 1 ≡ true) × ((eqb d.each ONCE || is_each d) ≡ true) × (ltb d.section SECTIONS ≡ true) × (is_late d ≡ true)
  unfolding is_sound
  parts =
      let p = and_both (eqb (count (has_form d.form) ks) 1) ((eqb d.each ONCE || is_each d) && (ltb d.section SECTIONS && is_late d)) h in
      let q = and_both (eqb d.each ONCE || is_each d) (ltb d.section SECTIONS && is_late d) p.1 in
      let r = and_both (ltb d.section SECTIONS) (is_late d) q.1 in
      (p.0, q.0, r.0, r.1)

  pub sound_one : count (has_form d.form) ks ≡ 1
  sound_one = eqb-true (count (has_form d.form) ks) 1 parts.0

  pub sound_each : eqb d.each ONCE ≡ false → is_each d ≡ true
  sound_each e = let p = parts.1 in rw e at p

  pub sound_section : d.section < SECTIONS
  sound_section = ltb-true d.section SECTIONS parts.2

  pub sound_late : is_late d ≡ true
  sound_late = parts.3

-- sections are numbered from 1 and below SECTIONS; the keys' slots are below SLOTS; at most WANTS things are wanted, in order, at cells up to CELLS, and each
-- demand is sound
pub record Sized (b : Book) : Type 0 where
  pub low : 1 ≤ b.first
  pub high : b.first + length b.sections ≤ SECTIONS
  pub slots : start_of (key_entries b) (length (key_entries b)) ≤ SLOTS
  pub many : length (wants b) ≤ WANTS
  pub order : rising 0 (wants b) ≡ true
  pub ends : last_cell 0 (wants b) ≤ CELLS
  pub sound : all (is_sound b.keys) b.demands ≡ true

pub book_sized : (t : Bytes) → Sized (book_in t)
unfolding book_in mz_tab keys demands up_from wants_of wants_in rising last_cell is_each is_sound count has_form all same bytes entry_of pieces_from holes spread start_of
book_sized t = record { low = omega arith; high = omega arith; slots = leb-true _ _ refl; many = leb-true _ _ refl; order = refl; ends = leb-true _ _ refl; sound = refl }
