-- Digits from a place on, one more at a time; and what a cell counts, by how it reads. Assumes nothing.
use mathlib.Core.Path.{◌≡◌, refl, sym, ap, subst, ◌∙◌}
use mathlib.Core.Bool.{Bool, true, false, not, ◌&&◌, ◌||◌, and-false}
use mathlib.Core.List.{[], ◌∷◌, ◌++◌}
use Prim.Native.Nat.{ℕ, zero, suc, ◌+◌, ◌-◌, ◌*◌, ◌≤◌, ◌<◌, ◌^◌}
use native.Mathlib.Nat.{pow-le-pow_right}
use native.Mathlib.Numerals.{add-one}
use native.Mathlib.Omega.{arith}
use lib.Dec.{eqb, ltb, leb, lit<}
use lib.ListN.{length, take, drop, get_or, length-drop, drop_of_length-le}
use lib.Seq.{length-take-le, take-suc, get_or-drop, get_or-take, take_all}
use borrow.Author.Tests.{ne_eqb, eqb-true, le-leb, leb-true, ltb-true, ltb-false}
use Rattle.text_bytes.specs.Bytes.{Bytes, bytes, same, is, is_empty, all}
use Rattle.text_bytes.specs.Places.{part, Ends, up_to}
use Rattle.text_bytes.proofs.Laws.Tests.{absurd_bool, and_both, and_left, and_right, either_second}
use Rattle.text_bytes.proofs.Laws.Each.{all_at}
use Rattle.text_bytes.proofs.Laws.Same.{same_equal}
use Rattle.text_bytes.proofs.Laws.Blocks.{Clear, clear_none, clear_more, clear_ends}
use Rattle.text.specs.Lines.{TAB}
use Rattle.value_references.specs.Index.{is_digit, number}
use Rattle.values.specs.Values.{are_digits, unsigned, is_whole, is_null}
use Rattle.values.proofs.Laws.Digits.{unsigned_plain}
use Rattle.value_readings.specs.Reading.{has_minus}
use Rattle.value_readings.proofs.Laws.Numbers.{number_append, grow}
use Rattle.fee_shares.specs.Sums.{bit}
use Rattle.tally_cells.specs.Counts.{count_of, is_below}
use Rattle.tally_cells.specs.Places.{Writes, Counts}
use Rattle.tally_cells.specs.declared.Digits.{Digits}

pub digit_range : (x : ℕ) → is_digit x ≡ true → (48 ≤ x) × (x ≤ 57)
digit_range x e = (leb-true 48 x (and_left (leb 48 x) (leb x 57) e), leb-true x 57 (and_right (leb 48 x) (leb x 57) e))

-- ONE DIGIT MORE

part_more : (s : Bytes) (from i : ℕ) → from ≤ i → i < length s → part from (i + 1) s ≡ part from i s ++ (get_or s i 0 ∷ [])
part_more s from i h l =
    let z : i + 1 - from ≡ suc (i - from) = omega arith in
    let w : from + (i - from) ≡ i = omega arith in
    ap (λ (k : ℕ). take k (drop from s)) z
    ∙ take-suc (drop from s) (i - from) 0 (omega (arith, length-drop from s))
    ∙ ap (λ (x : ℕ). part from i s ++ (x ∷ [])) (get_or-drop from s (i - from) 0 ∙ ap (λ (j : ℕ). get_or s j 0) w)

all_more : (xs : Bytes) (x : ℕ) → all is_digit xs ≡ true → is_digit x ≡ true → all is_digit (xs ++ (x ∷ [])) ≡ true
unfolding all
all_more [] x h d = rw d
all_more (y ∷ ys) x h d = let q = and_both (is_digit y) (all is_digit ys) h in rw q.0 (all_more ys x q.1 d)

-- the digits up to i, and the number that they write
pub record SoFar (s : Bytes) (from n i : ℕ) : Type 0 where
  pub starts : from ≤ i
  pub within : i ≤ length s
  pub digits : all is_digit (part from i s) ≡ true
  pub is : n ≡ number 0 (part from i s)
  pub small : n < 10 ^ (i - from)

pub so_none : (s : Bytes) (from : ℕ) → from ≤ length s → SoFar s from 0 from
unfolding all number
so_none s from h =
    let z : from - from ≡ 0 = omega arith in
    record { starts = omega arith; within = h; digits = rw z; is = rw z; small = rw z (omega arith) }

pub so_next : {s : Bytes} {from n i d : ℕ} → SoFar s from n i → i < length s → is_digit (get_or s i 0) ≡ true → d ≡ get_or s i 0 - 48 → SoFar s from (n * 10 + d) (i + 1)
unfolding number
so_next {s} {from} {n} {i} {d} so h e q =
    let r = digit_range (get_or s i 0) e in
    let z : i + 1 - from ≡ i - from + 1 = omega (arith, so.starts) in
    record {
      starts = omega (arith, so.starts);
      within = omega arith;
      digits = rw (part_more s from i so.starts h) (all_more (part from i s) (get_or s i 0) so.digits e);
      is = rw (part_more s from i so.starts h, number_append 0 (part from i s) (get_or s i 0 ∷ []), sym so.is, q);
      small = rw z (grow n d (i - from) so.small (omega arith));
    }

-- nine digits are below ten to the ninth
pub so_small : {s : Bytes} {from n i : ℕ} → SoFar s from n i → i ≤ from + 9 → n < 10 ^ 9
so_small {s} {from} {n} {i} so h =
    let few : i - from ≤ 9 = omega arith in
    let p : 10 ^ (i - from) ≤ 10 ^ 9 = pow-le-pow_right (lit< tt) few in
    omega (arith, so.small)

pub so_ends : {s : Bytes} {from n i : ℕ} → SoFar s from n i → i ≤ from + 9 → (i < length s → i < from + 9 → is_digit (get_or s i 0) ≡ false) → Writes s from (record { number = n; end = i })
so_ends so few after = record { starts = so.starts; within = so.within; few = few; digits = so.digits; is = so.is; small = so_small so few; ends = after }

-- digits pass no tab
digits_clear : (l : Bytes) (at k : ℕ) → at + k ≤ length l → all is_digit (take k (drop at l)) ≡ true → (j : ℕ) → j ≤ k → Clear TAB l at j
digits_clear l at k h e zero q = clear_none TAB l at 0 refl
digits_clear l at k h e (suc j) q =
    let long : length (take k (drop at l)) ≡ k = length-take-le k (drop at l) (omega (arith, length-drop at l)) in
    let here : get_or (take k (drop at l)) j 0 ≡ get_or l (at + j) 0 = get_or-take k (drop at l) j 0 (omega arith) ∙ get_or-drop at l j 0 in
    let d = digit_range (get_or l (at + j) 0) (ap is_digit (sym here) ∙ all_at is_digit (take k (drop at l)) 0 j e (omega arith)) in
    subst (λ (x : ℕ). Clear TAB l at x) (add-one j) (clear_more TAB l at j (omega arith) (λ z. omega arith) (digits_clear l at k h e j (omega arith)))

up_to_end : (l : Bytes) (i : ℕ) → length l ≤ i → up_to TAB (drop i l) ≡ 0
unfolding up_to
up_to_end l i h = rw (drop_of_length-le l h)

-- A CELL OF DIGITS ALONE

not_null : (l : Bytes) → get_or l 0 0 ≤ 57 → is_null l ≡ false
unfolding is_null bytes same
not_null [] h = refl
not_null (x ∷ xs) h = rw (ne_eqb x 110 (λ e. omega arith))

plain_whole : (l : Bytes) → 0 < length l → length l ≤ 9 → all is_digit l ≡ true → (get_or l 0 0 ≡ 45 → ⊥) → is_whole l ≡ true
unfolding is_whole are_digits is_empty
plain_whole [] h k e n = absurd (omega arith)
plain_whole (x ∷ xs) h k e n = rw (← unsigned_plain (x ∷ xs) n, e) (le-leb (suc (length xs)) 9 k)

module _ {line : Bytes} {at : ℕ} {d : Digits} (w : Writes line at d) (some : d.end ≡ at → ⊥) where
  cell : Bytes
  cell = part at d.end line

  cell_long : length cell ≡ d.end - at
  unfolding cell
  cell_long = length-take-le (d.end - at) (drop at line) (omega (arith, length-drop at line, w.within, w.starts))

  first_digit : (48 ≤ get_or cell 0 0) × (get_or cell 0 0 ≤ 57)
  unfolding cell
  first_digit = digit_range (get_or cell 0 0) (all_at is_digit cell 0 0 w.digits (omega (arith, cell_long, w.starts)))

  -- it ends at a tab, or with the line
  ends_here : (d.end < length line → get_or line d.end 0 ≡ TAB) → Ends TAB line at d.end
  ends_here tab = go (ltb d.end (length line)) refl
    where
      z : at + (d.end - at) ≡ d.end
      z = omega (arith, w.starts)

      clear : Clear TAB line at (d.end - at)
      clear = digits_clear line at (d.end - at) (omega (arith, w.within, w.starts)) w.digits (d.end - at) (omega arith)

      go : (t : Bool) → ltb d.end (length line) ≡ t → Ends TAB line at d.end
      go true e =
          let h = ltb-true d.end (length line) e in
          subst (Ends TAB line at) z (clear_ends TAB line at (d.end - at) (omega (arith, z)) (ap (λ (i : ℕ). get_or line i 0) z ∙ tab h) clear)
      go false e =
          let h = ltb-false d.end (length line) e in
          record { starts = w.starts; within = w.within; at = omega (arith, clear, z, up_to_end line (at + (d.end - at)) (omega (arith, z))) }

  pub digits_count : (d.end < length line → get_or line d.end 0 ≡ TAB) → Counts line at (record { end = d.end; count = d.number; missing = 0; below = 0 })
  unfolding cell count_of is_below has_minus
  digits_count tab =
      let whole : is_whole cell ≡ true = plain_whole cell (omega (arith, cell_long, w.starts)) (omega (arith, cell_long, w.few)) w.digits (λ e. omega (arith, first_digit.0)) in
      record {
        ends = ends_here tab;
        count = w.is ∙ rw (whole, ← unsigned_plain cell (λ e. omega (arith, first_digit.0)));
        missing = rw (not_null cell first_digit.1);
        below = rw (ne_eqb (get_or cell 0 0) 45 (λ e. omega (arith, first_digit.0)));
        small = w.small;
      }

-- ANY OTHER CELL

module _ {line : Bytes} {at e : ℕ} (ends : Ends TAB line at e) where
  pub null_count : is_null (part at e line) ≡ true → Counts line at (record { end = e; count = 0; missing = 1; below = 0 })
  unfolding is_null count_of is_below has_minus is_whole are_digits unsigned is_empty all bytes
  null_count h =
      let q = same_equal (part at e line) (bytes "null") h in
      record { ends = ends; count = rw q; missing = rw h; below = rw q; small = omega arith }

  module _ (given : is_null (part at e line) ≡ false) where
    pub text_count : is_whole (part at e line) ≡ false → Counts line at (record { end = e; count = 0; missing = 0; below = 0 })
    unfolding count_of is_below
    text_count h = record { ends = ends; count = rw h; missing = rw given; below = rw (h, and-false (has_minus (part at e line))); small = omega arith }

    module _ (whole : is_whole (part at e line) ≡ true) where
      -- it has a byte, and all after a minus are digits, nine at most
      unsigned_digits : all is_digit (unsigned (part at e line)) ≡ true
      unfolding is_whole are_digits
      unsigned_digits = and_right (not (is_empty (unsigned (part at e line)))) _ (and_left (are_digits (unsigned (part at e line))) _ whole)

      unsigned_few : length (unsigned (part at e line)) ≤ 9
      unfolding is_whole
      unsigned_few = leb-true (length (unsigned (part at e line))) 9 (and_right (are_digits (unsigned (part at e line))) _ whole)

      pub some_byte : 0 < length (part at e line)
      unfolding is_whole are_digits unsigned is_empty
      some_byte = go (part at e line) whole
        where
          go : (l : Bytes) → is_whole l ≡ true → 0 < length l
          go [] h = absurd_bool h
          go (x ∷ xs) h = omega arith

      -- the digits are all of it
      module _ {d : Digits} (w : Writes (unsigned (part at e line)) 0 d) where
        all_read : d.end ≡ length (unsigned (part at e line))
        all_read = go (ltb d.end (length (unsigned (part at e line)))) refl
          where
            go : (t : Bool) → ltb d.end (length (unsigned (part at e line))) ≡ t → d.end ≡ length (unsigned (part at e line))
            go true h =
                let l = ltb-true d.end (length (unsigned (part at e line))) h in
                absurd_bool (sym (w.ends l (omega (arith, unsigned_few))) ∙ all_at is_digit (unsigned (part at e line)) 0 d.end unsigned_digits l)
            go false h = let l = ltb-false d.end (length (unsigned (part at e line))) h in omega (arith, w.within)

        is_count : d.number ≡ count_of (part at e line)
        unfolding count_of
        is_count =
            let z : d.end - 0 ≡ length (unsigned (part at e line)) = omega (arith, all_read) in
            w.is ∙ rw (z, take_all (length (unsigned (part at e line))) (unsigned (part at e line)) (omega arith), whole)

        pub whole_count : {b : ℕ} → b ≡ bit (eqb (get_or (part at e line) 0 0) 45 && not (eqb d.number 0)) → Counts line at (record { end = e; count = d.number; missing = 0; below = b })
        unfolding is_below has_minus
        whole_count q = record { ends = ends; count = is_count; missing = rw given; below = q ∙ rw is_count; small = w.small }

-- where a cell ends before the line does, a tab stands
pub tab_there : (l : Bytes) (i : ℕ) → (eqb i (length l) || eqb (get_or l i 0) TAB) ≡ true → i < length l → get_or l i 0 ≡ TAB
tab_there l i e h = eqb-true (get_or l i 0) TAB (sym (either_second (eqb i (length l)) (eqb (get_or l i 0) TAB) (ne_eqb i (length l) (λ q. omega arith))) ∙ e)
