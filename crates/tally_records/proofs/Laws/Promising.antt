-- The promises of `write` and `read`, from what they ensure: what is refused, what stands in the buffer, and that what one writes the other reads, and the other
-- way round. Assumes nothing.
use mathlib.Core.Path.{◌≡◌, refl, sym, ap, ◌∙◌}
use mathlib.Core.Bool.{Bool, true, false}
use mathlib.Core.List.{◌++◌, append_assoc}
use Prim.Native.Nat.{ℕ, ◌+◌, ◌-◌, ◌≤◌, ◌<◌}
use native.Mathlib.Omega.{arith}
use lib.Dec.{ltb}
use lib.ListN.{length, take, drop, length-append, length-drop}
use lib.Seq.{take_at, get_or-append-add, get_or-drop}
use borrow.Author.Tests.{ltb-true, ltb-false, eq-eqb}
use Rattle.numbers.specs.Numbers.{NO_ROOM, NO_RECORD}
use Rattle.text_bytes.specs.Bytes.{Bytes}
use Rattle.text_bytes.specs.Places.{part}
use Rattle.tally.specs.declared.Tally.{Tally}
use Rattle.tally.specs.Tally.{totals, tally_of, zero, Within, outcome as told}
use Rattle.tally_records.specs.Records.{RECORD, REST, KIND, little, number_in, in_eights, eights_from, record_of, is_record, tally_in, outcome, written, write_once, read_as, read_once}
use Rattle.tally_records.specs.Promised.{AreBytes, Granted}
use Rattle.tally_records.proofs.Laws.Little.{length_little, part_rest, part_little}
use Rattle.tally_records.proofs.Laws.Eights.{length_eights, eights_read, eights_written}
use Rattle.tally_records.proofs.Laws.Writing.{write_short, write_long}
use Rattle.tally_records.proofs.Laws.Reading.{record_head, read_none, read_whole}

-- THE RECORD

pub record_length : (t : Tally) → length (record_of t) ≡ RECORD
unfolding record_of
record_length t =
    let ns = in_eights (totals t) in
    omega (arith, length-append (little 4 REST) (little 2 KIND ++ ns), length-append (little 2 KIND) ns, length_little 4 REST, length_little 2 KIND, length_eights (totals t))

-- the record of a tally is one
record_is : (t : Tally) → is_record (record_of t) ≡ true
unfolding is_record record_of little number_in
record_is t = rw (eq-eqb (length (record_of t)) RECORD (record_length t))

-- and holds it
record_holds : (t : Tally) → Within t → tally_in (record_of t) ≡ t
unfolding tally_in record_of
record_holds t h =
    let head : Bytes = little 4 REST ++ little 2 KIND in
    let l : length head ≡ 6 = omega (arith, length-append (little 4 REST) (little 2 KIND), length_little 4 REST, length_little 2 KIND) in
    rw (rw (append_assoc (little 4 REST) (little 2 KIND) (in_eights (totals t))) at (eights_read (totals t) head 6 h l))

totals_eights : (at : ℕ) (bs : Bytes) → totals (tally_of (eights_from 8 at bs)) ≡ eights_from 8 at bs
unfolding eights_from
totals_eights at bs = refl

-- what is a record is that of the tally that it holds
record_same : (bs : Bytes) → AreBytes bs → is_record bs ≡ true → record_of (tally_in bs) ≡ bs
unfolding record_of tally_in
record_same bs h r =
    let is = record_head bs r in
    let size = is.size in
    let head : little 4 REST ≡ part 0 4 bs = rw is.rest at (part_little bs 0 4 h (omega arith)) in
    let kind : little 2 KIND ≡ part 4 6 bs = rw is.kind at (part_little bs 4 2 h (omega arith)) in
    rw (totals_eights 6 bs, head, kind, eights_written 8 6 bs h (omega arith), part_rest bs 4 2) (part_rest bs 0 4)

-- WRITING

pub write_refused : (t : Tally) (ys : Bytes) {n k : ℕ} {xs : Bytes} → length ys < RECORD → outcome n k xs ≡ written t ys → (n ≡ NO_ROOM) × (k ≡ 0) × (xs ≡ ys)
write_refused t ys h call = write_once t ys call (write_short t ys h)

pub write_granted : (t : Tally) (ys : Bytes) {n k : ℕ} {xs : Bytes} → RECORD ≤ length ys → outcome n k xs ≡ written t ys → Granted t ys n k xs
write_granted t ys h call =
    let is = write_once t ys call (write_long t ys h) in
    let size = record_length t in
    record {
      number = is.0;
      answer = is.1;
      front = rw is.2 (take_at (record_of t) (drop RECORD ys) RECORD size);
      long = rw is.2 (omega (arith, length-append (record_of t) (drop RECORD ys), length-drop RECORD ys));
      behind = λ i l.
          let e : length (record_of t) + (i - RECORD) ≡ i = omega arith in
          let f : RECORD + (i - RECORD) ≡ i = omega arith in
          rw is.2 (rw e at (get_or-append-add (record_of t) (drop RECORD ys) (i - RECORD) 0) ∙ rw f at (get_or-drop RECORD ys (i - RECORD) 0));
    }

-- where the number is 0 there was room, and the bytes that were written are the record
pub write_done : (t : Tally) (ys : Bytes) {n k : ℕ} {xs : Bytes} → n ≡ 0 → outcome n k xs ≡ written t ys → take k xs ≡ record_of t
write_done t ys {k = k} {xs = xs} z call = go (ltb (length ys) RECORD) refl
  where
    go : (b : Bool) → ltb (length ys) RECORD ≡ b → take k xs ≡ record_of t
    go true e = absurd (omega (arith, (write_refused t ys (ltb-true (length ys) RECORD e) call).0, z))
    go false e = let g = write_granted t ys (ltb-false (length ys) RECORD e) call in rw g.answer g.front

-- READING

pub read_refused : (bs : Bytes) {n : ℕ} {t : Tally} → is_record bs ≡ false → told n t ≡ read_as bs → (n ≡ NO_RECORD) × (t ≡ zero)
read_refused bs h call = read_once bs call (read_none bs h)

pub read_granted : (bs : Bytes) {n : ℕ} {t : Tally} → is_record bs ≡ true → told n t ≡ read_as bs → (n ≡ 0) × (t ≡ tally_in bs)
read_granted bs h call = read_once bs call (read_whole bs h)

-- where the number is 0 the bytes are a record
pub read_done : (bs : Bytes) {n : ℕ} {t : Tally} → n ≡ 0 → told n t ≡ read_as bs → is_record bs ≡ true
read_done bs z call = go (is_record bs) refl
  where
    go : (b : Bool) → is_record bs ≡ b → b ≡ true
    go true e = refl
    go false e = absurd (omega (arith, (read_refused bs e call).0, z))

-- WHAT IS WRITTEN IS READ: over the definitions, and over the two calls

pub record_read : (t : Tally) → Within t → told 0 t ≡ read_as (record_of t)
record_read t h = ap (told 0) (sym (record_holds t h)) ∙ read_whole (record_of t) (record_is t)

pub read_written : (t : Tally) (ys : Bytes) {n k m : ℕ} {xs : Bytes} {s : Tally} → Within t → n ≡ 0 → outcome n k xs ≡ written t ys → told m s ≡ read_as (take k xs) → (m ≡ 0) × (s ≡ t)
read_written t ys {k = k} {xs = xs} h z wrote call = read_once (take k xs) call (rw (write_done t ys z wrote) (record_read t h))

-- WHAT IS READ IS WRITTEN AGAIN: the same two ways

pub record_again : (bs : Bytes) {n : ℕ} {t : Tally} → AreBytes bs → n ≡ 0 → told n t ≡ read_as bs → record_of t ≡ bs
record_again bs h z call = let is = read_done bs z call in rw (read_granted bs is call).1 (record_same bs h is)

pub written_read : (bs ys : Bytes) {n m k : ℕ} {t : Tally} {xs : Bytes} → AreBytes bs → n ≡ 0 → told n t ≡ read_as bs → m ≡ 0 → outcome m k xs ≡ written t ys → take k xs ≡ bs
written_read bs ys {t = t} h z call y wrote = write_done t ys y wrote ∙ record_again bs h z call
