-- What is read: the head of a record, test by test, and the tally by its totals. Assumes nothing.
use mathlib.Core.Path.{◌≡◌, ap, ◌∙◌}
use mathlib.Core.Bool.{true, false, ◌&&◌}
use mathlib.Core.List.{List}
use Prim.Native.Nat.{ℕ}
use lib.Dec.{eqb}
use lib.ListN.{length}
use borrow.Author.Tests.{eq-eqb, ne_eqb, eqb-true}
use Rattle.numbers.specs.Numbers.{NO_RECORD}
use Rattle.text_bytes.specs.Bytes.{Bytes}
use Rattle.text_bytes.specs.Places.{part}
use Rattle.text_bytes.proofs.Laws.Tests.{and_left, and_right}
use Rattle.tally.specs.declared.Tally.{Tally}
use Rattle.tally.specs.Tally.{tally_of, zero as nothing, outcome as told}
use Rattle.tally_records.specs.Records.{RECORD, REST, KIND, number_in, eights_from, is_record, tally_in, read_as}

-- THE HEAD
pub record Head (bs : Bytes) : Type 0 where
  pub size : length bs ≡ RECORD
  pub rest : number_in (part 0 4 bs) ≡ REST
  pub kind : number_in (part 4 6 bs) ≡ KIND

module _ (bs : Bytes) where
  pub other_size : (length bs ≡ RECORD → ⊥) → false ≡ is_record bs
  unfolding is_record
  other_size h = rw (ne_eqb (length bs) RECORD h)

  pub other_length : {n : ℕ} → length bs ≡ RECORD → n ≡ number_in (part 0 4 bs) → (n ≡ REST → ⊥) → false ≡ is_record bs
  unfolding is_record
  other_length {n} e p h = rw (eq-eqb (length bs) RECORD e, ← p, ne_eqb n REST h)

  pub by_kind : {n m : ℕ} → length bs ≡ RECORD → n ≡ number_in (part 0 4 bs) → n ≡ REST → m ≡ number_in (part 4 6 bs) → eqb m KIND ≡ is_record bs
  unfolding is_record
  by_kind {n} {m} e p h q = rw (eq-eqb (length bs) RECORD e, ← p, eq-eqb n REST h, ← q)

  -- all three together
  pub record_head : is_record bs ≡ true → Head bs
  unfolding is_record
  record_head h =
      let kind = eqb (number_in (part 4 6 bs)) KIND in
      let rest = eqb (number_in (part 0 4 bs)) REST in
      let size = eqb (length bs) RECORD in
      let both = and_right size (rest && kind) h in
      record {
        size = eqb-true (length bs) RECORD (and_left size (rest && kind) h);
        rest = eqb-true (number_in (part 0 4 bs)) REST (and_left rest kind both);
        kind = eqb-true (number_in (part 4 6 bs)) KIND (and_right rest kind both);
      }

  -- THE TALLY
  pub read_none : is_record bs ≡ false → told NO_RECORD nothing ≡ read_as bs
  unfolding read_as
  read_none h = rw h

  pub read_whole : is_record bs ≡ true → told 0 (tally_in bs) ≡ read_as bs
  unfolding read_as
  read_whole h = rw h

  -- by its totals
  pub read_totals : {ts : List ℕ} {t : Tally} → is_record bs ≡ true → ts ≡ eights_from 8 6 bs → t ≡ tally_of ts → told 0 t ≡ read_as bs
  unfolding tally_in
  read_totals is e q = ap (told 0) (q ∙ ap tally_of e) ∙ read_whole is
