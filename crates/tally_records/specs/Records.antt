-- Tallies as records: paper 02, request 2026-09. Assumes nothing.
use Rattle.std.specs.Prelude.{ℕ, zero, suc, ◌+◌, ◌*◌, ◌/◌, ◌%◌, ◌≡◌, Bool, cond, ◌&&◌, List, [], ◌∷◌, ◌++◌, length, drop, eqb, ltb}
use Rattle.std.proofs.Common.{sym, ap, ◌∙◌}
use Rattle.numbers.specs.Numbers.{NO_ROOM, NO_RECORD}
use Rattle.text_bytes.specs.Bytes.{Bytes}
use Rattle.text_bytes.specs.Places.{part}
use Rattle.tally.specs.declared.Tally.{Tally}
use Rattle.tally.specs.Tally.{totals, tally_of, Outcome as Told, answered, outcome as told, outcome_once}

-- a number in so many bytes, the lowest first; what has no room in them is left out
unfoldable pub little : ℕ → ℕ → Bytes
little zero n = []
little (suc w) n = n % 256 ∷ little w (n / 256)

-- the number that bytes are, the lowest first
unfoldable pub number_in : Bytes → ℕ
number_in [] = 0
number_in (b ∷ bs) = b + 256 * number_in bs

-- numbers one after the other, each in eight bytes
unfoldable pub in_eights : List ℕ → Bytes
in_eights [] = []
in_eights (n ∷ ns) = little 8 n ++ in_eights ns

-- so many numbers of eight bytes each, from place `at` on
unfoldable pub eights_from : ℕ → ℕ → Bytes → List ℕ
eights_from zero at bs = []
eights_from (suc k) at bs = number_in (part at (at + 8) bs) ∷ eights_from k (at + 8) bs

-- a record has 70 bytes, of which 66 follow the length; the kind of a tally is 1
abbrev pub RECORD : ℕ
RECORD = 70

abbrev pub REST : ℕ
REST = 66

abbrev pub KIND : ℕ
KIND = 1

-- THE RECORD OF A TALLY: four bytes the length of the rest, two the kind, then the eight totals
unfoldable pub record_of : Tally → Bytes
record_of t = little 4 REST ++ (little 2 KIND ++ in_eights (totals t))

-- whether bytes are one
unfoldable pub is_record : Bytes → Bool
is_record bs = eqb (length bs) RECORD && (eqb (number_in (part 0 4 bs)) REST && eqb (number_in (part 4 6 bs)) KIND)

-- the tally that one holds
unfoldable pub tally_in : Bytes → Tally
tally_in bs = tally_of (eights_from 8 6 bs)

-- what writing gives: the number, how many bytes were written, and the buffer afterwards
pub record Outcome : Type 0 where
  pub number : ℕ
  pub length : ℕ
  pub buffer : Bytes

abbrev pub outcome : ℕ → ℕ → Bytes → Outcome
outcome n k bs = record { number = n; length = k; buffer = bs }

-- WRITING: the record in the first places, those past it as they were; refused where there are fewer than 70, and then nothing is written
unfoldable pub written : Tally → Bytes → Outcome
written t bs = cond (ltb (length bs) RECORD) (outcome NO_ROOM 0 bs) (outcome 0 RECORD (record_of t ++ drop RECORD bs))

-- READING: refused where the bytes are no record
unfoldable pub read_as : Bytes → Told
read_as bs = answered (cond (is_record bs) 0 NO_RECORD) (tally_in bs)

-- no second outcome fits
pub write_once : (t : Tally) (bs : Bytes) {n m j k : ℕ} {xs ys : Bytes} → outcome n j xs ≡ written t bs → outcome m k ys ≡ written t bs → (n ≡ m) × (j ≡ k) × (xs ≡ ys)
write_once t bs p q =
    (ap (λ (x : Outcome). x.number) (p ∙ sym q), ap (λ (x : Outcome). x.length) (p ∙ sym q), ap (λ (x : Outcome). x.buffer) (p ∙ sym q))

pub read_once : (bs : Bytes) {n m : ℕ} {s t : Tally} → told n s ≡ read_as bs → told m t ≡ read_as bs → (n ≡ m) × (s ≡ t)
read_once bs p q = outcome_once p q
