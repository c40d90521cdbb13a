-- That no second outcome fits: what each call ensures leaves one number and one view. Assumes nothing.
use Rattle.std.specs.Prelude.{ℕ, ◌≡◌, Bool, true, false, cond, eqb, refl, Result, Ok, Err, IfOk}
use Rattle.std.proofs.Common.{sym, ap, ◌∙◌, true≢false}
use Rattle.std.specs.Borrow.{Bor}
use Rattle.numbers.specs.Refusals.{number_of, number_in}
use Rattle.numbers.specs.declared.Refusal.{Refusal}
use Rattle.numbers.specs.declared.Refusal.TheVariants.{TooLong, NoSection, NoRow, NoCell, NoRoom, NotAccepted, BelowZero, Past64Bits, NoRecord, NotAsMany, TooLarge, AllZero}
use Rattle.text_bytes.specs.Bytes.{Bytes, is}
use Rattle.mztab.specs.Readings.{Told, told, reading_of}
use Rattle.mztab.specs.declared.records.Reading.{Reading}
use Rattle.mztab.specs.Shown.{Sought, Shown, given, sought, shown, or_else, view_in, Points, PointsOr}

-- two answers that are both the one given are the same, number and view
pub one_answer : {s : Shown} {n m : ℕ} {v w : Bytes} → given n v ≡ s → given m w ≡ s → (n ≡ m) × (v ≡ w)
one_answer p q = (ap (λ (x : Shown). x.number) (p ∙ sym q), ap (λ (x : Shown). x.view) (p ∙ sym q))

-- and two views that both stand there stand at one place
one_place : (file v w : Bor Bytes) (start : ℕ) → Points file start v → Points file start w → (v.ref_ptr.0 ≡ w.ref_ptr.0) × (v.ref_ptr.1 ≡ w.ref_ptr.1)
one_place file v w start p q = (p.block ∙ sym q.block, p.offset ∙ sym q.offset)

one_of_two : (t : Bool) (other file v w : Bor Bytes) (start : ℕ) → PointsOr t other file start v → PointsOr t other file start w → (v.ref_ptr.0 ≡ w.ref_ptr.0) × (v.ref_ptr.1 ≡ w.ref_ptr.1)
one_of_two true other file v w start p q = let e = p ∙ sym q in (ap (λ (x : Bor Bytes). x.ref_ptr.0) e, ap (λ (x : Bor Bytes). x.ref_ptr.1) e)
one_of_two false other file v w start p q = one_place file v w start p q

-- no refusal has the number 0, and no two have one: the refusal with a number, the last for any other
abbrev refusal_with : ℕ → Refusal
refusal_with n =
    cond (eqb n 1) TooLong (cond (eqb n 2) NoSection (cond (eqb n 3) NoRow (cond (eqb n 4) NoCell (cond (eqb n 5) NoRoom (cond (eqb n 7) NotAccepted
    (cond (eqb n 12) BelowZero (cond (eqb n 13) Past64Bits (cond (eqb n 14) NoRecord (cond (eqb n 15) NotAsMany (cond (eqb n 16) TooLarge AllZero))))))))))

known : (e : Refusal) → refusal_with (number_of e) ≡ e
known TooLong = refl
known NoSection = refl
known NoRow = refl
known NoCell = refl
known NoRoom = refl
known NotAccepted = refl
known BelowZero = refl
known Past64Bits = refl
known NoRecord = refl
known NotAsMany = refl
known TooLarge = refl
known AllZero = refl

number_some : (e : Refusal) → eqb (number_of e) 0 ≡ false
number_some TooLong = refl
number_some NoSection = refl
number_some NoRow = refl
number_some NoCell = refl
number_some NoRoom = refl
number_some NotAccepted = refl
number_some BelowZero = refl
number_some Past64Bits = refl
number_some NoRecord = refl
number_some NotAsMany = refl
number_some TooLarge = refl
number_some AllZero = refl

not_zero : (e : Refusal) → number_of e ≡ 0 → ⊥
not_zero e h = true≢false (sym (ap (λ (n : ℕ). eqb n 0) h) ∙ number_some e)

apart : (e f : Refusal) → number_of e ≡ number_of f → e ≡ f
apart e f p = sym (known e) ∙ ap refusal_with p ∙ known f

-- two answers as the calls give them are one: both refused alike, or both views of the same bytes at the same place
abbrev pub OneAnswer : Result (Bor Bytes) Refusal → Result (Bor Bytes) Refusal → Type 0
OneAnswer (Ok v) (Ok w) = (v.now ≡ w.now) × (v.ref_ptr.0 ≡ w.ref_ptr.0) × (v.ref_ptr.1 ≡ w.ref_ptr.1)
OneAnswer (Ok v) (Err f) = ⊥
OneAnswer (Err e) (Ok w) = ⊥
OneAnswer (Err e) (Err f) = e ≡ f

module _ (file : Bor Bytes) (section row column : ℕ) (v w : Bor Bytes) where
  abbrev found : Sought
  found = sought file.now section row column

  -- `cell`: one number, the same bytes at the same place
  pub cell_once : {n m : ℕ} → given n v.now ≡ shown found → Points file found.start v → given m w.now ≡ shown found → Points file found.start w
      → (n ≡ m) × (v.now ≡ w.now) × (v.ref_ptr.0 ≡ w.ref_ptr.0) × (v.ref_ptr.1 ≡ w.ref_ptr.1)
  cell_once p a q b = let e = one_answer p q in let f = one_place file v w found.start a b in (e.0, e.1, f.0, f.1)

  -- `cell_or`, whatever the stand-in
  pub cell_or_once : {n m : ℕ} (other : Bor Bytes) → given n v.now ≡ or_else other.now (shown found) → PointsOr (is found.view "null") other file found.start v
      → given m w.now ≡ or_else other.now (shown found) → PointsOr (is found.view "null") other file found.start w
      → (n ≡ m) × (v.now ≡ w.now) × (v.ref_ptr.0 ≡ w.ref_ptr.0) × (v.ref_ptr.1 ≡ w.ref_ptr.1)
  cell_or_once other p a q b = let e = one_answer p q in let f = one_of_two (is found.view "null") other file v w found.start a b in (e.0, e.1, f.0, f.1)

-- the same of what the calls answer, a view or a refusal: one is refused exactly where the other is, and alike, and two views are of the same bytes at the same place
module _ (file : Bor Bytes) (section row column : ℕ) where
  abbrev sought_here : Sought
  sought_here = sought file.now section row column

  pub cell_told : (r s : Result (Bor Bytes) Refusal)
      → given (number_in r) (view_in r) ≡ shown sought_here → IfOk r (λ v. Points file sought_here.start v)
      → given (number_in s) (view_in s) ≡ shown sought_here → IfOk s (λ v. Points file sought_here.start v) → OneAnswer r s
  cell_told (Ok v) (Ok w) p a q b = let e = cell_once file section row column v w p a q b in (e.1, e.2, e.3)
  cell_told (Ok v) (Err f) p a q b = absurd (not_zero f (sym (one_answer p q).0))
  cell_told (Err e) (Ok w) p a q b = absurd (not_zero e (one_answer p q).0)
  cell_told (Err e) (Err f) p a q b = apart e f (one_answer p q).0

  -- `cell_or`, whatever the stand-in
  pub cell_or_told : (other : Bor Bytes) (r s : Result (Bor Bytes) Refusal)
      → given (number_in r) (view_in r) ≡ or_else other.now (shown sought_here) → IfOk r (λ v. PointsOr (is sought_here.view "null") other file sought_here.start v)
      → given (number_in s) (view_in s) ≡ or_else other.now (shown sought_here) → IfOk s (λ v. PointsOr (is sought_here.view "null") other file sought_here.start v)
      → OneAnswer r s
  cell_or_told other (Ok v) (Ok w) p a q b = let e = cell_or_once file section row column v w other p a q b in (e.1, e.2, e.3)
  cell_or_told other (Ok v) (Err f) p a q b = absurd (not_zero f (sym (one_answer p q).0))
  cell_or_told other (Err e) (Ok w) p a q b = absurd (not_zero e (one_answer p q).0)
  cell_or_told other (Err e) (Err f) p a q b = apart e f (one_answer p q).0

-- `reading`
pub reading_once : (file : Bytes) (section row column : ℕ) {n m : ℕ} {r q : Reading}
    → told n r ≡ reading_of (sought file section row column) → told m q ≡ reading_of (sought file section row column) → (n ≡ m) × (r ≡ q)
reading_once file section row column p q = (ap (λ (x : Told). x.number) (p ∙ sym q), ap (λ (x : Told). x.reading) (p ∙ sym q))
