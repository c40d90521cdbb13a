-- A place in the file as a start and a length. Assumes nothing.
use Prim.Native.Nat.{ℕ, ◌-◌}
use mathlib.Core.Path.{◌≡◌, sym, ap, ◌∙◌}
use native.Mathlib.Omega.{arith}
use lib.ListN.{length, drop, length-take, length-drop}
use mathlib.Core.Bool.{true, false}
use lib.Seq.{take-length}
use Rattle.text_bytes.specs.Bytes.{Bytes, is}
use Rattle.std.specs.Prelude.{Result}
use Rattle.numbers.specs.declared.Refusal.{Refusal}
use Rattle.numbers.specs.Refusals.{number_in, answer_or}
use Rattle.mztab.specs.Shown.{Sought, Placed, nowhere, or_else}
use Rattle.mztab.specs.declared.cells.Place.{Place}
use lib.IntN.{ℤ}
use lib.Ieee.{Float}
use Rattle.value_readings.specs.Reading.{number_of, whole_of, power_of, double_of}
use Rattle.mztab.specs.Readings.{Told, told}
use Rattle.mztab.specs.declared.records.Reading.{Reading}
use Rattle.capi.specs.Answers.{CellAt, CellOrAt, ReadAs}

-- what a host is told of a place
pub told_placed : {file : Bytes} {s : Sought} {n : ℕ} {p : Place} (r : Result Place Refusal) → Placed file s (number_in r) (answer_or nowhere r) → n ≡ number_in r → p ≡ answer_or nowhere r → Placed file s n p
told_placed r h e d = rw (e, d) h

pub placed_at : {file : Bytes} {s : Sought} {n : ℕ} {p : Place} → Placed file s n p → CellAt file s n p.start (p.end - p.start)
placed_at {file} {s} {n} {p} h = record {
  says = h.says;
  from = h.from;
  long = omega (arith, length-take (p.end - p.start) (drop p.start file), length-drop p.start file, h.starts, h.ends) ∙ ap (λ (l : Bytes). length l) h.views;
  ends = omega (arith, h.starts, h.ends);
  views = h.views;
}

-- the stand-in, and the cell
module _ {file other : Bytes} {s : Sought} {n : ℕ} {p : Place} (h : Placed file s n p) where
  pub stood_in : {v : Bytes} → v ≡ s.view → is v "null" ≡ true → CellOrAt file other s n 0 (length other) 1
  unfolding or_else
  stood_in e t =
      let e0 : is s.view "null" ≡ true = ap (λ (b : Bytes). is b "null") (sym e) ∙ t in
      record {
        says = h.says;
        stands = rw e0;
        from = rw e0;
        long = rw e0;
        ends = rw e0 (omega arith);
        views = rw e0 (take-length other);
      }

  pub stood_out : {v : Bytes} → v ≡ s.view → is v "null" ≡ false → CellOrAt file other s n p.start (p.end - p.start) 0
  unfolding or_else
  stood_out e t =
      let e0 : is s.view "null" ≡ false = ap (λ (b : Bytes). is b "null") (sym e) ∙ t in
      let c = placed_at h in
      record {
        says = c.says;
        stands = rw e0;
        from = rw e0 c.from;
        long = rw e0 c.long;
        ends = rw e0 c.ends;
        views = rw e0 c.views;
      }

-- a record, and the values of its case
pub told_as : {t : Told} {n case : ℕ} {r : Reading} {whole power : ℤ} {double : Float} → told n r ≡ t
    → case ≡ number_of r.value → whole ≡ whole_of r.value → power ≡ power_of r.value → double ≡ double_of r.value
    → ReadAs t n case r.line r.cell whole power double
told_as e a b c d = record {
  says = ap (λ (x : Told). x.number) e;
  is = a ∙ ap (λ (x : Told). number_of x.reading.value) e;
  on = ap (λ (x : Told). x.reading.line) e;
  at = ap (λ (x : Told). x.reading.cell) e;
  wholes = b ∙ ap (λ (x : Told). whole_of x.reading.value) e;
  scaled = c ∙ ap (λ (x : Told). power_of x.reading.value) e;
  doubles = d ∙ ap (λ (x : Told). double_of x.reading.value) e;
}
