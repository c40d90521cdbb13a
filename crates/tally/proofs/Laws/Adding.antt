-- One checked sum, and eight of them. Assumes nothing.
use mathlib.Core.Path.{◌≡◌, refl, sym}
use mathlib.Core.Bool.{Bool, true, false, ◌||◌}
use mathlib.Core.List.{List, [], ◌∷◌}
use Prim.Native.Nat.{ℕ, zero, suc, ◌+◌, ◌<◌, ◌^◌}
use native.Mathlib.Omega.{arith}
use lib.ListN.{length, get_or}
use borrow.Author.Tests.{le-leb, lt-leb, leb-false}
use Rattle.std.specs.Prelude.{Option, None, Some, Result}
use Rattle.std.specs.Option.{ok_or}
use Rattle.numbers.specs.Numbers.{PAST_64_BITS}
use Rattle.numbers.specs.Refusals.{number_in, answer_or}
use Rattle.numbers.specs.declared.Refusal.{Refusal}
use Rattle.numbers.specs.declared.Refusal.TheVariants.{Past64Bits}
use Rattle.text_bytes.specs.Bytes.{any}
use Rattle.tally.specs.Tally.{totals, zero as nothing, is_past, sum_of, sums, outcome, added}
use Rattle.tally.specs.Steps.{Summed}
use Rattle.tally.specs.declared.Tally.{Tally}

-- ONE SUM

pub past_true : (n : ℕ) → (n < 2 ^ 64 → ⊥) → is_past n ≡ true
past_true n h = le-leb (2 ^ 64) n (omega arith)

pub past_false : (n : ℕ) → n < 2 ^ 64 → is_past n ≡ false
past_false n h = lt-leb (2 ^ 64) n (omega arith)

-- a checked sum that did not pass
pub sum_fits : (a b : ℕ) {n : ℕ} → n ≡ sum_of a b → false ≡ is_past (a + b) → (a + b < 2 ^ 64) × (n ≡ a + b)
sum_fits a b e f = (leb-false (2 ^ 64) (a + b) (sym f), rw (← f) at e)

-- of which one passes
past_in : (ns : List ℕ) (k : ℕ) → is_past (get_or ns k 0) ≡ true → any is_past ns ≡ true
unfolding any
past_in [] k e = e
past_in (n ∷ ns) zero e = rw e
past_in (n ∷ ns) (suc k) e = go (is_past n) (past_in ns k e)
  where
    go : (t : Bool) → any is_past ns ≡ true → (t || any is_past ns) ≡ true
    go true h = refl
    go false h = h

-- TWO TALLIES

-- each total fits, and is the sum
pub record Sums (a b t : Tally) : Type 0 where
  pub psms : (a.psms.0 + b.psms.0 < 2 ^ 64) × (t.psms.0 ≡ a.psms.0 + b.psms.0)
  pub distinct : (a.distinct.0 + b.distinct.0 < 2 ^ 64) × (t.distinct.0 ≡ a.distinct.0 + b.distinct.0)
  pub unique : (a.unique.0 + b.unique.0 < 2 ^ 64) × (t.unique.0 ≡ a.unique.0 + b.unique.0)
  pub proteins : (a.protein_rows + b.protein_rows < 2 ^ 64) × (t.protein_rows ≡ a.protein_rows + b.protein_rows)
  pub peptides : (a.peptide_rows + b.peptide_rows < 2 ^ 64) × (t.peptide_rows ≡ a.peptide_rows + b.peptide_rows)
  pub matches : (a.psm_rows + b.psm_rows < 2 ^ 64) × (t.psm_rows ≡ a.psm_rows + b.psm_rows)
  pub molecules : (a.small_molecule_rows + b.small_molecule_rows < 2 ^ 64) × (t.small_molecule_rows ≡ a.small_molecule_rows + b.small_molecule_rows)
  pub missing : (a.missing + b.missing < 2 ^ 64) × (t.missing ≡ a.missing + b.missing)

-- sum number k passes 64 bits
pub past_at : (a b : Tally) (k : ℕ) → is_past (get_or (sums (totals a) (totals b)) k 0) ≡ true → any is_past (sums (totals a) (totals b)) ≡ true
past_at a b k e = past_in (sums (totals a) (totals b)) k e

-- all eight fit
pub sums_fit : {a b t : Tally} → Sums a b t → (any is_past (sums (totals a) (totals b)) ≡ false) × (totals t ≡ sums (totals a) (totals b))
unfolding any sums
sums_fit {a} {b} {t} s = (
  rw (
    past_false (a.psms.0 + b.psms.0) s.psms.0,
    past_false (a.distinct.0 + b.distinct.0) s.distinct.0,
    past_false (a.unique.0 + b.unique.0) s.unique.0,
    past_false (a.protein_rows + b.protein_rows) s.proteins.0,
    past_false (a.peptide_rows + b.peptide_rows) s.peptides.0,
    past_false (a.psm_rows + b.psm_rows) s.matches.0,
    past_false (a.small_molecule_rows + b.small_molecule_rows) s.molecules.0,
    past_false (a.missing + b.missing) s.missing.0,
  ),
  rw (s.psms.1, s.distinct.1, s.unique.1, s.proteins.1, s.peptides.1, s.matches.1, s.molecules.1, s.missing.1),
)

pub add_past : (a b : Tally) → any is_past (sums (totals a) (totals b)) ≡ true → outcome PAST_64_BITS nothing ≡ added a b
unfolding added
add_past a b e = rw e

pub add_within : (a b t : Tally) → any is_past (sums (totals a) (totals b)) ≡ false → totals t ≡ sums (totals a) (totals b) → outcome 0 t ≡ added a b
unfolding added
add_within a b t e s = rw (e, ← s)

-- told as an answer or a refusal
pub summed_told : (a b : Tally) (o : Option Tally) {r : Result Tally Refusal} → Summed a b o → r ≡ ok_or o Past64Bits → outcome (number_in r) (answer_or nothing r) ≡ added a b
summed_told a b None s e = rw e (add_past a b s)
summed_told a b (Some t) s e = rw e (add_within a b t s.0 s.1)
