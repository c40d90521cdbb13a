-- `book_lookup::lookup`: the first flaw so far, the entry that the links have reached and those after it decide. Assumes nothing.
use native.Mathlib.Omega.{arith}
use mathlib.Core.Path.{◌≡◌, sym, ◌∙◌, ap, subst⁻¹}
use mathlib.Core.List.{List}
use Prim.Native.Nat.{ℕ, ◌+◌, ◌*◌, ◌-◌}
use lib.ListN.{drop, take}
use Rattle.value_references.specs.declared.index.Flaw.TheVariants.{Form}
use Rattle.book_names.specs.Names.{pieces, fits as fitsIn}
use Rattle.book_names.specs.declared.Match.{Match}
use Rattle.book_names.proofs.Laws.Linking.{entry_count, Reached, reached_first, reached_next, further, reached_none, reached_hit}
use Rattle.book_lookup.proofs.lookup.Goals as goal

-- how the name fits the row: the code's part is the row
fitting : (t n : List ℕ) (at : ℕ) (m : Match) → m ≡ fitsIn (pieces (drop 3 (take (at + 54 - at) (drop at t)))) n 0 0
    → fitsIn (pieces (drop 3 (take 54 (drop at t)))) n 0 0 ≡ m
fitting t n at m e =
    let w : at + 54 - at ≡ 54 = omega arith in
    sym (e ∙ ap (λ (k : ℕ). fitsIn (pieces (drop 3 (take k (drop at t)))) n 0 0) w)

pub loop-entry-init : goal.loop-entry-init
loop-entry-init c = subst⁻¹ (Reached c.args.table.now c.args.name.now Form) c.from-entry.ensures (reached_first c.args.table.now c.args.name.now c.args.links.now c.requires c.from.result (omega arith) (c.from.ensures ∙ c.byte_of-x.ensures))

pub returns-in-Fits : goal.returns-in-Fits
returns-in-Fits c =
    let table : List ℕ = c.args.table.now in
    let name : List ℕ = c.args.name.now in
    let row_is : fitsIn (pieces (drop 3 (take 54 (drop (c.loop-entry.entry * 54) table)))) name 0 0 ≡ c.fits_row-row.result = fitting table name (c.loop-entry.entry * 54) _ c.fits_row-row.ensures in
    sym (reached_hit table name c.loop-entry.flaw c.loop-entry.entry c.loop-entry.invariant _ _ c.loop-entry-test.true (row_is ∙ c.in-Fits.is))

pub bounds-links-entry : goal.bounds-links-entry
bounds-links-entry c =
    let table : List ℕ = c.args.table.now in
    omega (arith, c.loop-entry-test.true, entry_count table, c.requires.size)

pub loop-entry-smaller : goal.loop-entry-smaller
loop-entry-smaller c =
    let table : List ℕ = c.args.table.now in
    let links : List ℕ = c.args.links.now in
    let name : List ℕ = c.args.name.now in
    omega (arith, c.from-entry-in-loop-entry.ensures, c.loop-entry-test.true, further table name links c.requires c.loop-entry.flaw c.loop-entry.entry c.loop-entry.invariant c.loop-entry-test.true)

pub loop-entry-preserved : goal.loop-entry-preserved
loop-entry-preserved c =
    let table : List ℕ = c.args.table.now in
    let links : List ℕ = c.args.links.now in
    let name : List ℕ = c.args.name.now in
    let row_is : fitsIn (pieces (drop 3 (take 54 (drop (c.loop-entry.entry * 54) table)))) name 0 0 ≡ c.fits_row-row.result = fitting table name (c.loop-entry.entry * 54) _ c.fits_row-row.ensures in
    reached_next table name links c.requires c.loop-entry.flaw c.loop-entry.entry c.loop-entry.invariant c.loop-entry-test.true c.fits_row-row.result row_is c.in_default.not-Fits
    _ _ c.noted-flaw.ensures c.from-entry-in-loop-entry.ensures

pub returns : goal.returns
returns c =
    let table : List ℕ = c.args.table.now in
    let name : List ℕ = c.args.name.now in
    sym (reached_none table name c.loop-entry.flaw c.loop-entry.entry c.loop-entry.invariant c.loop-entry-test.false)
