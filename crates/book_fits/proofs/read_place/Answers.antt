-- `book_fits::read_place` meets its contract: each way of the match is one of the definitions. Assumes nothing.
use native.Mathlib.Omega.{arith}
use mathlib.Core.Path.{◌≡◌, sym, ◌∙◌, ap}
use mathlib.Core.List.{List}
use Prim.Native.Nat.{ℕ, ◌-◌, ◌≤◌}
use lib.ListN.{length, drop, take, length-drop}
use lib.Seq.{take_all}
use Rattle.value_references.specs.Index.{index_at, flaw_in}
use Rattle.value_references.specs.declared.index.Flaw.{Flaw}
use Rattle.value_references.specs.declared.index.Index.{Index}
use Rattle.value_references.specs.declared.index.Index.TheVariants.{Bad, Is}
use Rattle.value_references.proofs.Laws.Indices.{Holds, index_holds}
use Rattle.book_names.specs.Steps.{width_in, taken_in, Place}
use Rattle.book_fits.proofs.read_place.Goals as goal

-- what is read from b on is read at the front of what is left
reading : (s : List ℕ) (b : ℕ) (x y : Index) → b ≤ length s → x ≡ index_at (take (length s - b) (drop b s)) → x ≡ y → index_at (drop b s) ≡ y
reading s b x y h e i =
    let w : take (length s - b) (drop b s) ≡ drop b s = take_all (length s - b) (drop b s) (omega (arith, length-drop b s)) in
    sym (ap index_at w) ∙ sym e ∙ i

-- and so what is taken of it
place : (s : List ℕ) (x : Index) → index_at s ≡ x → Place s (taken_in x) (width_in x) (flaw_in x)
place s x e = record { width = ap width_in (sym e); taken = ap taken_in (sym e); flaw = ap flaw_in (sym e) }

-- an index has a byte
bad_wide : (s : List ℕ) (z : Flaw) (w : ℕ) → index_at s ≡ Bad z w → 1 ≤ w
unfolding Holds
bad_wide s z w e = omega (arith, (index_holds s (Bad z w) e).0.some)

is_wide : (s : List ℕ) (v w : ℕ) → index_at s ≡ Is v w → 1 ≤ w
unfolding Holds
is_wide s v w e = omega (arith, (index_holds s (Is v w) e).0.some)

pub returns-in-Bad : goal.returns-in-Bad
returns-in-Bad c =
    let e = reading c.args.s.now c.args.b _ _ c.requires c.read_index.ensures c.in-Bad.is in
    (bad_wide _ _ _ e, place (drop c.args.b c.args.s.now) (Bad _ _) e)

pub returns-in-Is : goal.returns-in-Is
returns-in-Is c =
    let e = reading c.args.s.now c.args.b _ _ c.requires c.read_index.ensures c.in-Is.is in
    (is_wide _ _ _ e, place (drop c.args.b c.args.s.now) (Is _ _) e)
