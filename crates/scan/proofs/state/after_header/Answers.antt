-- `scan::state::after_header` meets its contract: each field is set as the definition sets it, the highest by a comparison. Assumes nothing.
use native.Mathlib.Omega.{arith}
use mathlib.Core.Path.{◌≡◌, refl}
use mathlib.Core.Bool.{Bool, true, false, cond}
use Prim.Native.Nat.{ℕ}
use lib.Dec.{ltb}
use borrow.Author.Tests.{ltb-true, ltb-false}
use Rattle.std.specs.Prelude.{max}
use Rattle.scan.proofs.state.after_header.Goals as goal

highest : (a b : ℕ) → max a b ≡ cond (ltb a b) b a
highest a b = go (ltb a b) refl
  where
    go : (t : Bool) → ltb a b ≡ t → max a b ≡ cond t b a
    go true e = omega (arith, ltb-true a b e)
    go false e = omega (arith, ltb-false a b e)

pub returns : goal.returns
returns c = rw (c.max.ensures, highest c.args.state.highest c.args.section)
