-- `line_meta_values::is_declared` meets its contract: past the four families the list reads as no flags. Assumes nothing.
use mathlib.Core.Path.{sym, ap}
use mathlib.Core.Bool.{Bool, false}
use Prim.Native.Nat.{◌-◌}
use mathlib.Core.List.{List, []}
use native.Mathlib.Omega.{arith}
use lib.ListN.{get_or, get_or-eq_default}
use Rattle.line_meta_values.proofs.is_declared.Goals as goal

pub returns : goal.returns
returns c = sym (ap (λ (row : List Bool). get_or row (c.args.index - 1) false) (get_or-eq_default c.args.flags.now [] (omega (arith, c.requires.flags.families, c.if-family-lt-FAMILIES.false))))
