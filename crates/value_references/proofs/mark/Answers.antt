-- `value_references::mark` meets its contract: one flag more is set, where there is an index. Assumes nothing.
use native.Mathlib.Omega.{arith}
use borrow.Author.Tests.{ne_eqb}
use mathlib.Core.Path.{◌≡◌}
use Rattle.value_references.proofs.mark.Goals as goal

pub returns-then-i-gt0 : goal.returns-then-i-gt0
returns-then-i-gt0 c = rw (ne_eqb c.args.i 0 (λ z. omega arith))

pub returns-else-i-gt0 : goal.returns-else-i-gt0
returns-else-i-gt0 c =
    let z : c.args.i ≡ 0 = omega arith in
    rw z
