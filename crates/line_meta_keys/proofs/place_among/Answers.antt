-- `line_meta_keys::place_among` meets its contract: without a second index the first counts, else the first counts by 64. Assumes nothing.
use native.Mathlib.Omega.{arith}
use mathlib.Core.Path.{◌≡◌}
use Prim.Native.Nat.{◌+◌, ◌*◌, ◌-◌}
use Rattle.book_names.specs.Names.{among}
use Rattle.book_names.proofs.Laws.Known.{among_one, among_two}
use Rattle.line_meta_keys.proofs.place_among.Goals as goal

pub returns-then-j-eq0 : goal.returns-then-j-eq0
returns-then-j-eq0 c = omega (arith, among_one c.args.i c.args.j c.if-j-eq0.true)

pub overflow_mul-result : goal.overflow_mul-result
overflow_mul-result c =
    let two : among c.args.i c.args.j ≡ c.saturating_sub-first.result * 64 + (c.args.j - 1) = omega (arith, among_two c.args.i c.args.j (omega arith)) in
    omega (arith, two)

pub overflow_add-result : goal.overflow_add-result
overflow_add-result c =
    let two : among c.args.i c.args.j ≡ c.saturating_sub-first.result * 64 + (c.args.j - 1) = omega (arith, among_two c.args.i c.args.j (omega arith)) in
    omega (arith, two)

pub returns : goal.returns
returns c =
    let two : among c.args.i c.args.j ≡ c.saturating_sub-first.result * 64 + (c.args.j - 1) = omega (arith, among_two c.args.i c.args.j (omega arith)) in
    omega (arith, two)
