-- `book_facts::asking_of` meets its contract: an assay is declared where one of their flags is marked. Assumes nothing.
use native.Mathlib.Omega.{arith}
use mathlib.Core.Path.{◌≡◌, sym}
use mathlib.Core.List.{[]}
use lib.ListN.{length, get_or}
use Rattle.book_facts.proofs.asking_of.Goals as goal

pub bounds-flags-1 : goal.bounds-flags-1
bounds-flags-1 c = omega (arith, c.requires.families)

pub slice_bounds-any_marked-end : goal.slice_bounds-any_marked-end
slice_bounds-any_marked-end c =
    let row : length (get_or c.args.flags.now 1 []) ≡ 64 = c.requires.indices 1 (omega arith) in
    sym row

pub any_marked-assay-requires : goal.any_marked-assay-requires
any_marked-assay-requires c =
    let row : length (get_or c.args.flags.now 1 []) ≡ 64 = c.requires.indices 1 (omega arith) in
    (omega arith, omega (arith, row))

pub returns : goal.returns
returns c = rw c.any_marked-assay.ensures
