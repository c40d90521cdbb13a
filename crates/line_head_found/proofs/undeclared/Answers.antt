-- `line_head_found::undeclared` meets its contract: the book keeps the index within the flags. Assumes nothing.
use mathlib.Core.Path.{sym}
use native.Mathlib.Omega.{arith}
use Prim.Native.Nat.{◌≤◌, ◌<◌}
use Rattle.scan.specs.Machine.{ids_of}
use Rattle.scan.proofs.Laws.Families.{within_named, column_none, column_named_lem}
use Rattle.line_head_found.proofs.undeclared.Goals as goal

pub returns-then-known-eq-NO_FAMILY : goal.returns-then-known-eq-NO_FAMILY
returns-then-known-eq-NO_FAMILY c = sym (column_none c.args.found c.in-Ok.is (ids_of c.args.flags.now) c.if-known-eq-NO_FAMILY.true)

pub overflow_sub-result : goal.overflow_sub-result
overflow_sub-result c =
    let within : (c.family_number-f.result < 4) × (1 ≤ c.last_index-last.result) × (c.last_index-last.result ≤ 64) = let w = within_named c.args.found c.in-Ok.is c.requires c.if-known-eq-NO_FAMILY.false in
    (rw c.family_number-f.ensures w.0, rw c.last_index-last.ensures w.1, rw c.last_index-last.ensures w.2) in
    omega (arith, within)

pub offset_bounds-flags-f : goal.offset_bounds-flags-f
offset_bounds-flags-f c =
    let within : (c.family_number-f.result < 4) × (1 ≤ c.last_index-last.result) × (c.last_index-last.result ≤ 64) = let w = within_named c.args.found c.in-Ok.is c.requires c.if-known-eq-NO_FAMILY.false in
    (rw c.family_number-f.ensures w.0, rw c.last_index-last.ensures w.1, rw c.last_index-last.ensures w.2) in
    omega (arith, within)

pub bounds-flags-f : goal.bounds-flags-f
bounds-flags-f c =
    let within : (c.family_number-f.result < 4) × (1 ≤ c.last_index-last.result) × (c.last_index-last.result ≤ 64) = let w = within_named c.args.found c.in-Ok.is c.requires c.if-known-eq-NO_FAMILY.false in
    (rw c.family_number-f.ensures w.0, rw c.last_index-last.ensures w.1, rw c.last_index-last.ensures w.2) in
    omega (arith, within)

pub bounds-flags-last : goal.bounds-flags-last
bounds-flags-last c =
    let within : (c.family_number-f.result < 4) × (1 ≤ c.last_index-last.result) × (c.last_index-last.result ≤ 64) = let w = within_named c.args.found c.in-Ok.is c.requires c.if-known-eq-NO_FAMILY.false in
    (rw c.family_number-f.ensures w.0, rw c.last_index-last.ensures w.1, rw c.last_index-last.ensures w.2) in
    omega (arith, within)

pub returns-else-known-eq-NO_FAMILY : goal.returns-else-known-eq-NO_FAMILY
returns-else-known-eq-NO_FAMILY c =
    rw (c.family_number-f.ensures, c.last_index-last.ensures)
    (sym (column_named_lem c.args.found c.in-Ok.is (ids_of c.args.flags.now) c.if-known-eq-NO_FAMILY.false))
