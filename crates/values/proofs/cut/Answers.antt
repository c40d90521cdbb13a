-- `values::cut` meets its contract: the digits, a dot and the digits after it are found from left to right, and with what ends them they make a numeral or none. Assumes nothing.
use Prim.Native.Nat.{◌≤◌, ◌<◌}
use mathlib.Core.Path.{◌≡◌, refl, sym, ◌∙◌}
use native.Mathlib.Omega.{arith}
use lib.ListN.{length, get_or}
use Rattle.value_references.proofs.Laws.Indices.{present}
use Rattle.values.proofs.Laws.Mantissas.{run_within, cut_plain, cut_dotted}
use Rattle.values.proofs.cut.Goals as goal

pub slice_bounds-is_exponent-count : goal.slice_bounds-is_exponent-count
slice_bounds-is_exponent-count c =
    let whole_ends : c.digits_end-whole.result ≤ length c.args.u.now = run_within c.args.u.now 0 _ (omega arith) c.digits_end-whole.ensures in
    whole_ends

pub slice_bounds-is_exponent-start : goal.slice_bounds-is_exponent-start
slice_bounds-is_exponent-start c =
    let whole_ends : c.digits_end-whole.result ≤ length c.args.u.now = run_within c.args.u.now 0 _ (omega arith) c.digits_end-whole.ensures in
    omega (arith, whole_ends)

pub returns-then-byte_at-ne-DOT : goal.returns-then-byte_at-ne-DOT
returns-then-byte_at-ne-DOT c = cut_plain c.args.u.now c.digits_end-whole.ensures (λ e. c.if-byte_at-ne-DOT.true (c.byte_at.ensures ∙ e)) _ _ c.is_exponent.ensures refl

pub overflow_add-from : goal.overflow_add-from
overflow_add-from c =
    let dot_stands : get_or c.args.u.now c.digits_end-whole.result 0 ≡ 46 = sym c.byte_at.ensures ∙ c.if-byte_at-ne-DOT.false in
    let dot_within : c.digits_end-whole.result < length c.args.u.now = present c.args.u.now _ (omega (arith, dot_stands)) in
    omega (arith, dot_within)

pub digits_end-to-requires : goal.digits_end-to-requires
digits_end-to-requires c =
    let dot_stands : get_or c.args.u.now c.digits_end-whole.result 0 ≡ 46 = sym c.byte_at.ensures ∙ c.if-byte_at-ne-DOT.false in
    let dot_within : c.digits_end-whole.result < length c.args.u.now = present c.args.u.now _ (omega (arith, dot_stands)) in
    omega (arith, dot_within)

pub slice_bounds-is_exponent-count-2 : goal.slice_bounds-is_exponent-count-2
slice_bounds-is_exponent-count-2 c =
    let dot_stands : get_or c.args.u.now c.digits_end-whole.result 0 ≡ 46 = sym c.byte_at.ensures ∙ c.if-byte_at-ne-DOT.false in
    let dot_within : c.digits_end-whole.result < length c.args.u.now = present c.args.u.now _ (omega (arith, dot_stands)) in
    let places_end : c.digits_end-to.result ≤ length c.args.u.now = run_within c.args.u.now _ _ (omega (arith, dot_within)) c.digits_end-to.ensures in
    places_end

pub slice_bounds-is_exponent-start-2 : goal.slice_bounds-is_exponent-start-2
slice_bounds-is_exponent-start-2 c =
    let dot_stands : get_or c.args.u.now c.digits_end-whole.result 0 ≡ 46 = sym c.byte_at.ensures ∙ c.if-byte_at-ne-DOT.false in
    let dot_within : c.digits_end-whole.result < length c.args.u.now = present c.args.u.now _ (omega (arith, dot_stands)) in
    let places_end : c.digits_end-to.result ≤ length c.args.u.now = run_within c.args.u.now _ _ (omega (arith, dot_within)) c.digits_end-to.ensures in
    omega (arith, places_end)

pub returns : goal.returns
returns c =
    let dot_stands : get_or c.args.u.now c.digits_end-whole.result 0 ≡ 46 = sym c.byte_at.ensures ∙ c.if-byte_at-ne-DOT.false in
    cut_dotted c.args.u.now c.digits_end-whole.ensures dot_stands c.digits_end-to.ensures _ _ _ refl c.is_exponent-2.ensures refl
