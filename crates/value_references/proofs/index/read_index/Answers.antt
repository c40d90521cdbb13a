-- `value_references::index::read_index`: each return is the law of the test that leads there. Assumes nothing.
use native.Mathlib.Omega.{arith}
use mathlib.Core.Path.{◌≡◌, sym, ◌∙◌}
use mathlib.Core.List.{List}
use Prim.Native.Nat.{ℕ}
use lib.ListN.{get_or}
use Rattle.value_references.specs.Index.{Run}
use Rattle.value_references.proofs.Laws.Indices.{present, index_unopened, index_undigited, index_unclosed, index_zero, index_over, index_is}
use Rattle.value_references.proofs.index.read_index.Goals as goal

pub returns-then-byte_at-ne91 : goal.returns-then-byte_at-ne91
returns-then-byte_at-ne91 c = sym (index_unopened c.args.s.now (λ x. c.if-byte_at-ne91.true (c.byte_at.ensures ∙ x)))

pub digits_end-end-requires : goal.digits_end-end-requires
digits_end-end-requires c = omega (arith, present c.args.s.now 0 (omega (arith, c.byte_at.ensures, c.if-byte_at-ne91.false)))

pub returns-then-end-le1 : goal.returns-then-end-le1
returns-then-end-le1 c =
    let text : List ℕ = c.args.s.now in
    let opens : get_or text 0 0 ≡ 91 = sym c.byte_at.ensures ∙ c.if-byte_at-ne91.false in
    sym (index_undigited text opens c.digits_end-end.result c.digits_end-end.ensures c.if-end-le1.true)

pub returns-then-byte_at-ne93 : goal.returns-then-byte_at-ne93
returns-then-byte_at-ne93 c =
    let text : List ℕ = c.args.s.now in
    let opens : get_or text 0 0 ≡ 91 = sym c.byte_at.ensures ∙ c.if-byte_at-ne91.false in
    sym (index_unclosed text opens c.digits_end-end.result c.digits_end-end.ensures c.if-end-le1.false (λ x. c.if-byte_at-ne93.true (c.byte_at-2.ensures ∙ x)))

pub overflow_add-w : goal.overflow_add-w
overflow_add-w c =
    let text : List ℕ = c.args.s.now in
    let closes : get_or text c.digits_end-end.result 0 ≡ 93 = sym c.byte_at-2.ensures ∙ c.if-byte_at-ne93.false in
    omega (arith, present text c.digits_end-end.result (omega (arith, closes)))

pub returns-then-byte_at-eq48 : goal.returns-then-byte_at-eq48
returns-then-byte_at-eq48 c =
    let text : List ℕ = c.args.s.now in
    let opens : get_or text 0 0 ≡ 91 = sym c.byte_at.ensures ∙ c.if-byte_at-ne91.false in
    let closes : get_or text c.digits_end-end.result 0 ≡ 93 = sym c.byte_at-2.ensures ∙ c.if-byte_at-ne93.false in
    sym (index_zero text opens c.digits_end-end.result c.digits_end-end.ensures c.if-end-le1.false closes (sym c.byte_at-3.ensures ∙ c.if-byte_at-eq48.true))

pub small_number-n-requires : goal.small_number-n-requires
small_number-n-requires c =
    let text : List ℕ = c.args.s.now in
    let run : Run text c.digits_end-end.result = record { ends = c.digits_end-end.ensures; some = c.if-end-le1.false; first = λ x. c.if-byte_at-eq48.false (c.byte_at-3.ensures ∙ x) } in
    run

pub returns-then-n-gt-MOST : goal.returns-then-n-gt-MOST
returns-then-n-gt-MOST c =
    let text : List ℕ = c.args.s.now in
    let opens : get_or text 0 0 ≡ 91 = sym c.byte_at.ensures ∙ c.if-byte_at-ne91.false in
    let closes : get_or text c.digits_end-end.result 0 ≡ 93 = sym c.byte_at-2.ensures ∙ c.if-byte_at-ne93.false in
    let run : Run text c.digits_end-end.result = record { ends = c.digits_end-end.ensures; some = c.if-end-le1.false; first = λ x. c.if-byte_at-eq48.false (c.byte_at-3.ensures ∙ x) } in
    let r = run in
    sym (index_over text opens c.digits_end-end.result r.ends r.some closes r.first (c.small_number-n.ensures.1 c.if-n-gt-MOST.true))

pub returns : goal.returns
returns c =
    let text : List ℕ = c.args.s.now in
    let opens : get_or text 0 0 ≡ 91 = sym c.byte_at.ensures ∙ c.if-byte_at-ne91.false in
    let closes : get_or text c.digits_end-end.result 0 ≡ 93 = sym c.byte_at-2.ensures ∙ c.if-byte_at-ne93.false in
    let run : Run text c.digits_end-end.result = record { ends = c.digits_end-end.ensures; some = c.if-end-le1.false; first = λ x. c.if-byte_at-eq48.false (c.byte_at-3.ensures ∙ x) } in
    let r = run in
    sym (index_is text opens c.digits_end-end.result r.ends r.some closes r.first _ (c.small_number-n.ensures.0 c.if-n-gt-MOST.false) c.if-n-gt-MOST.false)
