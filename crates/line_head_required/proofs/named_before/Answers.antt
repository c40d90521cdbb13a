-- `line_head_required::named_before` meets its contract. The loop's invariant: the cells that are left decide. Assumes nothing.
use mathlib.Core.Path.{◌≡◌, sym, ap, ◌∙◌}
use Prim.Native.Nat.{ℕ, ◌+◌, ◌-◌}
use native.Mathlib.Omega.{arith}
use lib.ListN.{take, drop}
use Rattle.text_bytes.specs.Bytes.{any, same}
use Rattle.text.specs.Lines.{cells}
use Rattle.scan.proofs.Laws.Celling.{any_hit, any_next, any_last}
use Rattle.line_head_required.proofs.named_before.Goals as goal

pub loop-init : goal.loop-init
loop-init c =
    let all : c.args.count ≡ c.args.count - 0 = omega arith in
    (c.requires, ap (λ (n : ℕ). any (same c.args.name.now) (take n (cells (drop c.args.from c.args.line.now)))) all)

pub returns-then-same_bytes : goal.returns-then-same_bytes
returns-then-same_bytes c = sym (c.loop.invariant.1 ∙ any_hit c.cell_end-e.ensures _ (c.args.count - c.loop.counter) (omega arith) (sym c.same_bytes.ensures ∙ c.if-same_bytes.true))

pub returns-then-e-line : goal.returns-then-e-line
returns-then-e-line c = sym (c.loop.invariant.1 ∙ any_last c.cell_end-e.ensures _ (c.args.count - c.loop.counter) (omega arith) (sym c.same_bytes.ensures ∙ c.if-same_bytes.false) c.if-e-line.true)

pub loop-preserved : goal.loop-preserved
loop-preserved c =
    let left : c.args.count - (c.loop.counter + 1) ≡ c.args.count - c.loop.counter - 1 = omega arith in
    (omega arith, rw left (c.loop.invariant.1 ∙ any_next c.cell_end-e.ensures _ (c.args.count - c.loop.counter) (omega arith) (sym c.same_bytes.ensures ∙ c.if-same_bytes.false) (omega arith)))

pub returns : goal.returns
unfolding any
returns c =
    let z : c.args.count - c.loop.counter ≡ 0 = omega arith in
    sym (rw z at c.loop.invariant.1)
