-- `line_head_required::lacks_one` meets its contract: a column that is not asked lacks nothing, and of another the name decides. Assumes nothing.
use mathlib.Core.Path.{◌≡◌, ap, ◌∙◌}
use mathlib.Core.Bool.{Bool, true, false, not, ◌||◌}
use mathlib.Core.List.{List}
use Prim.Native.Nat.{◌-◌}
use native.Mathlib.Omega.{arith}
use lib.Seq.{take_all}
use lib.ListN.{length, get_or, take, drop, length-drop}
use Rattle.text_bytes.specs.Bytes.{Bytes, any, same}
use Rattle.text.specs.Lines.{cells}
use Rattle.book_facts.specs.Asked.{asks}
use Rattle.line_head_required.proofs.lacks_one.Goals as goal

unasked : (a m : Bool) → not a ≡ true → false ≡ not (not a || m)
unasked a m h = rw h

asked : (a m : Bool) → not a ≡ false → not m ≡ not (not a || m)
asked a m h = rw h

pub returns-then-not-is_asked : goal.returns-then-not-is_asked
returns-then-not-is_asked c =
    let names : List Bytes = take 255 (cells (drop c.args.from c.args.line.now)) in
    let letter : Bool = asks (get_or c.args.wanted.now 0 0) c.args.asking.mode c.args.asking.typed c.args.asking.assay in
    let named : Bool = any (same (drop 2 c.args.wanted.now)) names in
    unasked letter named (rw c.is_asked.ensures at c.if-not-is_asked.true-raw)

pub returns : goal.returns
returns c =
    let names : List Bytes = take 255 (cells (drop c.args.from c.args.line.now)) in
    let letter : Bool = asks (get_or c.args.wanted.now 0 0) c.args.asking.mode c.args.asking.typed c.args.asking.assay in
    let named : Bool = any (same (drop 2 c.args.wanted.now)) names in
    let name : take (length c.args.wanted.now - 2) (drop 2 c.args.wanted.now) ≡ drop 2 c.args.wanted.now = take_all (length c.args.wanted.now - 2) (drop 2 c.args.wanted.now) (omega (arith, length-drop 2 c.args.wanted.now)) in
    ap not (c.named_before.ensures ∙ ap (λ (n : Bytes). any (same n) names) name)
    ∙ asked letter named (rw c.is_asked.ensures at c.if-not-is_asked.false-raw)
