-- `book::directory::section_of`: none of the sections before j has the code, so that the first that has it is the first of those from j on. Assumes nothing.
use borrow.Author.Rules.{rules}
use native.Mathlib.Omega.{arith}
use mathlib.Core.Path.{ap, sym, ◌∙◌}
use Prim.Native.Nat.{ℕ, ◌+◌}
use Rattle.book.specs.Text.{book_in}
use Rattle.book.proofs.Laws.Directing.{coded_here, coded_next, coded_none}
use Rattle.book.proofs.directory.section_of.Goals as goal

pub returns-then-same_bytes : goal.returns-then-same_bytes
returns-then-same_bytes c =
    let here = coded_here c.requires c.args.row c.code_place-from.result c.loop-j.j c.args.code.now c.code_place-from.ensures (omega (arith, c.requires.count)) (sym c.same_bytes.ensures ∙ c.if-same_bytes.true) in
    ap (λ (f : ℕ). f + c.loop-j.j) (c.from-first.ensures ∙ c.requires.first) ∙ sym (c.loop-j.invariant.1 ∙ here)

pub loop-j-preserved : goal.loop-j-preserved
loop-j-preserved c = (search rules, c.loop-j.invariant.1 ∙ coded_next c.requires c.args.row c.code_place-from.result c.loop-j.j c.args.code.now c.code_place-from.ensures (omega (arith, c.requires.count)) (sym c.same_bytes.ensures ∙ c.if-same_bytes.false))

pub returns : goal.returns
returns c = sym (c.loop-j.invariant.1 ∙ coded_none (book_in c.args.text.now) c.args.row c.loop-j.j c.args.code.now (omega (arith, c.requires.count)))
