-- `book_facts::line_with` meets its contract: one comparison decides. Assumes nothing.
use mathlib.Core.Bool.{Bool, true, false, cond}
use mathlib.Core.Path.{◌≡◌, sym, ◌∙◌}
use Prim.Native.Nat.{ℕ}
use Rattle.book_facts.proofs.line_with.Goals as goal

taken : (t : Bool) (n : ℕ) → t ≡ true → n ≡ cond t n 0
taken t n h = rw h

left : (t : Bool) (n : ℕ) → t ≡ false → 0 ≡ cond t n 0
left t n h = rw h

pub returns-then-same_bytes : goal.returns-then-same_bytes
returns-then-same_bytes c = taken _ c.args.n (sym c.same_bytes.ensures ∙ c.if-same_bytes.true)

pub returns-else-same_bytes : goal.returns-else-same_bytes
returns-else-same_bytes c = left _ c.args.n (sym c.same_bytes.ensures ∙ c.if-same_bytes.false)
