-- `text::cells::has_code` meets its contract: the bytes up to the first tab are cell 1. Assumes nothing.
use mathlib.Core.Path.{sym, ap, ◌∙◌}
use mathlib.Core.List.{List}
use Prim.Native.Nat.{ℕ}
use lib.Seq.{length-take-le}
use Rattle.text_bytes.specs.Bytes.{same}
use Rattle.text.specs.Lines.{coded}
use Rattle.text_bytes.proofs.Laws.Pieces.{first_piece}
use Rattle.text.proofs.cells.has_code.Goals as goal

pub slice_bounds-same_bytes-end : goal.slice_bounds-same_bytes-end
slice_bounds-same_bytes-end c = sym (length-take-le c.cell_end-e.result c.args.line.now c.cell_end-e.ensures.within)

pub returns : goal.returns
unfolding coded
returns c = c.same_bytes.ensures ∙ ap (λ (l : List ℕ). same l c.args.code.now) (sym (first_piece c.cell_end-e.ensures))
