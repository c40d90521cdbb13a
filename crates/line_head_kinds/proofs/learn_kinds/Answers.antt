-- `line_head_kinds::learn_kinds` meets its contract. The invariant: the kinds of the names so far are kept, and the cells after the current one are those that
-- are left. Assumes nothing.
use mathlib.Core.Path.{◌≡◌, sym, ap, subst, ◌∙◌}
use mathlib.Core.List.{[], ◌∷◌}
use Prim.Native.Nat.{ℕ, ◌+◌, ◌-◌, ◌<◌}
use native.Mathlib.Omega.{arith}
use lib.ListN.{length, take, drop, set, length-set, length-drop}
use lib.Seq.{drop-drop}
use Rattle.text.specs.Lines.{cells}
use Rattle.book.specs.Book.{column_of}
use Rattle.book.specs.Text.{book_in}
use Rattle.rules.specs.Rules.{kind_in}
use Rattle.scan.proofs.Laws.Celling.{cell_here, cells_next, cells_last}
use Rattle.line_head_kinds.proofs.Laws.Kinds.{KindsTo, kinds_step, unended}
use Rattle.line_head_kinds.proofs.learn_kinds.Goals as goal

pub returns-then-width-gt-MOST_CELLS : goal.returns-then-width-gt-MOST_CELLS
returns-then-width-gt-MOST_CELLS c =
    record {
      kinds_of = (λ few. absurd (omega (arith, c.if-width-gt-MOST_CELLS.true, few, c.requires.width_value)));
      kinds_len_2 = c.requires.kinds_len;
    }

pub loop-c-init : goal.loop-c-init
loop-c-init c = (c.cell_end-end.ensures.within, omega arith, c.if-width-gt-MOST_CELLS.false, c.requires.kinds_len, cells_next c.cell_end-end.ensures, cells_last c.cell_end-end.ensures, (λ i lt. absurd (omega arith)))

pub column-found-requires : goal.column-found-requires
column-found-requires c = c.requires.book

pub cell_end-end-requires-in-loop-c : goal.cell_end-end-requires-in-loop-c
cell_end-end-requires-in-loop-c c =
    let before : c.loop-c.end < length c.args.line.now = unended c.loop-c.c (cells c.args.line.now) c.loop-c.invariant.0 c.loop-c.invariant.5 (omega (arith, c.requires.width_value)) in
    omega (arith, before)

pub loop-c-preserved : goal.loop-c-preserved
loop-c-preserved c =
    let before : c.loop-c.end < length c.args.line.now = unended c.loop-c.c (cells c.args.line.now) c.loop-c.invariant.0 c.loop-c.invariant.5 (omega (arith, c.requires.width_value)) in
    let ahead : drop c.loop-c.c (cells c.args.line.now) ≡ take (c.cell_end-end-in-loop-c.result - (c.loop-c.end + 1)) (drop (c.loop-c.end + 1) c.args.line.now) ∷ drop 1 (cells (drop (c.loop-c.end + 1) c.args.line.now)) = c.loop-c.invariant.4 before ∙ cell_here c.cell_end-end-in-loop-c.ensures in
    let z : c.loop-c.c + 1 - 1 ≡ c.loop-c.c = omega arith in
    let y : 1 + (c.loop-c.c + 1 - 2) ≡ c.loop-c.c = omega (arith, c.loop-c.invariant.1) in
    let x = take (c.cell_end-end-in-loop-c.result - (c.loop-c.end + 1)) (drop (c.loop-c.end + 1) c.args.line.now) in
    let here : drop (c.loop-c.c + 1 - 2) (drop 1 (cells c.args.line.now)) ≡ x ∷ drop 1 (cells (drop (c.loop-c.end + 1) c.args.line.now)) = drop-drop (c.loop-c.c + 1 - 2) 1 (cells c.args.line.now) ∙ ap (λ (i : ℕ). drop i (cells c.args.line.now)) y ∙ ahead in
    let tail : drop (c.loop-c.c + 1) (cells c.args.line.now) ≡ drop 1 (cells (drop (c.loop-c.end + 1) c.args.line.now)) = sym (drop-drop 1 c.loop-c.c (cells c.args.line.now)) ∙ ap (drop 1) (c.loop-c.invariant.4 before) in
    let kind : c.kind_in.result ≡ kind_in (column_of (book_in c.args.book.now) c.args.section x) = c.kind_in.ensures ∙ ap kind_in c.column-found.ensures in
    let set-as : set c.loop-c.kinds (c.loop-c.c + 1 - 1) (kind_in (column_of (book_in c.args.book.now) c.args.section x)) ≡ set c.loop-c.kinds c.loop-c.c c.kind_in.result = rw (z, kind) in (
      c.cell_end-end-in-loop-c.ensures.within,
      omega (arith, c.loop-c.invariant.1),
      c.loop-c.invariant.2,
      length-set c.loop-c.kinds c.loop-c.c c.kind_in.result ∙ c.loop-c.invariant.3,
      (λ lt. tail ∙ cells_next c.cell_end-end-in-loop-c.ensures lt),
      (λ e. tail ∙ cells_last c.cell_end-end-in-loop-c.ensures e),
      subst (KindsTo (book_in c.args.book.now) c.args.section (c.loop-c.c + 1 + 1) (drop 1 (cells c.args.line.now))) set-as
          (kinds_step (book_in c.args.book.now) (drop 1 (cells c.args.line.now)) (c.loop-c.c + 1) (omega (arith, c.loop-c.invariant.1)) here c.args.section c.loop-c.kinds (omega arith) c.loop-c.invariant.6),
    )

pub returns : goal.returns
returns c =
    record {
      kinds_of = (λ few i lt. c.loop-c.invariant.6 i (omega (arith, length-drop 1 (cells c.args.line.now), lt, c.requires.width_value)));
      kinds_len_2 = c.loop-c.invariant.3;
    }
