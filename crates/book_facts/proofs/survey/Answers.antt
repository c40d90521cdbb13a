-- `book_facts::survey`: the flags and the facts so far, and the lines that are left, decide. Assumes nothing.
use native.Mathlib.Omega.{arith}
use mathlib.Core.Path.{refl, subst⁻¹}
use mathlib.Core.List.{List}
use mathlib.Core.Bool.{Bool}
use Prim.Native.Nat.{◌+◌}
use lib.ListN.{drop}
use Rattle.text_bytes.specs.Places.{part}
use Rattle.text.specs.Lines.{lines}
use Rattle.text.proofs.Laws.Lines.{lines_done}
use Rattle.book.specs.Text.{book_in}
use Rattle.book_ids.specs.Ids.{Flags, line_id}
use Rattle.book_ids.proofs.Laws.Marks.{Left as IdsLeft, start_flags, left_start as ids-start, left_next as ids_next, left_done as ids_done, marked_flags, line_range}
use Rattle.book_facts.specs.declared.Facts.{Facts}
use Rattle.book_facts.proofs.Laws.Surveying.{Left, left_start, left_next, left_passed, ids_passed, left_done}
use Rattle.book_facts.proofs.survey.Goals as goal

pub loop-at-init : goal.loop-at-init
loop-at-init c = (
  omega arith,
  omega arith,
  subst⁻¹ Flags c.requires.flags_value start_flags,
  subst⁻¹ (λ (t : List (List Bool)). IdsLeft (book_in c.args.book.now) t c.args.file.now 0) c.requires.flags_value (ids-start _ _),
  left_start _ _ refl refl refl,
)

pub overflow_add-n : goal.overflow_add-n
overflow_add-n c = omega (arith, c.loop-at.invariant.1, c.loop-at.invariant.0, c.requires.file_len_bound)

pub loop-at-preserved-then-file-at-eq-FIRST : goal.loop-at-preserved-then-file-at-eq-FIRST
loop-at-preserved-then-file-at-eq-FIRST c =
    let book = book_in c.args.book.now in
    let line = part c.loop-at.at c.line_at-line.result.end c.args.file.now in (
      c.line_at-line.ensures.within,
      omega (arith, c.line_at-line.ensures.on, c.loop-at.invariant.1),
      subst⁻¹ Flags c.survey_line-facts.ensures.flags_after (marked_flags c.loop-at.flags c.loop-at.invariant.2 (line_id book line) (line_range book line)),
      subst⁻¹ (λ (v : List (List Bool)). IdsLeft book v c.args.file.now c.line_at-line.result.next) c.survey_line-facts.ensures.flags_after (ids_next book c.loop-at.flags c.args.file.now c.loop-at.at c.line_at-line.result.end c.line_at-line.result.next c.loop-at.invariant.2 c.line_at-line.ensures c.loop-at.invariant.3),
      subst⁻¹ (λ (y : Facts). Left (lines c.args.file.now) y (c.loop-at.n + 1) (lines (drop c.line_at-line.result.next c.args.file.now))) c.survey_line-facts.ensures.value (left_next line (lines (drop c.line_at-line.result.next c.args.file.now)) c.line_at-line.ensures.cut c.loop-at.invariant.4),
    )

pub next_opening-next-requires : goal.next_opening-next-requires
next_opening-next-requires c = record { from_in_bounds = (c.loop-at-test.true, c.requires.file_len_bound); fact = c.if-file-at-eq-FIRST.false }

pub overflow_add-n-else-file-at-eq-FIRST : goal.overflow_add-n-else-file-at-eq-FIRST
overflow_add-n-else-file-at-eq-FIRST c = omega (arith, c.loop-at.invariant.1, c.next_opening-next.ensures.few, c.next_opening-next.ensures.within, c.requires.file_len_bound)

pub loop-at-smaller : goal.loop-at-smaller
loop-at-smaller c = omega (arith, c.next_opening-next.ensures.on, c.next_opening-next.ensures.within)

-- lines that begin with another byte
pub loop-at-preserved : goal.loop-at-preserved
loop-at-preserved c = (c.next_opening-next.ensures.within, omega (arith, c.next_opening-next.ensures.few, c.loop-at.invariant.1), c.loop-at.invariant.2, ids_passed (book_in c.args.book.now) c.loop-at.flags c.next_opening-next.ensures c.loop-at.invariant.3, left_passed c.next_opening-next.ensures.passed c.loop-at.invariant.4)

pub returns : goal.returns
returns c =
    record {
      declared = ids_done _ c.loop-at.flags _ c.loop-at.at c.loop-at-test.false c.loop-at.invariant.2 c.loop-at.invariant.3;
      facts_of = left_done (lines_done c.args.file.now c.loop-at.at c.loop-at-test.false) c.loop-at.invariant.4;
    }
