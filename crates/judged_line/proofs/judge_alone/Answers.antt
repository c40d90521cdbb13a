-- `judged_line::judge_alone` meets its contract: what is carried to the line, the kinds of the nearest header's columns with it, stands for the lines above it.
-- Assumes nothing.
use mathlib.Core.Path.{refl, ap}
use Prim.Native.Nat.{ℕ}
use native.Mathlib.Omega.{arith}
use lib.ListN.{length-replicate}
use Rattle.book.specs.Text.{book_in}
use Rattle.scan.specs.Machine.{FIRSTS}
use Rattle.judging.specs.declared.parts.Stand.{Stand}
use Rattle.judged_line.proofs.Laws.Passing.{scan_known, section_is, kinds_known}
use Rattle.judged_line.proofs.Laws.Alone.{scan_first, is_line_lem, no_line, within, line_alone}
use Rattle.judged_line.proofs.judge_alone.Goals as goal

pub reach-requires : goal.reach-requires
reach-requires c =
    record {
      book = c.requires.book;
      file_len_bound = c.requires.going.limit;
      reaches = (c.args.begun.kinds, (c.requires.going.columns, scan_first c.requires.stand_value c.requires.going.midway.scan));
      section_value = ap (λ (x : Stand). x.state.section) c.requires.stand_value;
      asking_of = c.requires.going.midway.asking;
      flags = c.requires.going.declared.shape;
      slots_len = length-replicate {A = ℕ} FIRSTS 0;
    }

pub returns-in_err-reached : goal.returns-in_err-reached
returns-in_err-reached c = rw c.from_residual.ensures (no_line c.args.file.now c.args.line c.in_err-reached.ensures.reached, refl)

pub learn_kinds-requires : goal.learn_kinds-requires
learn_kinds-requires c =
    let r = c.in_ok-reached.ensures.reached in
    record {
      book = c.requires.book;
      file_len_bound = c.requires.going.limit;
      head_in_bounds = (λ low. ((r.headed low).0, section_is r.reaches low));
      kinds_len = c.requires.going.columns;
    }

pub overflow_add-next : goal.overflow_add-next
overflow_add-next c = omega (arith, c.in_ok-reached.ensures.reached.on, c.requires.going.limit)

pub overflow_sub-above : goal.overflow_sub-above
overflow_sub-above c = omega (arith, c.in_ok-reached.ensures.reached.low)

pub judge_lines-judged-requires : goal.judge_lines-judged-requires
judge_lines-judged-requires c =
    let r = c.in_ok-reached.ensures.reached in
    let scan = scan_known r.reaches (kinds_known r.reaches r.headed c.learn_kinds.ensures.learnt) in
    record {
      le_room = omega arith;
      end_in_bounds = omega (arith, r.on);
      book = c.requires.book;
      file_len_bound = c.requires.going.limit;
      scan = scan;
      asking_of = r.asking;
      declared = c.requires.going.declared;
      kinds_len = c.learn_kinds.ensures.kinds_len_2;
      slots_len = c.in_ok-reached.ensures.slots_len_2;
    }

pub returns : goal.returns
returns c =
    let b = book_in c.args.book.now in
    let low = c.in_ok-reached.ensures.reached.low in
    let judged = c.judge_lines-judged.ensures in (
      is_line_lem c.args.file.now c.args.line low (within b c.args.file.now c.args.line low refl refl judged.lined judged.scan_2),
      line_alone b c.args.file.now c.args.line low refl refl judged.lined judged.scan_2,
    )
