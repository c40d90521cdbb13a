-- `judging::parts::judge_part` meets its contract: the breaks of the lines come next in the file's list, and where no line is left those at the end.
-- Assumes nothing.
use mathlib.Core.Path.{refl, sym}
use mathlib.Core.List.{[]}
use Prim.Native.Nat.{◌+◌, ◌≤◌}
use native.Mathlib.Omega.{arith}
use lib.ListN.{length}
use Rattle.text.specs.Lines.{lines}
use Rattle.text_bytes.proofs.Laws.Tests.{absurd_bool}
use Rattle.book.specs.Text.{book_in}
use Rattle.book.proofs.Laws.Sized.{book_sized}
use Rattle.rules.specs.Rules.{breaks_by}
use Rattle.scan.specs.Places.{FILE_MOST}
use Rattle.scan.proofs.Laws.Scanning.{breaks_bound}
use Rattle.judging.proofs.Laws.Parting.{parted_within, parted_next, parted_all}
use Rattle.judging.proofs.Laws.Knowing.{flags_assay, end_left}
use Rattle.judging.proofs.parts.judge_part.Goals as goal

pub overflow_add-before : goal.overflow_add-before
overflow_add-before c =
    let all_few : length (breaks_by (book_in c.args.book.now) (lines c.args.file.now)) ≤ FILE_MOST = breaks_bound _ (book_sized c.args.book.now) c.args.file.now c.requires.file_len_bound in
    let b : c.args.stand.before + c.args.stand.held ≤ FILE_MOST = omega (arith, c.requires.midway.most, all_few) in
    omega (arith, b)

pub judge_lines-judged-requires : goal.judge_lines-judged-requires
judge_lines-judged-requires c =
    record {
      le_room = c.requires.le_room;
      end_in_bounds = omega arith;
      book = c.requires.book;
      file_len_bound = c.requires.file_len_bound;
      scan = c.requires.midway.scan;
      asking_of = c.requires.midway.asking;
      declared = c.requires.declared;
      kinds_len = c.requires.kinds_len;
      slots_len = c.requires.slots_len;
    }

pub returns-then-judged : goal.returns-then-judged
returns-then-judged c =
    let p = parted_within c.requires.midway.most c.requires.midway.left c.judge_lines-judged.ensures.lined.parted in
    record {
      parts = record { before = refl; most = p.most; puts = p.puts; fits = omega (arith, c.judge_lines-judged.ensures.lined.fits); full = λ h. c.judge_lines-judged.ensures.lined.full c.if-judged.true; further = λ h. c.judge_lines-judged.ensures.lined.further c.if-judged.true; all = λ h. absurd_bool (sym h) };
      midway_2 = (λ h. record { scan = c.judge_lines-judged.ensures.scan_2; asking = c.judge_lines-judged.ensures.asking_of_2; most = p.most; left = p.left });
      kinds_len_2 = c.judge_lines-judged.ensures.kinds_len_2;
    }

pub overflow_add-n : goal.overflow_add-n
overflow_add-n c = omega (arith, c.judge_lines-judged.ensures.scan_2.counted, c.judge_lines-judged.ensures.scan_2.within, c.requires.file_len_bound)

pub judge_end-held-requires : goal.judge_end-held-requires
judge_end-held-requires c =
    let all_few : length (breaks_by (book_in c.args.book.now) (lines c.args.file.now)) ≤ FILE_MOST = breaks_bound _ (book_sized c.args.book.now) c.args.file.now c.requires.file_len_bound in
    let p = parted_within c.requires.midway.most c.requires.midway.left c.judge_lines-judged.ensures.lined.parted in
    record {
      book = c.requires.book;
      whole = record { long = c.judge_lines-judged.ensures.kinds_len_2.1; shape = c.requires.declared.shape; assay = flags_assay _ c.args.flags.now c.args.file.now c.judge_lines-judged.ensures.asking_of_2 c.requires.declared };
      count_bound = omega (arith, p.most, all_few);
    }

pub returns : goal.returns
returns c =
    let e = end_left _ c.judge_lines-judged.ensures.scan_2 c.requires.declared c.judge_lines-judged.ensures.asking_of_2 (c.judge_lines-judged.ensures.lined.done c.if-judged.false) in
    let q = parted_within c.requires.midway.most c.requires.midway.left c.judge_lines-judged.ensures.lined.parted in
    let p = parted_next [] q c.judge_end-held.ensures e in
    record {
      parts = record { before = refl; most = p.most; puts = p.puts; fits = omega (arith, c.judge_end-held.ensures.most, c.judge_lines-judged.ensures.lined.fits); full = λ h. absurd_bool h; further = λ h. absurd_bool h; all = λ h. parted_all [] q c.judge_end-held.ensures e refl };
      midway_2 = (λ h. absurd_bool h);
      kinds_len_2 = c.judge_lines-judged.ensures.kinds_len_2;
    }
