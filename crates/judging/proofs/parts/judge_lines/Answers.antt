-- `judging::parts::judge_lines` meets its contract. The invariant: what is carried stands for the lines passed, and what was put are the breaks ahead of where
-- it began, up to those of the lines left. Assumes nothing.
use mathlib.Core.Path.{refl, sym, subst⁻¹}
use mathlib.Core.Logic.{inl}
use Prim.Native.Nat.{ℕ, ◌+◌, ◌-◌, ◌≤◌}
use native.Mathlib.Omega.{arith}
use borrow.Author.Rules.{rules}
use lib.ListN.{drop, length-replicate, length-take, length-drop}
use Rattle.text.specs.Lines.{lines}
use Rattle.text_bytes.proofs.Laws.Tests.{absurd_bool}
use Rattle.book.specs.Text.{book_in}
use Rattle.book.proofs.Laws.Sized.{book_sized}
use Rattle.book_facts.specs.Asked.{AskingOf}
use Rattle.scan.specs.Places.{FILE_MOST}
use Rattle.scan.proofs.Laws.Following.{asking_kept}
use Rattle.scan.proofs.Laws.Scanning.{scan_step, scan_left, left_bound}
use Rattle.line_head_stamps.specs.Stamps.{ROOM}
use Rattle.judging.specs.Parts.{ahead}
use Rattle.judging.proofs.Laws.Parting.{parted_start, parted_next, alone_next, alone_full, alone_done}
use Rattle.judging.proofs.Laws.Knowing.{flags_know}
use Rattle.judging.proofs.parts.judge_lines.Goals as goal

pub loop-at-init : goal.loop-at-init
loop-at-init c = (c.requires.scan, parted_start c.args.places.now (omega arith) refl, omega arith, omega arith, (λ h. omega arith), refl, c.requires.kinds_len, c.requires.slots_len, length-replicate {A = ℕ} ROOM 0, c.requires.asking_of, (λ e. inl (refl, refl, refl)))

pub returns-then-room-k : goal.returns-then-room-k
returns-then-room-k c =
    record {
      lined = record { parted = c.loop-at.invariant.1; fits = c.loop-at.invariant.2; full = λ h. c.if-room-k.true; further = λ h. c.loop-at.invariant.4 (omega (arith, c.requires.le_room, c.if-room-k.true)); done = λ h. absurd_bool (sym h); alone = alone_full c.loop-at.invariant.10 c.requires.le_room c.if-room-k.true };
      scan_2 = c.loop-at.invariant.0;
      asking_of_2 = c.loop-at.invariant.9;
      kinds_len_2 = (c.loop-at.invariant.6, c.loop-at.invariant.7);
    }

pub line_at-line-requires : goal.line_at-line-requires
line_at-line-requires c = omega (arith, c.loop-at-test.true, c.requires.end_in_bounds)

pub overflow_add-n : goal.overflow_add-n
overflow_add-n c = omega (arith, c.loop-at.invariant.0.counted, c.loop-at.invariant.0.within, c.requires.file_len_bound)

pub judge_line-step-requires : goal.judge_line-step-requires
judge_line-step-requires c =
    let counts : c.loop-at.k ≤ FILE_MOST = omega (arith, c.loop-at.invariant.1.most, left_bound _ (book_sized c.args.book.now) c.args.file.now c.requires.file_len_bound c.args.stand.lines) in
    record {
      count_bound = omega (arith, counts);
      book = c.requires.book;
      line_len_bound = omega (arith, length-take (c.line_at-line.result.end - c.loop-at.at) (drop c.loop-at.at c.args.file.now), length-drop c.loop-at.at c.args.file.now, c.requires.file_len_bound);
      flags = c.requires.declared.shape;
      kinds_len = c.loop-at.invariant.6;
      slots_len = c.loop-at.invariant.7;
      stamps_len = c.loop-at.invariant.8;
    }

pub loop-at-preserved : goal.loop-at-preserved
loop-at-preserved c =
    let b = book_in c.args.book.now in
    let knows = flags_know _ c.args.flags.now c.args.file.now c.loop-at.invariant.9 c.requires.declared in
    (scan_step (book_sized _) c.loop-at.invariant.0 c.line_at-line.ensures c.judge_line-step.ensures.follows, parted_next (ahead b c.args.file.now (c.loop-at.n + 1)) c.loop-at.invariant.1 c.judge_line-step.ensures.puts (scan_left (book_sized _) c.loop-at.invariant.0 c.line_at-line.ensures knows), omega (arith, c.judge_line-step.ensures.puts.most, c.if-room-k.false), omega (arith, c.line_at-line.ensures.on, c.loop-at.invariant.3), (λ h. omega (arith, c.line_at-line.ensures.on, c.loop-at.invariant.3)), search rules, c.judge_line-step.ensures.follows.kind_places, c.judge_line-step.ensures.follows.key_places, c.judge_line-step.ensures.stamps_len_2, subst⁻¹ (AskingOf b (lines c.args.file.now)) (asking_kept c.judge_line-step.ensures.follows) c.loop-at.invariant.9, alone_next c.loop-at.invariant.10 c.loop-at-test.true c.line_at-line.ensures.on)

pub returns : goal.returns
returns c =
    record {
      lined = record { parted = c.loop-at.invariant.1; fits = c.loop-at.invariant.2; full = λ h. absurd_bool h; further = λ h. absurd_bool h; done = λ h. c.loop-at-test.false; alone = alone_done c.loop-at.invariant.10 c.loop-at-test.false };
      scan_2 = c.loop-at.invariant.0;
      asking_of_2 = c.loop-at.invariant.9;
      kinds_len_2 = (c.loop-at.invariant.6, c.loop-at.invariant.7);
    }
