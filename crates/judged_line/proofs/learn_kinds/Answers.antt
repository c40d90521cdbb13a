-- `judged_line::learn_kinds` meets its contract: where there is a header its names are judged, and their kinds kept. Assumes nothing.
use Prim.Native.Nat.{ℕ, ◌-◌, ◌<◌}
use native.Mathlib.Omega.{arith}
use lib.ListN.{drop, length-take, length-drop, length-replicate}
use Rattle.line_head_stamps.specs.Stamps.{ROOM}
use Rattle.judged_line.proofs.Laws.Passing.{learnt}
use Rattle.judged_line.proofs.learn_kinds.Goals as goal

pub returns-then-section-eq0 : goal.returns-then-section-eq0
returns-then-section-eq0 c =
    record {
      learnt = record { columns = λ low. absurd (omega (arith, low, c.if-section-eq0.true)) };
      kinds_len_2 = c.requires.kinds_len;
    }

pub line_at-here-requires : goal.line_at-here-requires
line_at-here-requires c =
    let low : 0 < c.args.state.section = omega (arith, c.if-section-eq0.false) in
    (c.requires.head_in_bounds low).0

pub judge_head-requires : goal.judge_head-requires
judge_head-requires c =
    let low : 0 < c.args.state.section = omega (arith, c.if-section-eq0.false) in
    record {
      count_bound = omega arith;
      book = c.requires.book;
      section_value = (c.requires.head_in_bounds low).1;
      kinds_len = c.requires.kinds_len;
      stamps_len = length-replicate {A = ℕ} ROOM 0;
      line_len_bound = omega (arith, length-take (c.line_at-here.result.end - c.args.head) (drop c.args.head c.args.file.now), length-drop c.args.head c.args.file.now, c.requires.file_len_bound);
    }

pub returns : goal.returns
returns c =
    record {
      learnt = learnt c.line_at-here.ensures c.judge_head.ensures.keeps_kinds.columns;
      kinds_len_2 = c.judge_head.ensures.keeps_kinds.kind_places;
    }
