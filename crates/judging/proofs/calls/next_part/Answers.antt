-- `judging::calls::next_part` meets its contract: what is carried is handed to the part and taken back from it. Assumes nothing.
use Rattle.judging.proofs.calls.next_part.Goals as goal

pub judge_part-stand-requires : goal.judge_part-stand-requires
judge_part-stand-requires c =
    record {
      le_room = c.requires.le_room;
      book = c.requires.book;
      file_len_bound = c.requires.going.limit;
      midway = c.requires.going.midway;
      declared = c.requires.going.declared;
      kinds_len = c.requires.going.columns;
      slots_len = c.requires.going.keys;
    }

pub returns : goal.returns
returns c =
    record {
      parts = c.judge_part-stand.ensures.parts;
      going_2 = (λ q. record { limit = c.requires.going.limit; midway = c.judge_part-stand.ensures.midway_2 q; declared = c.requires.going.declared; columns = c.judge_part-stand.ensures.kinds_len_2.0; keys = c.judge_part-stand.ensures.kinds_len_2.1 });
    }
