-- `line_head::head_names` meets its contract: rule 16, then each name. Assumes nothing.
use native.Mathlib.Omega.{arith}
use Rattle.scan.proofs.Laws.Putting.{puts2}
use Rattle.line_head.proofs.head_names.Goals as goal

pub head_cells-requires : goal.head_cells-requires
head_cells-requires c =
    record {
      count_bound = omega (arith, c.requires.count_bound, c.put_if-k.ensures.most);
      book = c.requires.book;
      from_in_bounds = c.requires.from_in_bounds;
      line_len_bound = c.requires.line_len_bound;
      kinds_len = c.requires.kinds_len;
      stamps_len = c.requires.stamps_len;
    }

pub returns : goal.returns
returns c =
    record {
      puts = puts2 (rw c.lacks-lacking.ensures at c.put_if-k.ensures) c.head_cells.ensures.puts;
      kept = record { columns = c.head_cells.ensures.kinds_of; kind_places = c.head_cells.ensures.kinds_len_2; stamp_places = c.head_cells.ensures.stamps_len_2 };
    }
