-- `book_text::book`: the directory, the rows, the required columns and the starts laid one after the other are what stands in front of the links, and the links are written behind them. Assumes nothing.
use mathlib.Core.Path.{refl, ◌∙◌}
use Prim.Native.Nat.{ℕ}
use lib.ListN.{length-replicate}
use Rattle.book.specs.Text.{LINKS}
use Rattle.book_laid.proofs.Laws.Laying.{front_laid}
use Rattle.book_text.proofs.book.Goals as goal

pub link_tables-requires : goal.link_tables-requires
link_tables-requires c =
    record {
      text_len = c.lay-4.ensures.text_len_unchanged ∙ c.lay-3.ensures.text_len_unchanged ∙ c.lay-2.ensures.text_len_unchanged ∙ c.lay.ensures.text_len_unchanged ∙ length-replicate {A = ℕ} LINKS 0;
      text_value = front_laid
          c.directory-head.result
          c.rows-rows.result
          c.wanted-wanted.result
          c.starts-starts.result
          c.lay.new.text
          c.lay-2.new.text
          c.lay-3.new.text
          c.lay-4.new.text
          c.directory-head.ensures.value
          c.rows-rows.ensures
          c.wanted-wanted.ensures
          c.starts-starts.ensures
          c.lay.ensures.text_after
          c.lay-2.ensures.text_after
          c.lay-3.ensures.text_after
          c.lay-4.ensures.text_after;
      front_value = refl;
    }
