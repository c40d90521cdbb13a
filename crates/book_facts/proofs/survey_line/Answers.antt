-- `book_facts::survey_line` meets its contract: only metadata lines declare ids and say facts. Assumes nothing.
use borrow.Author.Tests.{not-true, not-false}
use mathlib.Core.Path.{sym, ap, ◌∙◌}
use Rattle.text_bytes.specs.Bytes.{bytes}
use Rattle.book_ids.specs.Ids.{marked}
use Rattle.book_ids.proofs.Laws.Marks.{line_other}
use Rattle.book_facts.proofs.Laws.Surveying.{other_code, noted_none}
use Rattle.book_facts.proofs.survey_line.Goals as goal

pub returns-then-not-has_code : goal.returns-then-not-has_code
unfolding bytes marked
returns-then-not-has_code c =
    let n = sym c.has_code.ensures ∙ not-true c.has_code.result c.if-not-has_code.true-raw in
    record {
      flags_after = sym (ap (marked c.args.flags.now) (line_other _ c.args.line.now n));
      value = sym (noted_none c.args.facts c.args.n c.args.line.now (other_code c.args.line.now n));
    }

pub note_line-requires : goal.note_line-requires
unfolding bytes
note_line-requires c = sym c.has_code.ensures ∙ not-false c.has_code.result c.if-not-has_code.false-raw
