-- `weight_marks::marks_of` meets its contract: the study variable of a column is the same here as there. Assumes nothing.
use Rattle.column_marks.specs.Marks.{variable_of as column_variable}
use Rattle.weight_marks.specs.Marks.{variable_of}
use Rattle.weight_marks.proofs.marks_of.Goals as goal

pub returns : goal.returns
unfolding variable_of column_variable
returns c =
    record {
      good = record { long = c.marks_of.ensures.good.long; inside = c.marks_of.ensures.good.inside; low = c.marks_of.ensures.good.low; none = c.marks_of.ensures.good.none };
      says = c.marks_of.ensures.says;
    }
