-- The study variable of each column of a header. No public contract cites this file. Assumes nothing.
use Rattle.std.specs.Prelude.{ℕ, ◌<◌, ◌≡◌, [], get_or}
use Rattle.text_bytes.specs.Bytes.{Bytes}
use Rattle.text.specs.Lines.{cells}
use Rattle.value_references.specs.References.{ref_to}
use Rattle.weight_counts.specs.Variables.{WORD}
use Rattle.weight_counts.specs.Counts.{COLUMNS, IsMarks}
use Rattle.column_marks.specs.declared.Marks.{Marks}

-- the study variable of a column name; 0 where it has none
unfoldable pub variable_of : Bytes → ℕ
variable_of name = ref_to WORD name

-- the marks of a header
pub record Marked (header : Bytes) (m : Marks) : Type 0 where
  pub good : IsMarks m.of m.width
  pub says : (j : ℕ) → j < COLUMNS → get_or m.of j 0 ≡ variable_of (get_or (cells header) j [])
