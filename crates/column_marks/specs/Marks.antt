-- The mark of each column of a header. No public contract cites this file. Assumes nothing.
use Rattle.std.specs.Prelude.{ℕ, ◌≤◌, ◌<◌, ◌≡◌, cond, List, [], eqb, length, get_or}
use Rattle.text_bytes.specs.Bytes.{Bytes}
use Rattle.text.specs.Lines.{cells}
use Rattle.value_references.specs.References.{ref_to}
use Rattle.column_marks.specs.Columns.{INDICES, ABUNDANCE, PSMS, DISTINCT, UNIQUE}
use Rattle.column_marks.specs.declared.Asked.{Asked}
use Rattle.column_marks.specs.declared.Asked.TheVariants.{Variables, Counters}
use Rattle.column_marks.specs.declared.Marks.{Marks}

abbrev pub COLUMNS : ℕ
COLUMNS = 256

-- the study variable whose abundance a column has; 0 where it has none
unfoldable pub variable_of : Bytes → ℕ
variable_of name = ref_to ABUNDANCE name

-- the counter of a column: 1 PSMs, 2 distinct peptides, 3 unique peptides of a run; 0 where it is none of them
unfoldable pub counter_of : Bytes → ℕ
counter_of name =
    cond (eqb (ref_to PSMS name) 0) (cond (eqb (ref_to DISTINCT name) 0) (cond (eqb (ref_to UNIQUE name) 0) 0 3) 2) 1

-- the mark of a name, by what is asked for
abbrev pub mark_of : Asked → Bytes → ℕ
mark_of Variables name = variable_of name
mark_of Counters name = counter_of name

-- marks that a walk can use: one for each of 256 columns, none from `width` on
pub record IsMarks (marks : List ℕ) (width : ℕ) : Type 0 where
  pub long : length marks ≡ COLUMNS
  pub inside : width ≤ COLUMNS
  pub low : (j : ℕ) → get_or marks j 0 ≤ INDICES
  pub none : (j : ℕ) → width ≤ j → get_or marks j 0 ≡ 0

-- the marks of a header
pub record Marked (asked : Asked) (header : Bytes) (m : Marks) : Type 0 where
  pub good : IsMarks m.of m.width
  pub says : (j : ℕ) → j < COLUMNS → get_or m.of j 0 ≡ mark_of asked (get_or (cells header) j [])
