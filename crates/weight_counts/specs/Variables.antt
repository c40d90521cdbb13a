-- The study variables of a file: how many there are, and the column of each. Assumes nothing.
use Rattle.std.specs.Prelude.{ℕ, ◌++◌}
use Rattle.text_bytes.specs.Bytes.{Bytes, bytes}
use Rattle.value_references.specs.Index.{written}

-- protein is section 1
abbrev pub PROTEIN : ℕ
PROTEIN = 1

-- the name of the column of study variable i
abbrev pub WORD : Bytes
WORD = bytes "protein_abundance_study_variable"

abbrev pub abundance : ℕ → Bytes
abundance i = WORD ++ written i

-- there are 64 study variables, of which number i has the place i - 1
abbrev pub VARIABLES : ℕ
VARIABLES = 64
