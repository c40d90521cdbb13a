-- The columns of protein rows that calls count, by name: a word and an index. Assumes nothing.
use Rattle.std.specs.Prelude.{ℕ, ◌++◌}
use Rattle.text_bytes.specs.Bytes.{Bytes, bytes}
use Rattle.value_references.specs.Index.{written}

-- protein is section 1
abbrev pub PROTEIN : ℕ
PROTEIN = 1

-- an index is 1 to 64
abbrev pub INDICES : ℕ
INDICES = 64

-- the name of a column is its word and an index
abbrev pub named : Bytes → ℕ → Bytes
named word n = word ++ written n

-- the abundance of a study variable
abbrev pub ABUNDANCE : Bytes
ABUNDANCE = bytes "protein_abundance_study_variable"

-- the counts of a run: its PSMs, distinct peptides, unique peptides
abbrev pub PSMS : Bytes
PSMS = bytes "num_psms_ms_run"

abbrev pub DISTINCT : Bytes
DISTINCT = bytes "num_peptides_distinct_ms_run"

abbrev pub UNIQUE : Bytes
UNIQUE = bytes "num_peptides_unique_ms_run"
