-- The columns of the four sections of mzTab 1.0, a line for each: the letter of its kind, the letter of the family that its name names (`-` none), a space, and
-- the column's name, with [n] where an index stands. In the paper's order. The letters are in Letters. Assumes nothing.
use Prim.Native.String.{String}
use Rattle.std.specs.Prelude.{List, [], ◌∷◌}

-- section 1
unfoldable pub protein_columns : List String
protein_columns =
    "K- accession"
    ∷ "T- description"
    ∷ "T- species"
    ∷ "T- database"
    ∷ "T- database_version"
    ∷ "T- ambiguity_members"
    ∷ "T- modifications"
    ∷ "T- uri"
    ∷ "T- go_terms"
    ∷ "W- taxid"
    ∷ "WR num_psms_ms_run[n]"
    ∷ "WR num_peptides_distinct_ms_run[n]"
    ∷ "WR num_peptides_unique_ms_run[n]"
    ∷ "R- reliability"
    ∷ "D- protein_coverage"
    ∷ "D- best_search_engine_score[n]"
    ∷ "DR search_engine_score[n]_ms_run[n]"
    ∷ "DA protein_abundance_assay[n]"
    ∷ "DV protein_abundance_study_variable[n]"
    ∷ "DV protein_abundance_stdev_study_variable[n]"
    ∷ "DV protein_abundance_std_error_study_variable[n]"
    ∷ "Q- search_engine"
    ∷ []

-- section 2
unfoldable pub peptide_columns : List String
peptide_columns =
    "T- accession"
    ∷ "T- database"
    ∷ "T- database_version"
    ∷ "T- modifications"
    ∷ "T- uri"
    ∷ "K- sequence"
    ∷ "T- spectra_ref"
    ∷ "W- charge"
    ∷ "R- reliability"
    ∷ "U- unique"
    ∷ "D- mass_to_charge"
    ∷ "D- best_search_engine_score[n]"
    ∷ "DR search_engine_score[n]_ms_run[n]"
    ∷ "DA peptide_abundance_assay[n]"
    ∷ "DV peptide_abundance_study_variable[n]"
    ∷ "DV peptide_abundance_stdev_study_variable[n]"
    ∷ "DV peptide_abundance_std_error_study_variable[n]"
    ∷ "L- retention_time"
    ∷ "N- retention_time_window"
    ∷ "Q- search_engine"
    ∷ []

-- section 3
unfoldable pub psm_columns : List String
psm_columns =
    "T- accession"
    ∷ "T- database"
    ∷ "T- database_version"
    ∷ "T- modifications"
    ∷ "T- uri"
    ∷ "K- sequence"
    ∷ "K- PSM_ID"
    ∷ "T- spectra_ref"
    ∷ "T- pre"
    ∷ "T- post"
    ∷ "T- start"
    ∷ "T- end"
    ∷ "W- charge"
    ∷ "R- reliability"
    ∷ "U- unique"
    ∷ "D- exp_mass_to_charge"
    ∷ "D- calc_mass_to_charge"
    ∷ "D- search_engine_score[n]"
    ∷ "L- retention_time"
    ∷ "Q- search_engine"
    ∷ []

-- section 4
unfoldable pub molecule_columns : List String
molecule_columns =
    "T- description"
    ∷ "T- species"
    ∷ "T- database"
    ∷ "T- database_version"
    ∷ "T- modifications"
    ∷ "T- uri"
    ∷ "T- spectra_ref"
    ∷ "T- identifier"
    ∷ "T- chemical_formula"
    ∷ "T- smiles"
    ∷ "T- inchi_key"
    ∷ "T- reliability"
    ∷ "W- taxid"
    ∷ "W- charge"
    ∷ "D- exp_mass_to_charge"
    ∷ "D- calc_mass_to_charge"
    ∷ "D- best_search_engine_score[n]"
    ∷ "DR search_engine_score[n]_ms_run[n]"
    ∷ "DA smallmolecule_abundance_assay[n]"
    ∷ "DV smallmolecule_abundance_study_variable[n]"
    ∷ "DV smallmolecule_abundance_stdev_study_variable[n]"
    ∷ "DV smallmolecule_abundance_std_error_study_variable[n]"
    ∷ "L- retention_time"
    ∷ "Q- search_engine"
    ∷ []

-- the columns that a header of each section must have, rule 16: the letter that says of which files it is asked, a space, and the column's name
unfoldable pub protein_required : List String
protein_required = "* accession" ∷ "* description" ∷ "* database" ∷ "* search_engine" ∷ []

unfoldable pub peptide_required : List String
peptide_required = "* sequence" ∷ "* accession" ∷ "* charge" ∷ "* mass_to_charge" ∷ "q modifications" ∷ "q retention_time" ∷ "q retention_time_window" ∷ []

unfoldable pub psm_required : List String
psm_required = "* sequence" ∷ "* PSM_ID" ∷ "* accession" ∷ "* charge" ∷ "* spectra_ref" ∷ []

unfoldable pub molecule_required : List String
molecule_required = "* identifier" ∷ "* charge" ∷ []
