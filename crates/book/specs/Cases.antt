-- Worked examples of the book, computed. Assumes nothing.
use Rattle.std.specs.Prelude.{ℕ, ◌≡◌, refl, false, [], ◌∷◌, map, drop, Ok, Err}
use Prim.Native.String.{String}
use Rattle.text_bytes.specs.Bytes.{bytes, begins}
use Rattle.value_references.specs.Index.{digits, number, bracketed, index_at}
use Rattle.book_names.specs.Names.{pieces_from, entry_of, fits, first_of, Found, known_as}
use Rattle.book_names.specs.Steps.{extent}
use Rattle.book.specs.Keys.{keys}
use Rattle.book.specs.Columns.{protein_columns, peptide_columns, psm_columns, molecule_columns, protein_required, peptide_required, psm_required, molecule_required}
use Rattle.book.specs.Book.{is_section, section_of, key_of, is_opt, opt_of, column_of, mz_tab}
use Rattle.value_references.specs.declared.index.Flaw.TheVariants.{Form, Zero, Over}

abbrev key : String → Found
key name = key_of mz_tab (bytes name)

abbrev column : ℕ → String → Found
column s name = column_of mz_tab s (bytes name)

abbrev entry_number : Found → ℕ
entry_number (Err w) = 999
entry_number (Ok k) = k.entry

-- a key with no index, one and two; its kind is text, its value names no id (84 is `T`, 45 `-`)
keys_known : (key "mzTab-ID" ≡ known_as 3 84 45 0 0) × (key "contact[3]-email" ≡ known_as 10 84 45 3 0) × (key "assay[1]-quantification_mod[64]-position" ≡ known_as 19 84 45 1 64)
unfolding mz_tab key_of keys bytes entry_of pieces_from first_of fits index_at bracketed digits number
keys_known = (refl, refl, refl)

-- a reference, whose value names a sample (114 is `r`, 83 `S`)
reference_key : key "assay[2]-sample_ref" ≡ known_as 57 114 83 2 0
unfolding mz_tab key_of keys bytes entry_of pieces_from first_of fits index_at bracketed digits number
reference_key = refl

-- an index that is missing, no name and a name that goes on are unknown for their form
keys_unknown : (key "uri" ≡ Err Form) × (key "" ≡ Err Form) × (key "title " ≡ Err Form)
unfolding mz_tab key_of keys bytes entry_of pieces_from first_of fits index_at bracketed digits number
keys_unknown = (refl, refl, refl)

-- an index that is zero or begins with zero
keys_zero : (key "sample[0]-description" ≡ Err Zero) × (key "sample[00]-description" ≡ Err Zero) × (key "sample[01]-description" ≡ Err Zero) × (key "uri[065]" ≡ Err Zero)
unfolding mz_tab key_of keys bytes entry_of pieces_from first_of fits index_at bracketed digits number
keys_zero = (refl, refl, refl, refl)

-- an index over 64, however long
keys_over : (key "sample[65]-description" ≡ Err Over) × (key "sample[100000000000000000000]-description" ≡ Err Over) × (key "study_variable[65]-sample_refs" ≡ Err Over)
unfolding mz_tab key_of keys bytes entry_of pieces_from first_of fits index_at bracketed digits number
keys_over = (refl, refl, refl)

-- the leftmost bad index decides
keys_leftmost : (key "assay[0]-quantification_mod[65]" ≡ Err Zero) × (key "assay[65]-quantification_mod[0]" ≡ Err Over)
    × (key "assay[1]-quantification_mod[0]" ≡ Err Zero) × (key "assay[65]-quantification_mod[2]" ≡ Err Over)
unfolding mz_tab key_of keys bytes entry_of pieces_from first_of fits index_at bracketed digits number
keys_leftmost = (refl, refl, refl, refl)

-- brackets that are empty or hold more than digits are no index, and a bad index makes no form known
keys_no_index : (key "sample[]-description" ≡ Err Form) × (key "sample[1a]-description" ≡ Err Form) × (key "sample[-1]-description" ≡ Err Form)
    × (key "sample[ 1]-description" ≡ Err Form) × (key "sample[01]-descriptio" ≡ Err Form)
unfolding mz_tab key_of keys bytes entry_of pieces_from first_of fits index_at bracketed digits number
keys_no_index = (refl, refl, refl, refl, refl)

-- the text of a name's form is as long as that of its pattern, whatever digits stand in its brackets; what is no index counts byte by byte
forms_long : (extent false (bytes "sample[n]-description") ≡ 21) × (extent false (bytes "sample[7]-description") ≡ 21) × (extent false (bytes "sample[00065]-description") ≡ 21)
    × (extent false (bytes "assay[12]-quantification_mod[0]") ≡ 30) × (extent false (bytes "title") ≡ 5)
unfolding extent bytes
forms_long = (refl, refl, refl, refl, refl)

-- a column that names run 7, its last index (68 is `D`, 82 `R`); reliability is text in section 4 (84 is `T`) and not in section 2 (82 is `R`)
columns_known : (column 1 "search_engine_score[2]_ms_run[7]" ≡ known_as 16 68 82 2 7) × (column 4 "reliability" ≡ known_as 11 84 45 0 0) × (column 2 "reliability" ≡ known_as 8 82 45 0 0)
unfolding mz_tab is_section section_of column_of protein_columns peptide_columns psm_columns molecule_columns is_opt begins bytes entry_of pieces_from first_of fits index_at bracketed digits number
columns_known = (refl, refl, refl)

-- another section's column is unknown, `opt_` alone too; with a byte more it is known everywhere
columns_other : (column 3 "taxid" ≡ Err Form) × (column 3 "opt_" ≡ Err Form) × (column 3 "opt_x" ≡ known_as 255 84 45 0 0) × (column 5 "charge" ≡ Err Form)
unfolding mz_tab is_section section_of column_of protein_columns peptide_columns psm_columns molecule_columns is_opt opt_of begins bytes entry_of pieces_from first_of fits index_at bracketed digits number
columns_other = (refl, refl, refl, refl)

-- a column with a bad index; `opt_` columns have none
columns_flawed : (column 1 "num_psms_ms_run[0]" ≡ Err Zero) × (column 1 "search_engine_score[65]_ms_run[0]" ≡ Err Over) × (column 3 "search_engine_score[01]" ≡ Err Zero)
    × (column 3 "search_engine_score[01]_ms_run[1]" ≡ Err Form) × (column 1 "opt_assay[0]" ≡ known_as 255 84 45 0 0)
unfolding mz_tab is_section section_of column_of protein_columns peptide_columns psm_columns molecule_columns is_opt opt_of begins bytes entry_of pieces_from first_of fits index_at bracketed digits number
columns_flawed = (refl, refl, refl, refl, refl)

-- every required column is known in its section, at these entries: its name stands behind a letter and a space
abbrev required_entry : ℕ → String → ℕ
required_entry s r = entry_number (column_of mz_tab s (drop 2 (bytes r)))

required_known : (map (required_entry 1) protein_required ≡ 0 ∷ 1 ∷ 3 ∷ 21 ∷ []) × (map (required_entry 2) peptide_required ≡ 5 ∷ 0 ∷ 7 ∷ 10 ∷ 3 ∷ 17 ∷ 18 ∷ [])
    × (map (required_entry 3) psm_required ≡ 5 ∷ 6 ∷ 0 ∷ 12 ∷ 7 ∷ []) × (map (required_entry 4) molecule_required ≡ 7 ∷ 13 ∷ [])
unfolding protein_required peptide_required psm_required molecule_required mz_tab is_section section_of column_of protein_columns peptide_columns psm_columns molecule_columns is_opt begins bytes entry_of pieces_from first_of fits index_at bracketed digits number
required_known = (refl, refl, refl, refl)
