-- The paper's cases marked P as one statement over one list, those of the kinds and those of whole files; and its example, computed. Assumes nothing.
use Rattle.std.specs.Prelude.{◌≡◌, refl, Bool, true, false, ◌&&◌, List, [], ◌∷◌, ◌++◌, ℕ, eqb}
use Rattle.book_kinds.specs.Cases.{Case, is_a, agrees, cases}
use Rattle.text_bytes.specs.Bytes.{Bytes, bytes, same, begins, is_empty, any, all, first_from, on_first, split_on, is_space}
use Rattle.text_bytes.specs.Places.{after}
use Rattle.text.specs.Lines.{lines, starts_lf, coded, cell, is_field, control}
use Rattle.text.specs.Edits.{edited_file}
use Rattle.text.specs.Joined.{line_ends, joined, tabbed}
use Rattle.value_references.specs.Index.{written, digits, number, bracketed, index_at}
use Rattle.values.specs.Values.{are_digits, unsigned, unmarked, dotted, is_e, mantissa, exponent, is_exponent, is_unsigned, is_text, is_whole, is_numeral, is_decimal, is_decimals, is_window, is_null}
use Rattle.value_parameters.specs.Parameters.{quoted_after, cut_outside, has_fields, is_parameter, is_parameters}
use Rattle.book_names.specs.Names.{pieces_from, entry_of, fits, first_of}
use Rattle.book.specs.Keys.{keys, is_colunit}
use Rattle.book.specs.Columns.{protein_columns, peptide_columns, psm_columns, molecule_columns, protein_required, peptide_required, psm_required, molecule_required}
use Rattle.book.specs.Book.{mz_tab, up_from, wants_of, wants_in, last_cell, has_form, demands, book_of, is_section, section_of, coded_from, key_of, is_opt, opt_of, column_of}
use Rattle.book_ids.specs.Ids.{declares}
use Rattle.book_facts.specs.Facts.{earliest, mode_of, type_of}
use Rattle.book_facts.specs.Asked.{asks}
use Rattle.value_references.specs.References.{ref_in, ref_to, ref_flaw, trimmed, refs_to, is_references, flaw_among, refs_flaw}
use Rattle.book_kinds.specs.Kinds.{family_number, is_kept, is_fixed, of_kind, kind_flaw, cell_of_kind}
use Rattle.rules.specs.Sorts.{code_sort, sort_of, is_silent}
use Rattle.rules.specs.Breaks.{Break, break_with, break_at, each, at_cell, at_line, in_lines, at_end}
use Rattle.rules.specs.Rules.{same_key, named_in, is_undeclared, lacks_column, nearest_in, flaw_at, rules, is_present, is_asked, has_key, is_unmet, end_rules, breaks_by, breaks}
use Rattle.rules.specs.Edited.{kept, renewed}
use Rattle.rules.specs.Mended.{NULL, changes_by, mended_cells, mended_lines, copy_by, copy_of}

-- the paper's example, and its breaks
abbrev yeast : Bytes
yeast = bytes "MTD\tmzTab-version\t1.0.0\nMTD\tmzTab-mode\tSummary\nMTD\tmzTab-type\tIdentification\nMTD\tdescription\tYeast check\nMTD\tms_run[1]-location\tfile:///a.mzML\n\nPRH\taccession\tdescription\tdatabase\tsearch_engine\tnum_psms_ms_run[2]\nPRT\tY1\tnull\tdb\tnull\t\nPRT\tnull\tx\tdb\tnull\t4\n"

abbrev yeasts : List Break
yeasts = break_at 7 6 15 ∷ break_at 8 6 19 ∷ break_at 9 2 20 ∷ break_at 10 500 22 ∷ break_at 10 900 22 ∷ break_at 10 1000 22 ∷ []

pub example : breaks yeast ≡ yeasts
unfolding bytes same begins is_empty any all on_first split_on lines starts_lf coded cell is_field control first_from written digits number bracketed index_at are_digits unsigned unmarked dotted is_e mantissa exponent is_exponent is_unsigned is_text is_whole is_numeral is_decimal is_decimals is_window is_null quoted_after cut_outside is_space has_fields is_parameter is_parameters pieces_from entry_of fits first_of keys is_colunit protein_columns peptide_columns psm_columns molecule_columns protein_required peptide_required psm_required molecule_required mz_tab demands book_of is_section section_of coded_from key_of is_opt opt_of column_of declares ref_in ref_to ref_flaw trimmed refs_to is_references flaw_among refs_flaw family_number is_kept is_fixed named_in of_kind kind_flaw cell_of_kind code_sort sort_of is_silent each at_cell at_line in_lines at_end same_key is_undeclared lacks_column nearest_in flaw_at rules has_form has_key asks mode_of type_of earliest is_present is_asked up_from wants_of wants_in is_unmet last_cell end_rules breaks_by breaks
example = refl

-- the same breaks, one by one
unfoldable pub same_breaks : List Break → List Break → Bool
same_breaks [] [] = true
same_breaks [] (d ∷ ds) = false
same_breaks (b ∷ bs) [] = false
same_breaks (b ∷ bs) (d ∷ ds) = eqb b.line d.line && (eqb b.cell d.cell && (eqb b.rule d.rule && (eqb b.first d.first && same_breaks bs ds)))

-- a file has just these breaks
abbrev has_breaks : List Break → Bytes → Bool
has_breaks bs file = same_breaks (breaks file) bs

-- five breaks of rule 21 at a line
abbrev all_absent : ℕ → List Break
all_absent n = break_at n 1 21 ∷ break_at n 2 21 ∷ break_at n 3 21 ∷ break_at n 4 21 ∷ break_at n 5 21 ∷ []

-- a Complete Quantification file with assay 2 and a peptide header: what rules 16 and 22 of request 2026-01 ask of it
abbrev quantified : Bytes
quantified = bytes "MTD\tmzTab-mode\tComplete\nMTD\tmzTab-type\tQuantification\nMTD\tassay[2]-quantification_reagent\t[,,x,]\nPEH\tsequence\taccession\tcharge\tmass_to_charge\n"

abbrev unmet : List Break
unmet =
    break_at 4 1 16 ∷ break_at 5 1 21 ∷ break_at 5 4 21 ∷ break_at 5 5 21 ∷ break_at 5 102 22 ∷ break_at 5 400 22 ∷ break_at 5 600 22 ∷ break_at 5 900 22 ∷ break_at 5 1000 22
    ∷ break_at 5 1100 22 ∷ break_at 5 1300 22 ∷ []

-- keys, values and a column name that are known but for their indices, of request 2026-05, beside a key that is not; the cell under that column is text
abbrev misnumbered : Bytes
misnumbered = bytes "MTD\tsample[01]-description\tx\nMTD\tsample[65]-description\tx\nMTD\tassay[0]-ms_run_ref\tx\nMTD\tsoftware[65]-setting[01]\tx\nMTD\tsoftware[01]-setting[65]\tx\nMTD\tassay[1]-ms_run_ref\tms_run[077]\nMTD\tsample[0]-nothing\tx\nMTD\tstudy_variable[1]-assay_refs\tassay[2], assay[65],assay[0]\nPRH\taccession\tdescription\tdatabase\tsearch_engine\tnum_psms_ms_run[065]\nPRT\tY1\tx\tdb\tnull\tmany\n"

abbrev misnumbers : List Break
misnumbers =
    break_at 1 2 23 ∷ break_at 2 2 24 ∷ break_at 3 2 23 ∷ break_at 4 2 24 ∷ break_at 5 2 23 ∷ break_at 6 3 23 ∷ break_at 7 2 5 ∷ break_at 8 3 24 ∷ break_at 9 6 23 ∷ []

-- a key, a header and a name that come again, of request 2026-08: the line of two cells and the key of another index are none of them, and the first stands
-- above the nearest
abbrev repeated : Bytes
repeated = bytes "MTD\ttitle\nMTD\ttitle\ta\nMTD\tcontact[1]-name\ta\nMTD\ttitle\tb\nMTD\tcontact[2]-name\ta\nMTD\ttitle\tc\nPRH\topt_a\topt_b\topt_b\topt_a\topt_b\nPEH\topt_a\nPRH\topt_a\nPRH\topt_a\n"

abbrev repeats : List Break
repeats =
    break_at 1 1 3 ∷ break_with 4 2 6 2 ∷ break_with 6 2 6 2 ∷ break_at 7 1 16 ∷ break_with 7 4 13 3 ∷ break_with 7 5 13 2 ∷ break_with 7 6 13 3 ∷ break_at 8 1 16
    ∷ break_with 9 1 9 7 ∷ break_at 9 1 10 ∷ break_at 9 1 16 ∷ break_with 10 1 9 7 ∷ break_at 10 1 10 ∷ break_at 10 1 16 ∷ []

-- the paper's example with a text in place of the empty cell, of request 2026-14: its breaks are the old ones with those of line 8 anew
abbrev edited : Bytes
edited = edited_file 8 6 (bytes "many") yeast

-- and with `null` in it, of request 2026-02: the copy is the file with that one cell edited, and has the old breaks without that one
abbrev is_mended_at : ℕ → ℕ → Bytes → Bool
is_mended_at n c file = same (copy_of file) (edited_file n c NULL file)

unfoldable pub files : List Case
files =
    is_a (has_breaks (all_absent 1)) (bytes "")
    ∷ is_a (has_breaks (all_absent 2)) (bytes "COM")
    ∷ is_a (has_breaks unmet) quantified
    ∷ is_a (has_breaks (misnumbers ++ all_absent 11)) misnumbered
    ∷ is_a (has_breaks (repeats ++ all_absent 11)) repeated
    ∷ is_a (has_breaks (renewed 8 (break_at 8 6 20 ∷ []) yeasts)) edited
    ∷ is_a (is_mended_at 8 6) yeast
    ∷ is_a (has_breaks (renewed 8 [] yeasts)) (copy_of yeast)
    ∷ []

pub all_hold : all agrees (cases ++ files) ≡ true
unfolding cases files same_breaks kept NULL changes_by mended_cells mended_lines copy_by line_ends joined tabbed after bytes same begins is_empty any all on_first split_on lines starts_lf coded cell is_field control first_from written digits number bracketed index_at are_digits unsigned unmarked dotted is_e mantissa exponent is_exponent is_unsigned is_text is_whole is_numeral is_decimal is_decimals is_window is_null quoted_after cut_outside is_space has_fields is_parameter is_parameters pieces_from entry_of fits first_of keys is_colunit protein_columns peptide_columns psm_columns molecule_columns protein_required peptide_required psm_required molecule_required mz_tab demands book_of is_section section_of coded_from key_of is_opt opt_of column_of declares ref_in ref_to ref_flaw trimmed refs_to is_references flaw_among refs_flaw family_number is_kept is_fixed named_in of_kind kind_flaw cell_of_kind code_sort sort_of is_silent each at_cell at_line in_lines at_end same_key is_undeclared lacks_column nearest_in flaw_at rules has_form has_key asks mode_of type_of earliest is_present is_asked up_from wants_of wants_in is_unmet last_cell end_rules breaks_by breaks
all_hold = refl
