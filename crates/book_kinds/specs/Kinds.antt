-- When a value is of its kind, by the letters of its kind and its family. Assumes nothing.
use Rattle.std.specs.Prelude.{ℕ, Bool, false, cond, not, ◌&&◌, ◌||◌, eqb}
use Rattle.text_bytes.specs.Bytes.{Bytes, is}
use Rattle.values.specs.Values.{is_text, is_whole, is_decimal, is_decimals, is_window, is_null}
use Rattle.value_parameters.specs.Parameters.{is_parameter, is_parameters}
use Rattle.value_references.specs.References.{family, ref_to, ref_flaw, is_index, is_references, refs_flaw}
use Rattle.value_references.specs.declared.index.Flaw.{Flaw}
use Rattle.value_references.specs.declared.index.Flaw.TheVariants.{Form}
use Rattle.book.specs.Letters.{KEPT, WHOLE, DECIMAL, DECIMALS, WINDOW, PARAMETER, PARAMETERS, RELIABILITY, UNIQUE, VERSION, MODE, TYPE, REFERENCE, REFERENCES, SAMPLE, ASSAY, VARIABLE, RUN, NONE}

-- the number of the family that a letter stands for, 4 for none
unfoldable pub family_number : ℕ → ℕ
family_number f = cond (eqb f SAMPLE) 0 (cond (eqb f ASSAY) 1 (cond (eqb f VARIABLE) 2 (cond (eqb f RUN) 3 4)))

-- its word
abbrev pub word_of : ℕ → Bytes
word_of f = family (family_number f)

-- text that is never `null`
unfoldable pub is_kept : Bytes → Bool
is_kept b = is_text b && not (is_null b)

-- one of the fixed values of a kind
unfoldable pub is_fixed : ℕ → Bytes → Bool
is_fixed k b =
    cond (eqb k RELIABILITY) (is b "1" || is b "2" || is b "3")
    (cond (eqb k UNIQUE) (is b "0" || is b "1")
    (cond (eqb k VERSION) (is b "1.0" || is b "1.0.0")
    (cond (eqb k MODE) (is b "Summary" || is b "Complete")
    (cond (eqb k TYPE) (is b "Quantification" || is b "Identification") false))))

-- whether a value is of the kind k; f is the letter of the family that references name. A letter that stands for no kind is that of text
unfoldable pub of_kind : ℕ → ℕ → Bytes → Bool
of_kind k f b =
    cond (eqb k WHOLE) (is_whole b)
    (cond (eqb k DECIMAL) (is_decimal b)
    (cond (eqb k DECIMALS) (is_decimals b)
    (cond (eqb k WINDOW) (is_window b)
    (cond (eqb k PARAMETER) (is_parameter b)
    (cond (eqb k PARAMETERS) (is_parameters b)
    (cond (eqb k REFERENCE) (is_index (ref_to (word_of f) b))
    (cond (eqb k REFERENCES) (is_references (word_of f) b)
    (cond (eqb k KEPT) (is_kept b)
    (cond (eqb k RELIABILITY || eqb k UNIQUE || eqb k VERSION || eqb k MODE || eqb k TYPE) (is_fixed k b)
    (is_text b))))))))))

-- the flaw for which a value is not of its kind: only references have indices
unfoldable pub kind_flaw : ℕ → ℕ → Bytes → Flaw
kind_flaw k f b = cond (eqb k REFERENCE) (ref_flaw (word_of f) b) (cond (eqb k REFERENCES) (refs_flaw (word_of f) b) Form)

-- whether a table's cell is of its column's kind: `null` stands for missing, save where it may not stand
unfoldable pub cell_of_kind : ℕ → Bytes → Bool
cell_of_kind k b = cond (eqb k KEPT) (is_kept b) (is_null b || of_kind k NONE b)
