-- The paper's cases of the kinds, with four of request 2026-04, as one statement over one list, to which a floor above appends its own; and values by the letters of their kinds. Assumes nothing.
use Rattle.std.specs.Prelude.{◌≡◌, refl, Bool, true, false, List, [], ◌∷◌}
use Rattle.std.specs.Bool.{beq}
use Rattle.text_bytes.specs.Bytes.{Bytes, bytes, same, begins, is_empty, all, on_first, split_on, is_space}
use Rattle.value_references.specs.Index.{digits, number, bracketed, index_at}
use Rattle.values.specs.Values.{are_digits, unsigned, unmarked, dotted, is_e, mantissa, exponent, is_exponent, is_unsigned, is_numeral, is_text, is_whole, is_decimal, is_decimals, is_window, is_null}
use Rattle.value_parameters.specs.Parameters.{quoted_after, cut_outside, has_fields, is_parameter}
use Rattle.value_references.specs.References.{family, ref_in, ref_to, is_index}
use Rattle.book_kinds.specs.Kinds.{family_number, is_kept, is_fixed, of_kind, cell_of_kind}

-- a test, the bytes that it is put to, and the answer
pub record Case : Type 0 where
  pub test : Bytes → Bool
  pub on : Bytes
  pub answer : Bool

abbrev pub is_a : (Bytes → Bool) → Bytes → Case
is_a t b = record { test = t; on = b; answer = true }

abbrev pub is_not : (Bytes → Bool) → Bytes → Case
is_not t b = record { test = t; on = b; answer = false }

abbrev pub agrees : Case → Bool
agrees c = beq (c.test c.on) c.answer

-- whether a text is an id of the assays
abbrev is_assay : Bytes → Bool
is_assay b = is_index (ref_to (family 1) b)

unfoldable pub cases : List Case
cases =
    is_a is_assay (bytes "assay[64]")
    ∷ is_not is_assay (bytes "assay[65]")
    ∷ is_not is_assay (bytes "assay[01]")
    ∷ is_not is_assay (bytes "assay[0]")
    ∷ is_a is_parameter (bytes "[MOD, MOD:00648, \"N,O-diacetylated L-serine\",]")
    ∷ is_not is_parameter (bytes "[MOD, MOD:00648, N,O-diacetylated L-serine,]")
    ∷ is_a is_parameter (bytes "[,,A user parameter, The value]")
    ∷ is_not is_parameter (bytes "[,,,]")
    ∷ is_a is_decimal (bytes "-0.0")
    ∷ is_not is_decimal (bytes ".5")
    ∷ is_not is_decimal (bytes "5.")
    ∷ is_not is_decimal (bytes "1,000")
    ∷ is_a is_decimal (bytes "1.2E-5")
    ∷ is_a is_decimal (bytes "1e5")
    ∷ is_not is_decimal (bytes "1E")
    ∷ is_not is_decimal (bytes "INFE1")
    ∷ is_a is_window (bytes "1123.2|1145.3")
    ∷ is_not is_window (bytes "10.2")
    ∷ is_a is_whole (bytes "123456789")
    ∷ is_not is_whole (bytes "1234567890")
    ∷ []

pub all_hold : all agrees cases ≡ true
unfolding cases all bytes same begins is_empty on_first split_on digits number bracketed index_at are_digits unsigned unmarked dotted is_e mantissa exponent is_exponent is_unsigned is_numeral is_whole is_decimal is_decimals is_window quoted_after cut_outside is_space has_fields is_parameter ref_to ref_in
all_hold = refl

-- values: a reference to a sample, a version, and `null`, which stands for missing save in a column that is never null
values_kind : (of_kind 114 83 (bytes "sample[3]") ≡ true) × (of_kind 114 83 (bytes "assay[3]") ≡ false) × (of_kind 118 45 (bytes "1.0.0") ≡ true) × (of_kind 118 45 (bytes "1.1") ≡ false)
    × (cell_of_kind 87 (bytes "null") ≡ true) × (cell_of_kind 75 (bytes "null") ≡ false) × (cell_of_kind 82 (bytes "4") ≡ false)
unfolding of_kind cell_of_kind family_number is_kept is_fixed ref_to ref_in same begins bytes index_at bracketed digits number is_null is_text is_empty
values_kind = (refl, refl, refl, refl, refl, refl, refl)
