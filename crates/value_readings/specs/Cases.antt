-- Readings, worked: the number of the case, the whole or the numerals, the power of ten, and the bits of the double. Assumes nothing.
use Rattle.std.specs.Prelude.{◌≡◌, refl, [], ◌∷◌, map, ℕ, ℤ, pos, negsuc}
use Rattle.std.specs.Float.{binary64}
use Rattle.std.specs.Float.Ieee.{of_int, div, mul, neg, of_bits, to_bits, round, units, odd, size, span, climb}
use Rattle.text_bytes.specs.Bytes.{Bytes, bytes, same, is_empty, all, on_first, split_on}
use Rattle.value_references.specs.Index.{number}
use Rattle.values.specs.Values.{are_digits, unsigned, unmarked, dotted, is_e, mantissa, exponent, is_exponent, is_unsigned, is_numeral, is_whole, is_null}
use Rattle.value_readings.specs.Reading.{has_minus, exponent_of, decimal_of, is_short, value_of, number_of, whole_of, power_of, double_of}

abbrev told : Bytes → ℕ × ℤ × ℤ × ℕ
told b = let v = value_of b in (number_of v, whole_of v, power_of v, to_bits binary64 (double_of v))

readings : map told (bytes "null" ∷ bytes "-012" ∷ bytes "-0.0" ∷ bytes "1123.2" ∷ bytes "-123456789012.345" ∷ bytes "INF" ∷ bytes "NaN" ∷ bytes "1234567890.123456" ∷ bytes "NA" ∷ bytes "" ∷ []) ≡
    (0, pos 0, pos 0, 0)
    ∷ (1, negsuc 11, pos 0, 0)
    ∷ (2, pos 0, negsuc 0, 9223372036854775808)
    ∷ (2, pos 11232, negsuc 0, 4652654701287623885)
    ∷ (2, negsuc 123456789012344, negsuc 2, 13996271306737473618)
    ∷ (3, pos 0, pos 0, 0)
    ∷ (4, pos 0, pos 0, 0)
    ∷ (5, pos 0, pos 0, 0)
    ∷ (6, pos 0, pos 0, 0)
    ∷ (6, pos 0, pos 0, 0)
    ∷ []
unfolding value_of exponent_of has_minus decimal_of is_short bytes same is_null is_empty all on_first split_on number are_digits unsigned unmarked dotted is_e mantissa exponent is_exponent is_unsigned is_numeral is_whole of_int div mul neg to_bits round units odd size span climb of_bits
readings = refl

-- with an exponent; a power past 22 either way makes a long decimal
exponents : map told (bytes "1.2E-5" ∷ bytes "3e2" ∷ bytes "1E+22" ∷ bytes "999999999999999E22" ∷ bytes "1.23456789012345E-8" ∷ bytes "-12e-6" ∷ bytes "-0E5" ∷ bytes "1.5E003" ∷ bytes "1E23" ∷ bytes "1.0E-22" ∷ bytes "1E-22" ∷ bytes "9007199254740993E0" ∷ bytes "0e-22" ∷ bytes "12.50" ∷ []) ≡
    (2, pos 12, negsuc 5, 4533201175231652948)
    ∷ (2, pos 3, pos 2, 4643985272004935680)
    ∷ (2, pos 1, pos 22, 4936209963552724370)
    ∷ (2, pos 999999999999999, pos 22, 5160588303184390419)
    ∷ (2, pos 123456789012345, negsuc 21, 4488544134225830496)
    ∷ (2, negsuc 11, negsuc 5, 13756573212086428756)
    ∷ (2, pos 0, pos 5, 9223372036854775808)
    ∷ (2, pos 15, pos 2, 4654311885213007872)
    ∷ (5, pos 0, pos 0, 0)
    ∷ (5, pos 0, pos 0, 0)
    ∷ (2, pos 1, negsuc 21, 4277919505920253670)
    ∷ (5, pos 0, pos 0, 0)
    ∷ (2, pos 0, negsuc 21, 0)
    ∷ (2, pos 1250, negsuc 1, 4623226492472524800)
    ∷ []
unfolding value_of exponent_of has_minus decimal_of is_short bytes same is_null is_empty all on_first split_on number are_digits unsigned unmarked dotted is_e mantissa exponent is_exponent is_unsigned is_numeral is_whole of_int div mul neg to_bits round units odd size span climb of_bits
exponents = refl

-- what looks like an exponent and is none
none : map (λ (b : Bytes). number_of (value_of b)) (bytes "1E" ∷ bytes "1E+" ∷ bytes "1E1234" ∷ bytes "E5" ∷ bytes ".5E1" ∷ bytes "5.E1" ∷ bytes "1E5.0" ∷ bytes "1E--5" ∷ bytes "+1E5" ∷ bytes "1E5E5" ∷ bytes "INFE5" ∷ bytes "NaNe1" ∷ bytes "1 E5" ∷ []) ≡
    6 ∷ 6 ∷ 6 ∷ 6 ∷ 6 ∷ 6 ∷ 6 ∷ 6 ∷ 6 ∷ 6 ∷ 6 ∷ 6 ∷ 6 ∷ []
unfolding value_of exponent_of has_minus decimal_of is_short bytes same is_null is_empty all on_first split_on number are_digits unsigned unmarked dotted is_e mantissa exponent is_exponent is_unsigned is_numeral is_whole
none = refl
