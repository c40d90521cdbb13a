-- The reading of a cell: missing, whole, decimal, infinite, not a number, long decimal, or text. Paper 01, 'Calls and what they give back'; of a decimal paper 02, 2026-04. Assumes nothing.
use Rattle.std.specs.Prelude.{ℕ, suc, ◌^◌, Bool, false, cond, ◌&&◌, [], ◌∷◌, ◌++◌, eqb, leb, ℤ, pos, negsuc, neg_ℤ, nat_abs, ◌-ℤ◌, Float, length, get_or}
use Rattle.std.specs.Float.{fin, binary64}
use Rattle.std.specs.Float.Ieee.{div, mul, neg, of_int, of_bits}
use Rattle.text_bytes.specs.Bytes.{Bytes, is}
use Rattle.value_references.specs.Index.{number}
use Rattle.values.specs.Values.{MINUS, unsigned, unmarked, exponent, before_dot, after_dot, is_null, is_whole, is_numeral}
use Rattle.value_readings.specs.declared.Value.{Value}
use Rattle.value_readings.specs.declared.Value.TheVariants.{Missing, Whole, Decimal, Infinite, NotANumber, LongDecimal, Text}

-- whether a minus stands in front
unfoldable pub has_minus : Bytes → Bool
has_minus b = eqb (get_or b 0 0) MINUS

-- a number with its sign
abbrev pub signed : Bool → ℕ → ℤ
signed minus n = cond minus (neg_ℤ (pos n)) (pos n)

-- the number that an exponent writes; 0 where there is none
unfoldable pub exponent_of : Bytes → ℤ
exponent_of [] = pos 0
exponent_of (b ∷ bs) = signed (has_minus bs) (number 0 (unmarked bs))

-- the power of ten of a numeral with the digits c after its dot and the exponent x: the exponent less the places
abbrev pub scale_of : Bytes → ℤ → ℤ
scale_of c x = x -ℤ pos (length c)

-- ten to the k, exactly: five to the k times two to the k, with no rounding in it
abbrev pub ten : ℕ → Float
ten k = fin false (5 ^ k) (pos k)

-- the numerals multiplied once by a power of ten, or divided once, both held exactly and unsigned
abbrev pub times : ℕ → ℤ → Float
times numerals (pos k) = mul binary64 (of_int binary64 (pos numerals)) (ten k)
times numerals (negsuc k) = div binary64 (of_int binary64 (pos numerals)) (ten (suc k))

-- negated last for a minus
abbrev pub double : Bool → ℕ → ℤ → Float
double minus numerals power = cond minus (neg (times numerals power)) (times numerals power)

-- a decimal by its digits before the dot and after it, and its exponent
unfoldable pub decimal_of : Bool → Bytes → Bytes → ℤ → Value
decimal_of minus a c x = Decimal (signed minus (number 0 (a ++ c))) (scale_of c x) (double minus (number 0 (a ++ c)) (scale_of c x))

-- at most 15 digits in all, and a power from -22 to 22
unfoldable pub is_short : Bytes → Bytes → ℤ → Bool
is_short a c x = leb (length (a ++ c)) 15 && leb (nat_abs (scale_of c x)) 22

-- what a cell says, tried in the paper's order
unfoldable pub value_of : Bytes → Value
value_of b =
    let u = unsigned b in
    let x = exponent_of (exponent u) in
    cond (is_null b) Missing
    (cond (is_whole b) (Whole (signed (has_minus b) (number 0 u)))
    (cond (is_numeral b && is_short (before_dot u) (after_dot u) x) (decimal_of (has_minus b) (before_dot u) (after_dot u) x)
    (cond (is b "INF") Infinite
    (cond (is b "NaN") NotANumber
    (cond (is_numeral b) LongDecimal
    Text)))))

-- a numeral without its minus: a decimal, or a long one
abbrev pub numeral_of : Bool → Bytes → Value
numeral_of minus u =
    let x = exponent_of (exponent u) in
    cond (is_short (before_dot u) (after_dot u) x) (decimal_of minus (before_dot u) (after_dot u) x) LongDecimal

-- WHAT EACH CASE IS TO A HOST: its number, and the values that it carries; what a case does not carry is 0

abbrev pub number_of : Value → ℕ
number_of Missing = 0
number_of (Whole n) = 1
number_of (Decimal n p d) = 2
number_of Infinite = 3
number_of NotANumber = 4
number_of LongDecimal = 5
number_of Text = 6

-- the value of a whole, the signed numerals of a decimal
abbrev pub whole_of : Value → ℤ
whole_of Missing = pos 0
whole_of (Whole n) = n
whole_of (Decimal n p d) = n
whole_of Infinite = pos 0
whole_of NotANumber = pos 0
whole_of LongDecimal = pos 0
whole_of Text = pos 0

-- the power of ten of a decimal
abbrev pub power_of : Value → ℤ
power_of Missing = pos 0
power_of (Whole n) = pos 0
power_of (Decimal n p d) = p
power_of Infinite = pos 0
power_of NotANumber = pos 0
power_of LongDecimal = pos 0
power_of Text = pos 0

-- the double of a decimal
abbrev pub double_of : Value → Float
double_of Missing = of_bits binary64 0
double_of (Whole n) = of_bits binary64 0
double_of (Decimal n p d) = d
double_of Infinite = of_bits binary64 0
double_of NotANumber = of_bits binary64 0
double_of LongDecimal = of_bits binary64 0
double_of Text = of_bits binary64 0
