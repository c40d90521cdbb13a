-- The kinds of value that are one word: text, whole, decimal, decimal list, window, null. Paper 01, 'The kinds of value'; of a decimal with an exponent paper 02, 2026-04. Assumes nothing.
use Rattle.std.specs.Prelude.{ℕ, ◌≤◌, ◌≡◌, Bool, true, false, cond, ◌&&◌, ◌||◌, not, List, [], ◌∷◌, length, get_or, take, drop, eqb, leb}
use Rattle.text_bytes.specs.Bytes.{Bytes, BAR, is, is_empty, all, split_on}
use Rattle.text_bytes.specs.Places.{part}
use Rattle.value_references.specs.Index.{is_digit}
use Rattle.values.specs.declared.Cuts.{Cuts}

abbrev pub MINUS : ℕ
MINUS = 45

abbrev pub PLUS : ℕ
PLUS = 43

abbrev pub DOT : ℕ
DOT = 46

-- one digit or more
unfoldable pub are_digits : Bytes → Bool
are_digits b = not (is_empty b) && all is_digit b

-- what stands after an optional minus
unfoldable pub unsigned : Bytes → Bytes
unsigned [] = []
unsigned (b ∷ bs) = cond (eqb b MINUS) bs (b ∷ bs)

-- what stands after an optional plus or minus
unfoldable pub unmarked : Bytes → Bytes
unmarked [] = []
unmarked (b ∷ bs) = cond (eqb b PLUS || eqb b MINUS) bs (b ∷ bs)

-- digits, or digits on each side of one dot: these are the pieces between dots
unfoldable pub dotted : List Bytes → Bool
dotted [] = false
dotted (a ∷ []) = are_digits a
dotted (a ∷ (c ∷ [])) = are_digits a && are_digits c
dotted (a ∷ (c ∷ (d ∷ ps))) = false

-- the letter of an exponent, `E` or `e`
unfoldable pub is_e : ℕ → Bool
is_e b = eqb b 69 || eqb b 101

-- what stands before the first such letter
unfoldable pub mantissa : Bytes → Bytes
mantissa [] = []
mantissa (b ∷ bs) = let r = b ∷ mantissa bs in cond (is_e b) [] r

-- that letter and what follows it; nothing where there is none
unfoldable pub exponent : Bytes → Bytes
exponent [] = []
exponent (b ∷ bs) = cond (is_e b) (b ∷ bs) (exponent bs)

-- nothing, or the letter, an optional plus or minus, and 1 to 3 digits
unfoldable pub is_exponent : Bytes → Bool
is_exponent [] = true
is_exponent (b ∷ bs) = is_e b && (are_digits (unmarked bs) && leb (length (unmarked bs)) 3)

-- one byte or more
unfoldable pub is_text : Bytes → Bool
is_text b = not (is_empty b)

-- an optional minus, then 1 to 9 digits
unfoldable pub is_whole : Bytes → Bool
is_whole b = are_digits (unsigned b) && leb (length (unsigned b)) 9

-- digits, and optionally a dot with digits after it, at least one digit on each side of a dot; it may end in an exponent
unfoldable pub is_unsigned : Bytes → Bool
is_unsigned u = dotted (split_on DOT (mantissa u)) && is_exponent (exponent u)

-- the same after an optional minus
unfoldable pub is_numeral : Bytes → Bool
is_numeral b = is_unsigned (unsigned b)

-- such a numeral, or `INF`, or `NaN`
unfoldable pub is_decimal : Bytes → Bool
is_decimal b = is_numeral b || is b "INF" || is b "NaN"

-- decimals separated by `|`
unfoldable pub is_decimals : Bytes → Bool
is_decimals b = all is_decimal (split_on BAR b)

-- exactly two
unfoldable pub is_window : Bytes → Bool
is_window b = is_decimals b && eqb (length (split_on BAR b)) 2

-- what stands for missing
unfoldable pub is_null : Bytes → Bool
is_null b = is b "null"

-- THE DIGITS OF A NUMERAL WITHOUT ITS MINUS: those before the dot, and those after it
abbrev pub before_dot : Bytes → Bytes
before_dot u = get_or (split_on DOT (mantissa u)) 0 []

abbrev pub after_dot : Bytes → Bytes
after_dot u = get_or (split_on DOT (mantissa u)) 1 []

-- where they stand, and whether it is a numeral: the digits before a dot end at `whole`, those after it stand from `from` to `to`, and from there on the exponent
pub record CutAt (u : Bytes) (c : Cuts) : Type 0 where
  pub good : c.good ≡ is_unsigned u
  pub first : c.whole ≤ length u
  pub starts : c.from ≤ c.to
  pub within : c.to ≤ length u
  pub before : is_unsigned u ≡ true → take c.whole u ≡ before_dot u
  pub after : is_unsigned u ≡ true → part c.from c.to u ≡ after_dot u
  pub past : is_unsigned u ≡ true → drop c.to u ≡ exponent u
