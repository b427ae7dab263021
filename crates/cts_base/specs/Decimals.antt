-- Decimal numbers, as the placements of the Bookshelf format have them. The format doesn't say how
-- a number is spelled; it is this project's choice to take an optional sign, digits with at most
-- one point among, before or after them, and an exponent of ten if wanted. The value is digits *
-- 10^raised / 10^lowered, with the sign.
use Rattle.std.specs.Prelude.{ℕ, ◌+◌, ◌*◌, ◌/◌, ◌%◌, ◌^◌, nat_lt, Bool, not, ◌==◌, ◌&&◌, ◌||◌, List, ◌++◌, length, ℤ, pos, neg_ℤ, Result, Ok, Err, if◌then◌else◌}
use Rattle.std.specs.Char.{is_ascii_digit}
use Rattle.std.specs.List.{before_first, after_first, list_all}
use Rattle.std.specs.Result.{result_map_both}
use Rattle.std.specs.Str.Parse.{digits_value, starts_with_minus, without_leading_sign}
use Rattle.cts_base.specs.declared.number.NumberFault.{NumberFault}
use Rattle.cts_base.specs.declared.number.NumberFault.TheVariants.{NotNumber, TooFine, TooLarge}

-- the byte `.`
abbrev pub is_point : ℕ → Bool
is_point byte = byte == 46

-- the digit `0`
abbrev pub is_zero : ℕ → Bool
is_zero byte = byte == 48

-- the byte `e` or `E`, after which the exponent stands
abbrev pub is_exponent_mark : ℕ → Bool
is_exponent_mark byte = (byte == 101) || (byte == 69)

-- what stands between the sign and the exponent's mark, and what stands after that mark
abbrev pub coefficient : List ℕ → List ℕ
coefficient text = before_first is_exponent_mark (without_leading_sign text)

abbrev pub exponent : List ℕ → List ℕ
exponent text = after_first is_exponent_mark (without_leading_sign text)

-- the digits before the point, and those after it
abbrev pub whole_digits : List ℕ → List ℕ
whole_digits text = before_first is_point (coefficient text)

abbrev pub fraction_digits : List ℕ → List ℕ
fraction_digits text = after_first is_point (coefficient text)

-- there is a mark, with or without an exponent after it
abbrev pub is_marked : List ℕ → Bool
is_marked text = nat_lt (length (coefficient text)) (length (without_leading_sign text))

-- digits, and at least one
abbrev pub is_numeral : List ℕ → Bool
is_numeral bytes = not (length bytes == 0) && list_all is_ascii_digit bytes

-- the text has the form of a decimal number
unfoldable pub is_decimal : List ℕ → Bool
is_decimal text =
    list_all is_ascii_digit (whole_digits text) && list_all is_ascii_digit (fraction_digits text)
    && not (length (whole_digits text) + length (fraction_digits text) == 0)
    && (not (is_marked text) || is_numeral (without_leading_sign (exponent text)))

-- the digits as one whole number, the point passed over
unfoldable pub digits : List ℕ → ℕ
digits text = digits_value 10 (whole_digits text ++ fraction_digits text)

-- the size of the exponent, 0 where there is none
unfoldable pub exponent_size : List ℕ → ℕ
exponent_size text = digits_value 10 (without_leading_sign (exponent text))

-- the power of ten that the value is multiplied by, and the one that it is divided by
unfoldable pub raised : List ℕ → ℕ
raised text = if starts_with_minus (exponent text) then 0 else exponent_size text

unfoldable pub lowered : List ℕ → ℕ
lowered text =
    length (fraction_digits text) + (if starts_with_minus (exponent text) then exponent_size text
    else 0)

-- the size of the value in whole millionths, and whether that is all of it
unfoldable pub micros_size : List ℕ → ℕ
micros_size text = digits text * 10 ^ raised text * 10 ^ 6 / 10 ^ lowered text

unfoldable pub is_fine_enough : List ℕ → Bool
is_fine_enough text = digits text * 10 ^ raised text * 10 ^ 6 % 10 ^ lowered text == 0

-- the size in millionths of a number, or why it is refused: it is to be at most 10^9
unfoldable pub size_of : List ℕ → Result ℕ NumberFault
size_of text =
    if not (is_fine_enough text) then Err TooFine
    else if nat_lt (10 ^ 15) (micros_size text) then Err TooLarge
    else Ok (micros_size text)

-- so many millionths with that sign
abbrev pub signed : (minus : Bool) → ℕ → ℤ
signed minus size = if minus then neg_ℤ (pos size) else pos size

-- the number of millionths that a text writes, or why it is refused
unfoldable pub micros_of : List ℕ → Result ℤ NumberFault
micros_of text =
    if is_decimal text then result_map_both (signed (starts_with_minus text)) (λ fault. fault)
    (size_of text)
    else Err NotNumber
