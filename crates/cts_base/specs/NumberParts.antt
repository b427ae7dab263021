-- The parts of a number's text, as its digits are read.
use Rattle.std.specs.Prelude.{ℕ, ◌<◌, List, length}
use Rattle.std.specs.Str.Parse.{AllDigits, IsNumeral, without_leading_sign}
use Rattle.cts_base.specs.Decimals.{coefficient, exponent, fraction_digits, whole_digits}

-- the parts of a text are digits; where there is a mark, some stand after it
pub record HasDigits (text : List ℕ) : Type 0 where
  pub whole : AllDigits 10 (whole_digits text)
  pub fraction : AllDigits 10 (fraction_digits text)
  pub exponent_digits : length (coefficient text) < length (without_leading_sign text)
      → IsNumeral 10 (without_leading_sign (exponent text))
