-- The words that the contracts of this crate have in common.
pub use Rattle.std.specs.Char.{is_ascii_digit}
pub use Rattle.std.specs.Int.{IsGcd}
pub use Rattle.std.specs.Iterator.{YieldsFirstBy, item_count, YieldsFirstRef}
pub use Rattle.std.specs.List.{enumerate_from, before_first, after_first, list_all, position, position_or_len}
pub use Rattle.std.specs.Result.{IsErrOf}
pub use Rattle.std.specs.Str.Lines.{strip_carriage_return}
pub use Rattle.std.specs.Str.Parse.{AllDigits, IsNumeral, starts_with_minus, without_leading_sign, digits_value, digits_value_after}
pub use Rattle.cts_base.specs.Decimals.{is_decimal, is_exponent_mark, is_marked, is_numeral, is_point, exponent, whole_digits, fraction_digits, is_zero, size_of}
pub use Rattle.cts_base.specs.Fractions.{IsBelow, IsLowest, fraction_text, quotient_text}
pub use Rattle.cts_base.specs.LineFormats.{first_fault, IsFaultOf}
pub use Rattle.cts_base.specs.Lines.{lines_of, is_line_feed, numbered_lines}
pub use Rattle.cts_base.specs.NumberParts.{HasDigits}
pub use Rattle.cts_base.specs.NumberTexts.{is_slash, SpellsWhole, SpellsQuotient, kept_size, HaveSmallSizes, IsNoFraction, IsLargeQuotient, RefusesFraction, IsPlainNumeral}
pub use Rattle.cts_base.specs.Words.{before_hash, words_of, is_hash, is_blank, is_not_blank}
