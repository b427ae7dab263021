-- The words that the proofs of this crate have in common.
pub use Rattle.std.proofs.Common.{◌≡◌, ℕ, ◌+◌, ◌-◌, ◌≤◌, Bool, true, false, ◌↔◌, ◌==◌, cond, min, List, [], ◌∷◌, length, drop, slice_index, refl, sym, ◌∙◌, arith, zero, suc, ◌*◌, ◌/◌, ◌<◌, ap, subst, ◌^◌, ℤ, pos, negsuc, ◌*ℤ◌, ◌≤ℤ◌, nat_abs, inl, inr, Result, Ok, Err, IfOk, MatchResult, of_z, to_z, ◌%◌, ◌&&◌, neg_ℤ, ap₂, true≢false, ◌++◌, Option, Some, None, append-nil, append_assoc, take, ◌||◌, map, ◌⊎◌, lit<, not, ◌≢◌, get_or, decimal, IsTrue, drop-cons, IfSome, IsNone, FitsSigned, add-one, lit≤, rules}
pub use Rattle.std.proofs.Math.Nat.{one-dvd, dvd-mul_right, mul-div_cancel', mul-div_cancel_left, mod-lt, mul-div_cancel, one-le-pow, pow-le-pow_right, mul-le-mul_left, mul-le-mul_right, mul_assoc, mul_comm, pow-suc, add-mul, zero-mul, eq_of_mul-eq-mul_right, dvd-sub_iff_left, div-le_self, mod-add-div', mul-mod_left}
pub use Rattle.std.proofs.Math.Seq.{take-length, take-append-add, drop-append-add, drop-length}
pub use Rattle.std.proofs.lemmas.Bool.{and_from, and_parts, cases_lt, ltb-false, eq-eqb, le-ltb, lt-ltb, ne_eqb}
pub use Rattle.std.proofs.lemmas.Bool.Decides.{nat_tests, Decides-eqb, Decides-int_eq}
pub use Rattle.std.proofs.lemmas.Fmt.{decimal_is_IsNumeral_wide, decimal_by_steps_wide, decimal_digit, decimal_step_wide}
pub use Rattle.std.proofs.lemmas.Int.{ints, quot_fits, quot_is, to_z-of_z, fits_signed_mul}
pub use Rattle.std.proofs.lemmas.List.{length-take, length-drop, length-append, length-map, length_push, take-append-drop, get_or_append_left, drop-drop, take_more, take-append-le, drop-append-le, length-take-le}
pub use Rattle.std.proofs.lemmas.List.Splits.{length-slice_split, slice_split_first, slice_split_none}
pub use Rattle.std.proofs.lemmas.List.Sums.{count_by-le-length, fails_before_first, prefix_len-le-length, passes_at_first}
pub use Rattle.std.proofs.lemmas.Nat.Gcd.{IsGcd-from_zero, IsGcd-from_mod, dvd_of_mod-eq-zero, mod-eq-zero_of_dvd, le_of_dvd, IsGcd-swap, same_from_IsGcd}
pub use Rattle.std.proofs.lemmas.Str.{digit_value_digit}
pub use Rattle.std.proofs.lemmas.Str.Parse.{digit_from_value, digit_at}
pub use Rattle.std.specs.Char.{is_ascii_digit, digit_value}
pub use Rattle.std.specs.Fmt.{digits_onto, digit_glyph, signed_decimal}
pub use Rattle.std.specs.Int.{IsInRange, ◌∣◌, IsGcd}
pub use Rattle.std.specs.Int.RustNames.{int_div}
pub use Rattle.std.specs.List.{list_all, position_or_len, enumerate_from, slice_split, position, list_any, AllByRecursion, filter}
pub use Rattle.std.specs.Ordering.{int_eq}
pub use Rattle.std.specs.Result.{IsErrOf, result_map_both}
pub use Rattle.std.specs.Str.Lines.{strip_carriage_return}
pub use Rattle.std.specs.Str.Parse.{AllDigits, starts_with_minus, without_leading_sign, digits_value, digits_value_after, without_leading_plus}
pub use mir.Syntax.{w128}
unfoldable pub use Rattle.cts_base.specs.Decimals.{is_fine_enough, micros_of, micros_size, size_of, digits, exponent_size, raised, lowered}
pub use Rattle.cts_base.specs.Decimals.{is_point, is_exponent_mark, coefficient, whole_digits, fraction_digits, is_zero, is_decimal, signed, exponent}
unfoldable pub use Rattle.cts_base.specs.Fractions.{quotient_text}
pub use Rattle.cts_base.specs.Fractions.{IsBelow, IsLowest, fraction_text, divisor_up_to}
pub use Rattle.cts_base.specs.LineFormats.{first_fault, first_fault_after, IsToldBy}
pub use Rattle.cts_base.specs.Lines.{lines_of, numbered_lines, is_line_feed, without_empty_last}
pub use Rattle.cts_base.specs.NumberTexts.{SpellsQuotient, kept_size, HaveSmallSizes, IsLargeQuotient, IsNoFraction, RefusesFraction, IsPlainNumeral, SpellsWhole, is_plain_numeral, is_slash}
pub use Rattle.cts_base.specs.declared.fraction.Fraction.{Fraction}
pub use Rattle.cts_base.specs.declared.number.NumberFault.{NumberFault}
pub use Rattle.cts_base.specs.declared.number.NumberFault.TheVariants.{NotNumber, TooFine, TooLarge}
pub use Rattle.cts_base.specs.Words.{is_hash, before_hash}
