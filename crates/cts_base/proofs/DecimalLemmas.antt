-- Digits: what tests on them say, and the numbers that they write.
use Rattle.cts_base.proofs.Vocabulary.{◌≡◌, ℕ, ◌+◌, ◌-◌, ◌≤◌, Bool, true, false, ◌↔◌, ◌==◌, cond, min, List, [], ◌∷◌, length, drop, slice_index, refl, sym, ◌∙◌, arith, and_from, and_parts, nat_tests, length-take, length-drop, digit_value_digit, digit_from_value, is_ascii_digit, IsInRange, list_all, position_or_len, AllDigits, starts_with_minus, without_leading_sign, is_point, is_exponent_mark, coefficient, whole_digits, fraction_digits}

in_range : (c : ℕ) → is_ascii_digit c ≡ true → IsInRange 48 57 c
in_range c is = grind (arith, nat_tests)

range_in : (c : ℕ) → 48 ≤ c → c ≤ 57 → is_ascii_digit c ≡ true
range_in c low high = grind (arith, nat_tests)

-- bytes that pass the test are digits
digits_from_test : (ds : List ℕ) → list_all is_ascii_digit ds ≡ true → AllDigits 10 ds
digits_from_test [] is = tt
digits_from_test (c ∷ cs) is =
    let parts = and_parts (is_ascii_digit c) (list_all is_ascii_digit cs) is in (
      omega (arith, in_range c parts.0, digit_value_digit c (in_range c parts.0)),
      digits_from_test cs parts.1,
    )

-- and digits pass it
test_from_digits : (ds : List ℕ) → AllDigits 10 ds → list_all is_ascii_digit ds ≡ true
test_from_digits [] digits = refl
test_from_digits (c ∷ cs) digits =
    let range = digit_from_value c digits.0 in
    and_from (is_ascii_digit c) (list_all is_ascii_digit cs) (range_in c range.0 range.1)
    (test_from_digits cs digits.1)

pub digits_tested : (r : Bool) (ds : List ℕ) → r ≡ list_all is_ascii_digit ds
    → (r ≡ true) ↔ AllDigits 10 ds
digits_tested r ds is =
    (λ passed. digits_from_test ds (sym is ∙ passed), λ digits. is ∙ test_from_digits ds digits)

-- ---- the parts of a number's text

-- what follows the sign is no longer than the text
body_short : (text : List ℕ) → length (without_leading_sign text) ≤ length text
body_short text = at (starts_with_minus text) (slice_index text 0 == 43) where
  at : (minus plus : Bool)
      → length (cond minus (drop 1 text) (drop (cond plus 1 0) text)) ≤ length text
  at true plus = omega (arith, length-drop 1 text)
  at false true = omega (arith, length-drop 1 text)
  at false false = omega (arith, length-drop 0 text)

-- the digits are no more than the bytes of the text
pub digits_short : (text : List ℕ)
    → length (whole_digits text) + length (fraction_digits text) ≤ length text
digits_short text =
    let body = without_leading_sign text in
    let prefix = coefficient text in
    let point = position_or_len is_point prefix in
    let whole : length (whole_digits text) ≡ min point (length prefix) = length-take point prefix in
    let fraction : length (fraction_digits text) ≡ length prefix - (point + 1) =
    length-drop (point + 1) prefix in
    let coefficient_short : length prefix
    ≡ min (position_or_len is_exponent_mark body) (length body) =
    length-take (position_or_len is_exponent_mark body) body in
    omega (arith, whole, fraction, coefficient_short, body_short text)
