-- Numbers in digits, and fractions of small ones.
use Rattle.delay_tables.proofs.Vocabulary.{◌≡◌, ℕ, ◌+◌, ◌-◌, ◌*◌, ◌<◌, ◌≤◌, min, ℤ, pos, negsuc, ◌*ℤ◌, ◌≤ℤ◌, nat_abs, Bool, true, false, List, length, take, get_or, refl, sym, ◌∙◌, arith, and_parts, false≢true, ints, is_ascii_digit, list_all, digits_value, IsWithin, is_between, is_small_fraction, numerator_of, denominator_of, some_factor, other_sign}
use Rattle.std.proofs.lemmas.Bool.Decides.{nat_tests}
use Rattle.std.proofs.lemmas.Int.Digits.{digits_value_more}
use Rattle.std.proofs.lemmas.List.Folds.{list_all_at}
use Rattle.std.proofs.lemmas.Str.{digit_value_digit}
use Rattle.std.specs.Int.{IsInRange}

-- what the test of a range says
between : (low high number : ℕ) → is_between low high number ≡ true → IsInRange low high number
between low high number passes = (grind (arith, nat_tests), grind (arith, nat_tests))

-- a byte among digits is one
digit_at : (digits : List ℕ) (place : ℕ) → list_all is_ascii_digit digits ≡ true
    → place < length digits → IsInRange 48 57 (get_or digits place 0)
digit_at digits place all within = at (is_ascii_digit (get_or digits place 0)) refl where
  at : (test : Bool) → is_ascii_digit (get_or digits place 0) ≡ test
      → IsInRange 48 57 (get_or digits place 0)
  at true passes = between 48 57 (get_or digits place 0) passes
  at false fails =
      let none = list_all_at is_ascii_digit digits place 0 within fails in
      absurd (false≢true (sym none ∙ all))

-- the number of one digit more, at most so large
pub capped_more : (digits : List ℕ) (place value : ℕ) → list_all is_ascii_digit digits ≡ true
    → place < length digits → value ≡ min (digits_value 10 (take place digits)) 1000001
    → min (value * 10 + (get_or digits place 0 - 48)) 1000001
    ≡ min (digits_value 10 (take (place + 1) digits)) 1000001
capped_more digits place value all within capped =
    let more = digits_value_more 10 digits place within in
    let digit = digit_value_digit (get_or digits place 0) (digit_at digits place all within) in
    omega arith

-- the numerator of a small fraction is from 1 to 1,000,000
small_numerator : (text : List ℕ) → is_small_fraction text ≡ true
    → IsInRange 1 1000000 (numerator_of text)
small_numerator text small =
    let (num, den) = and_parts (is_between 1 1000000 (numerator_of text))
    (is_between 1 1000000 (denominator_of text)) small in
    between 1 1000000 (numerator_of text) num

-- the denominator of a small fraction is from 1 to 1,000,000
pub small_denominator : (text : List ℕ) → is_small_fraction text ≡ true
    → IsInRange 1 1000000 (denominator_of text)
small_denominator text small =
    let (num, den) = and_parts (is_between 1 1000000 (numerator_of text))
    (is_between 1 1000000 (denominator_of text)) small in
    between 1 1000000 (denominator_of text) den

-- a fraction that has the value of a small one, and no larger numerator, has a small numerator
pub numerator_within : (text : List ℕ) (num den : ℤ) → is_small_fraction text ≡ true
    → pos 1 ≤ℤ den → num *ℤ pos (denominator_of text) ≡ pos (numerator_of text) *ℤ den
    → nat_abs num ≤ numerator_of text → IsWithin 1 1000000 num
numerator_within text (pos n) (pos d) small some same less =
    let range = small_numerator text small in
    let range' = small_denominator text small in
    let some_num = some_factor (numerator_of text) (denominator_of text) n d (omega arith)
    (omega (arith, ints)) (omega (arith, ints)) in
    record { above = omega (arith, ints); below = omega (arith, ints) }
numerator_within text (negsuc n) (pos d) small some same less =
    let range = small_denominator text small in
    absurd (other_sign (numerator_of text) d n (denominator_of text) (omega arith) (sym same))
numerator_within text num (negsuc d) small some same less = absurd (omega (arith, ints))

-- a fraction with a denominator no larger than that of a small one has a small denominator
pub denominator_within : (text : List ℕ) (den : ℤ) → is_small_fraction text ≡ true
    → pos 1 ≤ℤ den → den ≤ℤ pos (denominator_of text) → IsWithin 1 1000000 den
denominator_within text den small some less =
    let range = small_denominator text small in
    record { above = some; below = omega (arith, ints) }
