-- The test whether digits are plain.
use Rattle.cts_base.proofs.Vocabulary.{◌≡◌, ◌<◌, ◌==◌, ◌&&◌, ◌||◌, ℕ, Bool, true, false, not, List, length, slice_index, refl, arith, nat_tests, is_ascii_digit, list_all, IsPlainNumeral, is_plain_numeral, and_from, and_parts}
use Rattle.cts_base.proofs.DecimalLemmas.{digits_tested}

module _ (digits : List ℕ) where
  abbrev is_some : Bool
  is_some = not (length digits == 0)

  abbrev are_digits : Bool
  are_digits = list_all is_ascii_digit digits

  abbrev leads_plainly : Bool
  leads_plainly = not (slice_index digits 0 == 48) || (length digits == 1)

  -- digits that pass it are plain
  pub plain_from_test : is_plain_numeral digits ≡ true → IsPlainNumeral digits
  plain_from_test passed =
      let parts = and_parts (is_some && are_digits) leads_plainly passed in
      let digits_are = and_parts is_some are_digits parts.0 in
      let some = digits_are.0 in
      let lead = parts.1 in
      let some_digit : 0 < length digits = grind (arith, nat_tests) in
      ((some_digit, (digits_tested _ digits refl).0 digits_are.1), λ zero. grind (arith, nat_tests))

  -- and plain digits pass it
  pub test_from_plain : IsPlainNumeral digits → is_plain_numeral digits ≡ true
  test_from_plain plain =
      let some_digit = plain.0.0 in
      let alone = plain.1 in
      let some : is_some ≡ true = grind (arith, nat_tests) in
      let lead : leads_plainly ≡ true = grind (arith, nat_tests) in
      and_from (is_some && are_digits) leads_plainly
      (and_from is_some are_digits some ((digits_tested _ digits refl).1 plain.0.1)) lead

  -- others don't
  pub fails_unless_plain : (IsPlainNumeral digits → ⊥) → is_plain_numeral digits ≡ false
  fails_unless_plain other = at (is_plain_numeral digits) refl where
    at : (passed : Bool) → is_plain_numeral digits ≡ passed → passed ≡ false
    at true is = absurd (other (plain_from_test is))
    at false is = refl
