-- The size of the number of millionths that a text writes.
use Rattle.cts_base.proofs.Vocabulary.{◌≡◌, ◌≤◌, ◌^◌, ℕ, Bool, true, false, not, cond, List, ℤ, nat_abs, Result, Ok, Err, refl, sym, ap, ◌∙◌, arith, ltb-false, ints, result_map_both, starts_with_minus, is_decimal, is_fine_enough, micros_of, micros_size, signed, size_of, NumberFault, NotNumber, TooFine, TooLarge}
use Rattle.std.specs.Prelude.{nat_lt}

-- a sign doesn't change the size
size-signed : (minus : Bool) (size : ℕ) → nat_abs (signed minus size) ≡ size
size-signed true size = omega (arith, ints)
size-signed false size = refl

-- a number's size is within the limit
pub micros_within : (text : List ℕ) (micros : ℤ) → micros_of text ≡ Ok micros
    → nat_abs micros ≤ 10 ^ 15
unfolding micros_of size_of
micros_within text micros is =
    at (is_decimal text) (is_fine_enough text) (nat_lt (10 ^ 15) (micros_size text)) refl is
  where
    at : (decimal fine above : Bool) → nat_lt (10 ^ 15) (micros_size text) ≡ above
        → ◌≡◌ {A = Result ℤ NumberFault} (cond decimal
        (result_map_both (signed (starts_with_minus text)) (λ fault. fault) (cond (not fine)
        (Err TooFine) (cond above (Err TooLarge) (Ok (micros_size text))))) (Err NotNumber))
        (Ok micros) → nat_abs micros ≤ 10 ^ 15
    at false fine above known is = cc
    at true false above known is = cc
    at true true true known is = cc
    at true true false known is =
        let same : signed (starts_with_minus text) (micros_size text) ≡ micros = cc is in
        let size = size-signed (starts_with_minus text) (micros_size text) in
        omega (arith, sym (ap nat_abs same) ∙ size, ltb-false (10 ^ 15) (micros_size text) known)
