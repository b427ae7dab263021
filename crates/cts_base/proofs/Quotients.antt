-- Signed numbers divided by their greatest common divisor.
use Rattle.cts_base.proofs.Vocabulary.{◌≡◌, ℕ, zero, suc, ◌*◌, ◌/◌, ◌<◌, ◌≤◌, ℤ, pos, negsuc, neg_ℤ, ◌*ℤ◌, ◌≤ℤ◌, nat_abs, to_z, of_z, FitsSigned, refl, sym, ap, ◌∙◌, arith, mul-div_cancel', div-le_self, one-dvd, w128, ints, quot_fits, quot_is, IsGcd, int_div, IsLowest}
use Rattle.cts_base.proofs.Divisors.{coprime, some_divisor}

-- what the code divides is divided over the whole numbers
pub quotient_is : (number divisor : ℤ) → FitsSigned w128 number → FitsSigned w128 divisor
    → pos 1 ≤ℤ divisor
    → to_z w128 (of_z w128 (int_div (to_z w128 (of_z w128 number)) (to_z w128 (of_z w128 divisor))))
    ≡ int_div number divisor
quotient_is number divisor fits fits_divisor some =
    quot_is w128 number divisor fits fits_divisor
    (quot_fits w128 number divisor fits (omega (arith, ints)))

-- the size of a quotient is the quotient of the size
size-int_div : (num : ℤ) (divisor : ℕ) → nat_abs (int_div num (pos divisor)) ≡ nat_abs num / divisor
size-int_div (pos n) divisor = refl
size-int_div (negsuc n) divisor = at (suc n / divisor) where
  at : (size : ℕ) → nat_abs (neg_ℤ (pos size)) ≡ size
  at zero = refl
  at (suc size) = refl

-- no quotient is larger than its dividend
pub int_div-le : (num divisor : ℤ) → pos 1 ≤ℤ divisor → nat_abs (int_div num divisor) ≤ nat_abs num
int_div-le num (pos divisor) some =
    let size = size-int_div num divisor in omega (arith, div-le_self (nat_abs num) divisor)
int_div-le num (negsuc divisor) some = absurd (omega (arith, ints))

-- what is left of two numbers by their greatest common divisor is in lowest terms
pub lowest_quotients : (num den divisor : ℤ) → pos 1 ≤ℤ den → pos 1 ≤ℤ divisor
    → IsGcd (nat_abs num) (nat_abs den) (nat_abs divisor)
    → IsLowest (int_div num divisor) (int_div den divisor)
lowest_quotients num (pos d) (pos divisor) some positive greatest =
    let back = mul-div_cancel' divisor greatest.1 in
    let some_d : 0 < d = omega (arith, ints) in
    let quotient = some_divisor (d / divisor) divisor d (omega (arith, back)) some_d in
    record {
      some_den = omega (arith, ints);
      coprime = rw (size-int_div num divisor)
          (coprime (nat_abs num) d divisor (omega (arith, ints)) greatest);
    }
lowest_quotients num (negsuc d) divisor some positive greatest = absurd (omega (arith, ints))
lowest_quotients num den (negsuc d) some positive greatest = absurd (omega (arith, ints))

-- a whole number over 1 is in lowest terms
pub whole_lowest : (num : ℤ) → IsLowest num (pos 1)
whole_lowest num = record {
  some_den = omega (arith, ints);
  coprime = (one-dvd (nat_abs num), one-dvd 1, λ divisor above below. below);
}

-- numbers divided by a common divisor have the products of the numbers crosswise
cross : (divisor num den a b : ℕ) → divisor * num ≡ a → divisor * den ≡ b → num * b ≡ a * den
cross divisor num den a b prefix back = rw (← prefix, ← back) (omega arith)

-- the product of a number of 0 or less and one of 0 or more
pub negative : (a b : ℕ) → neg_ℤ (pos a) *ℤ pos b ≡ neg_ℤ (pos (a * b))
negative zero b = omega (arith, ints)
negative (suc a) b = refl

-- the quotients by the greatest common divisor have the value of the two numbers
pub same_value : (num den divisor : ℤ) → pos 1 ≤ℤ den → pos 1 ≤ℤ divisor
    → IsGcd (nat_abs num) (nat_abs den) (nat_abs divisor)
    → int_div num divisor *ℤ den ≡ num *ℤ int_div den divisor
same_value (pos n) (pos d) (pos divisor) some positive greatest =
    ap pos (cross divisor (n / divisor) (d / divisor) n d (mul-div_cancel' divisor greatest.0)
    (mul-div_cancel' divisor greatest.1))
same_value (negsuc n) (pos d) (pos divisor) some positive greatest =
    let same = cross divisor (suc n / divisor) (d / divisor) (suc n) d
    (mul-div_cancel' divisor greatest.0) (mul-div_cancel' divisor greatest.1) in
    negative (suc n / divisor) d ∙ ap (λ size. neg_ℤ (pos size)) same
    ∙ sym (negative (suc n) (d / divisor))
same_value num (negsuc d) divisor some positive greatest = absurd (omega (arith, ints))
same_value num den (negsuc d) some positive greatest = absurd (omega (arith, ints))
