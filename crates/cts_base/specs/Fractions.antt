-- Fractions in lowest terms, and how they are spelled: `3/2`, `-3/2`, and `13` where the
-- denominator is 1. Knuth, "The Art of Computer Programming", volume 2, section 4.5.1.
use Rattle.std.specs.Prelude.{ℕ, zero, suc, ◌%◌, ◌==◌, ◌&&◌, ℤ, pos, neg_ℤ, ◌≤ℤ◌, ◌<ℤ◌, List, ◌∷◌, ◌++◌, nat_abs, if◌then◌else◌, int_div}
use Rattle.std.specs.Fmt.{signed_decimal}
use Rattle.std.specs.Int.{IsGcd}
use Rattle.std.specs.Ordering.{int_eq}

-- the size of the number is below the bound
pub record IsBelow (bound : ℕ) (number : ℤ) : Type 0 where
  pub above : neg_ℤ (pos bound) <ℤ number
  pub below : number <ℤ pos bound

-- the denominator is at least 1, and no number above 1 divides both parts
pub record IsLowest (num den : ℤ) : Type 0 where
  pub some_den : pos 1 ≤ℤ den
  pub coprime : IsGcd (nat_abs num) (nat_abs den) 1

-- the bytes of a fraction: the numerator, and after a `/` the denominator unless it is 1
abbrev pub fraction_text : (num den : ℤ) → List ℕ
fraction_text num den =
    if int_eq den (pos 1) then signed_decimal num
    else signed_decimal num ++ 47 ∷ signed_decimal den

-- the greatest number up to a bound that divides both, and 1 where there is none
abbrev pub divisor_up_to : (bound a b : ℕ) → ℕ
divisor_up_to zero a b = 1
divisor_up_to (suc bound) a b =
    if (a % suc bound == 0) && (b % suc bound == 0) then suc bound else divisor_up_to bound a b

-- the bytes of a quotient whose divisor is at least 1: the fraction of its value in lowest terms
unfoldable pub quotient_text : (num den : ℤ) → List ℕ
quotient_text num den =
    fraction_text (int_div num (pos (divisor_up_to (nat_abs den) (nat_abs num) (nat_abs den))))
    (int_div den (pos (divisor_up_to (nat_abs den) (nat_abs num) (nat_abs den))))
