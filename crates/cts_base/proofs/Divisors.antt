-- Common divisors, and what is left of two numbers by their greatest one.
use Rattle.cts_base.proofs.Vocabulary.{◌≡◌, ℕ, zero, suc, ◌*◌, ◌/◌, ◌<◌, sym, ap, ◌∙◌, subst, arith, one-dvd, dvd-mul_right, mul-div_cancel', mul-div_cancel_left, ◌∣◌, IsGcd}

-- a divisor of a number above 0 is above 0
pub some_divisor : (divisor other number : ℕ) → divisor * other ≡ number → 0 < number → 0 < divisor
some_divisor zero other number product some = omega arith
some_divisor (suc divisor) other number product some = omega arith

-- the greatest common divisor with a number above 0 is above 0
pub some_gcd : (a b divisor : ℕ) → 0 < b → IsGcd a b divisor → 0 < divisor
some_gcd a b divisor some greatest =
    some_divisor divisor (b / divisor) b (mul-div_cancel' divisor greatest.1) some

-- what multiplies a number above 0 to that number is 1
one_factor : (divisor factor : ℕ) → 0 < divisor → divisor * factor ≡ divisor → factor ≡ 1
one_factor divisor factor some product =
    sym (mul-div_cancel_left factor some) ∙ (ap (λ n. n / divisor) (product ∙ omega arith)
    ∙ mul-div_cancel_left 1 some)

-- a divisor of a quotient, times the one that made it, divides
times : (divisor part number : ℕ)
    → divisor ∣ number → part ∣ (number / divisor) → (divisor * part) ∣ number
times divisor part number whole rest =
    let inner = mul-div_cancel' part rest in
    let outer = mul-div_cancel' divisor whole in
    let product : (divisor * part) * (number / divisor / part) ≡ number = grind arith in
    subst (λ n. (divisor * part) ∣ n) product
    (dvd-mul_right (divisor * part) (number / divisor / part))

-- the quotients of two numbers by their greatest common divisor have none above 1
pub coprime : (a b divisor : ℕ) → 0 < divisor → IsGcd a b divisor
    → IsGcd (a / divisor) (b / divisor) 1
coprime a b divisor some greatest = (
  one-dvd (a / divisor),
  one-dvd (b / divisor),
  λ part prefix back.
      let divides = greatest.2 (divisor * part) (times divisor part a greatest.0 prefix)
      (times divisor part b greatest.1 back) in
      let product = mul-div_cancel' (divisor * part) divides in
      let one : part * (divisor / (divisor * part)) ≡ 1 =
      one_factor divisor (part * (divisor / (divisor * part))) some (omega (arith, product)) in
      subst (λ n. part ∣ n) one (dvd-mul_right part (divisor / (divisor * part))),
)
