-- The greatest number up to a bound that divides two numbers, and what is left of them by it.
use Rattle.cts_base.proofs.Vocabulary.{◌≡◌, ℕ, zero, suc, ◌%◌, ◌*◌, ◌/◌, ◌==◌, ◌&&◌, ◌<◌, ◌≤◌, ℤ, pos, negsuc, neg_ℤ, ◌*ℤ◌, ◌≤ℤ◌, nat_abs, Bool, true, false, cond, refl, sym, ap, ap₂, ◌∙◌, subst, true≢false, arith, mod-lt, mul-div_cancel, Decides-eqb, ints, IsGcd-from_zero, IsGcd-from_mod, dvd_of_mod-eq-zero, mod-eq-zero_of_dvd, le_of_dvd, ◌∣◌, IsGcd, int_div, Fraction, divisor_up_to, fraction_text, quotient_text}
use Rattle.cts_base.proofs.Divisors.{some_gcd}
use Rattle.cts_base.proofs.OneFraction.{one_fraction, other_sign}
use Rattle.cts_base.proofs.Quotients.{int_div-le, lowest_quotients, negative, same_value}

-- the number divides both
abbrev divides_both : (divisor a b : ℕ) → Bool
divides_both divisor a b = (a % divisor == 0) && (b % divisor == 0)

-- what passes the test divides both
passes : (divisor a b : ℕ) → divides_both divisor a b ≡ true → (divisor ∣ a) × (divisor ∣ b)
passes divisor a b pass = at (a % divisor == 0) refl (b % divisor == 0) refl pass
  where
    at : (prefix : Bool) → (a % divisor == 0) ≡ prefix → (back : Bool) → (b % divisor == 0) ≡ back
        → (prefix && back) ≡ true → (divisor ∣ a) × (divisor ∣ b)
    at true is true is' pass = (
      dvd_of_mod-eq-zero divisor ((Decides-eqb (a % divisor) 0).0 is),
      dvd_of_mod-eq-zero divisor ((Decides-eqb (b % divisor) 0).0 is'),
    )
    at true is false is' pass = absurd (true≢false (sym pass))
    at false is back is' pass = absurd (true≢false (sym pass))

-- and what divides both passes it
passed : (divisor a b : ℕ) → divisor ∣ a → divisor ∣ b → divides_both divisor a b ≡ true
passed divisor a b prefix back =
    ap₂ (λ x y. x && y) ((Decides-eqb (a % divisor) 0).1 (mod-eq-zero_of_dvd divisor prefix))
    ((Decides-eqb (b % divisor) 0).1 (mod-eq-zero_of_dvd divisor back))

-- the greatest number up to a bound that divides both is their greatest common divisor
divisor_up_to_gcd : (bound a b divisor : ℕ) → 0 < divisor → divisor ≤ bound → IsGcd a b divisor
    → divisor_up_to bound a b ≡ divisor
divisor_up_to_gcd zero a b divisor some within greatest = absurd (omega arith)
divisor_up_to_gcd (suc bound) a b divisor some within greatest =
    at (divides_both (suc bound) a b) refl (divisor_up_to_gcd bound a b divisor some)
  where
    at : (pass : Bool) → divides_both (suc bound) a b ≡ pass
        → (divisor ≤ bound → IsGcd a b divisor → divisor_up_to bound a b ≡ divisor)
        → cond pass (suc bound) (divisor_up_to bound a b) ≡ divisor
    at true is more =
        let both = passes (suc bound) a b is in
        let low = le_of_dvd some (greatest.2 (suc bound) both.0 both.1) in
        omega arith
    at false is more =
        let other : divisor ≡ suc bound → ⊥ = λ same.
        true≢false (sym (passed (suc bound) a b (subst (λ d. d ∣ a) same greatest.0)
        (subst (λ d. d ∣ b) same greatest.1)) ∙ is) in
        more (omega arith) greatest

-- two numbers have a greatest common divisor
gcd_of : (most a b : ℕ) → b ≤ most → (divisor : ℕ) × IsGcd a b divisor
gcd_of most a zero within = (a, IsGcd-from_zero a zero refl)
gcd_of zero a (suc b) within = absurd (omega arith)
gcd_of (suc most) a (suc b) within =
    let less : a % suc b < suc b = mod-lt a (omega arith) in
    let rest = gcd_of most (suc b) (a % suc b) (omega (arith, less)) in
    (rest.0, IsGcd-from_mod a (suc b) rest.0 rest.1)

-- and it is the greatest number up to the second that divides both
pub up_to_second : (a b : ℕ) → 0 < b
    → (0 < divisor_up_to b a b) × IsGcd a b (divisor_up_to b a b)
up_to_second a b some =
    let (divisor, greatest) = gcd_of b a b (omega arith) in
    let some_divisor = some_gcd a b divisor some greatest in
    let same = divisor_up_to_gcd b a b divisor some_divisor (le_of_dvd some greatest.1) greatest in
    rw same (some_divisor, greatest)

-- equal multiples of natural numbers
same_natural : (a b d : ℕ) → 0 < d → a * d ≡ b * d → a ≡ b
same_natural a b d some same =
    sym (mul-div_cancel a some) ∙ ap (λ n. n / d) same ∙ mul-div_cancel b some

-- equal multiples are multiples of equal numbers
pub same_factor : (a b : ℤ) (d : ℕ) → 0 < d → a *ℤ pos d ≡ b *ℤ pos d → a ≡ b
same_factor a b zero some same = absurd (omega arith)
same_factor (pos a) (pos b) (suc d) some same =
    ap pos (same_natural a b (suc d) some (omega (arith, ints)))
same_factor (pos a) (negsuc b) (suc d) some same = absurd (other_sign a (suc d) b (suc d) some same)
same_factor (negsuc a) (pos b) (suc d) some same =
    absurd (other_sign b (suc d) a (suc d) some (sym same))
same_factor (negsuc a) (negsuc b) (suc d) some same =
    let size = same_natural (suc a) (suc b) (suc d) some (omega (arith, ints)) in
    ap negsuc (omega (arith, size))

-- factors in another order
last_first : (a : ℤ) (b c : ℕ) → (a *ℤ pos b) *ℤ pos c ≡ (a *ℤ pos c) *ℤ pos b
last_first (pos a) b c = ap pos (omega arith)
last_first (negsuc a) b c =
    negative (suc a * b) c ∙ ap (λ n. neg_ℤ (pos n)) (omega arith) ∙ sym (negative (suc a * c) b)

-- what has the value of a quotient has that of the quotient in other terms
crosswise : (num den num' den' num'' den'' : ℤ) → pos 1 ≤ℤ den → pos 1 ≤ℤ den' → pos 1 ≤ℤ den''
    → num' *ℤ den ≡ num *ℤ den' → num'' *ℤ den ≡ num *ℤ den'' → num' *ℤ den'' ≡ num'' *ℤ den'
crosswise num (pos d) num' (pos d') num'' (pos d'') some some' some'' same same' =
    same_factor (num' *ℤ pos d'') (num'' *ℤ pos d') d (omega (arith, ints))
    (last_first num' d'' d ∙ ap (λ n. n *ℤ pos d'') same
    ∙ last_first num d' d'' ∙ ap (λ n. n *ℤ pos d') (sym same')
    ∙ last_first num'' d d')
crosswise num (negsuc d) num' den' num'' den'' some some' some'' same same' =
    absurd (omega (arith, ints))
crosswise num den num' (negsuc d) num'' den'' some some' some'' same same' =
    absurd (omega (arith, ints))
crosswise num den num' den' num'' (negsuc d) some some' some'' same same' =
    absurd (omega (arith, ints))

-- a fraction is what is left of any two numbers of its value by their greatest common divisor
lowest_parts : (num den : ℤ) (fraction : Fraction) → pos 1 ≤ℤ den
    → fraction.num *ℤ den ≡ num *ℤ fraction.den → (divisor : ℤ) × (pos 1 ≤ℤ divisor)
    × (divisor ≡ pos (divisor_up_to (nat_abs den) (nat_abs num) (nat_abs den)))
    × (fraction.num ≡ int_div num divisor) × (fraction.den ≡ int_div den divisor)
lowest_parts num (negsuc den) fraction some same = absurd (omega (arith, ints))
lowest_parts num (pos den) fraction some same =
    let divisor = divisor_up_to den (nat_abs num) den in
    let (some_divisor, greatest) = up_to_second (nat_abs num) den (omega (arith, ints)) in
    let positive : pos 1 ≤ℤ pos divisor = omega (arith, ints, some_divisor) in
    let lowest = lowest_quotients num (pos den) (pos divisor) some positive greatest in
    let value = same_value num (pos den) (pos divisor) some positive greatest in
    let same' = crosswise num (pos den) fraction.num fraction.den
    (int_div num (pos divisor)) (int_div (pos den) (pos divisor)) some fraction.lowest.some_den
    lowest.some_den same value in
    let both = one_fraction fraction.num fraction.den (int_div num (pos divisor))
    (int_div (pos den) (pos divisor)) fraction.lowest lowest same' in
    (pos divisor, positive, refl, both.0, both.1)

-- a quotient is spelled as any fraction of its value
pub quotient_text_is : (num den : ℤ) (fraction : Fraction) → pos 1 ≤ℤ den
    → fraction.num *ℤ den ≡ num *ℤ fraction.den
    → fraction_text fraction.num fraction.den ≡ quotient_text num den
unfolding quotient_text
quotient_text_is num den fraction some same =
    let (divisor, positive, is, prefix, back) = lowest_parts num den fraction some same in
    ap₂ fraction_text (prefix ∙ ap (int_div num) is) (back ∙ ap (int_div den) is)

-- and its parts are no larger than those of the quotient
pub lowest_sizes : (num den : ℤ) (fraction : Fraction) → pos 1 ≤ℤ den
    → fraction.num *ℤ den ≡ num *ℤ fraction.den
    → (nat_abs fraction.num ≤ nat_abs num) × (nat_abs fraction.den ≤ nat_abs den)
lowest_sizes num den fraction some same =
    let (divisor, positive, is, prefix, back) = lowest_parts num den fraction some same in (
      subst (λ n. nat_abs n ≤ nat_abs num) (sym prefix) (int_div-le num divisor positive),
      subst (λ n. nat_abs n ≤ nat_abs den) (sym back) (int_div-le den divisor positive),
    )
