-- Numbers, fractions and quotients are determined by how they are spelled.
use Rattle.cts_base.proofs.Vocabulary.{◌≡◌, ◌≢◌, ◌<◌, ◌+◌, ◌/◌, ◌%◌, ◌^◌, ◌==◌, ℕ, suc, zero, ℤ, pos, negsuc, ◌*ℤ◌, ◌≤ℤ◌, nat_abs, Bool, true, false, cond, List, [], ◌∷◌, ◌++◌, drop, get_or, length, decimal, refl, sym, ap, ap₂, ◌∙◌, arith, digits_onto, digit_glyph, signed_decimal, int_div, AllByRecursion, int_eq, digits_value, Decides-int_eq, decimal_is_IsNumeral_wide, ints, divisor_up_to, fraction_text, quotient_text}
use Rattle.std.proofs.Common.{nat_lt}
use Rattle.std.specs.Fmt.{digits}
use Rattle.cts_base.proofs.GreatestDivisors.{same_factor, up_to_second}
use Rattle.cts_base.proofs.Quotients.{int_div-le, lowest_quotients, same_value}

-- ---- numbers

-- no byte is a slash, and none below it
abbrev pub AreDigits : List ℕ → Type 0
AreDigits bytes = AllByRecursion (λ byte. 47 < byte) bytes

-- a digit
glyph_is : (digit : ℕ) → 47 < digit_glyph false digit
glyph_is digit = at (nat_lt digit 10)
  where
    at : (small : Bool) → 47 < cond small (48 + digit) (87 + digit)
    at true = omega arith
    at false = omega arith

-- the digits of a number
digits_are : (most base number : ℕ) (suffix : List ℕ) → AreDigits suffix
    → AreDigits (digits_onto most base false number suffix)
digits_are zero base number suffix is = is
digits_are (suc most) base number suffix is =
    let digit = digit_glyph false (number % base) in
    at (number / base == 0) (glyph_is (number % base), is)
    (digits_are most base (number / base) (digit ∷ suffix) (glyph_is (number % base), is))
  where
    at : (last : Bool) → AreDigits (digit_glyph false (number % base) ∷ suffix)
        → AreDigits (digits_onto most base false (number / base)
        (digit_glyph false (number % base) ∷ suffix))
        → AreDigits (cond last (digit_glyph false (number % base) ∷ suffix)
        (digits_onto most base false (number / base) (digit_glyph false (number % base) ∷ suffix)))
    at true here more = here
    at false here more = more

-- a natural number
pub decimal_digits : (number : ℕ) → AreDigits (decimal number)
unfolding digits
decimal_digits number = digits_are 64 10 number [] tt

-- a natural number is determined by its digits
pub one_decimal : (a b : ℕ) → a < 10 ^ 64 → b < 10 ^ 64 → decimal a ≡ decimal b → a ≡ b
one_decimal a b small small' same =
    sym (decimal_is_IsNumeral_wide a small).1 ∙ ap (digits_value 10) same
    ∙ (decimal_is_IsNumeral_wide b small').1

-- digits don't begin with a minus sign
no_minus : (bytes more : List ℕ) → AreDigits bytes → bytes ≡ 45 ∷ more → ⊥
no_minus [] more are same = omega (arith, ap (λ (b : List ℕ). get_or b 0 0) same)
no_minus (byte ∷ bytes) more are same =
    omega (arith, ap (λ (b : List ℕ). get_or b 0 0) same, are.0)

-- a number is determined by its spelling
pub one_number_text : (a b : ℤ) → nat_abs a < 10 ^ 64 → nat_abs b < 10 ^ 64
    → signed_decimal a ≡ signed_decimal b → a ≡ b
one_number_text (pos a) (pos b) small small' same = ap pos (one_decimal a b small small' same)
one_number_text (pos a) (negsuc b) small small' same =
    absurd (no_minus (decimal a) (decimal (suc b)) (decimal_digits a) same)
one_number_text (negsuc a) (pos b) small small' same =
    absurd (no_minus (decimal b) (decimal (suc a)) (decimal_digits b) (sym same))
one_number_text (negsuc a) (negsuc b) small small' same =
    let size = one_decimal (suc a) (suc b) small small' (ap (λ (b : List ℕ). drop 1 b) same) in
    ap negsuc (omega (arith, size))

-- ---- fractions

-- no byte is a slash
abbrev pub HasNoSlash : List ℕ → Type 0
HasNoSlash bytes = AllByRecursion (λ byte. byte ≢ 47) bytes

-- digits have none
digits_no_slash : (bytes : List ℕ) → AreDigits bytes → HasNoSlash bytes
digits_no_slash [] are = tt
digits_no_slash (byte ∷ bytes) are =
    (λ is. omega (arith, is, are.0), digits_no_slash bytes are.1)

-- nor has a number
no_slash : (number : ℤ) → HasNoSlash (signed_decimal number)
no_slash (pos number) = digits_no_slash (decimal number) (decimal_digits number)
no_slash (negsuc number) =
    (λ is. omega (arith, is), digits_no_slash (decimal (suc number)) (decimal_digits (suc number)))

-- the bytes before the first slash, and those after it, are determined by all
pub one_split : (prefix prefix' back back' : List ℕ) → HasNoSlash prefix → HasNoSlash prefix'
    → prefix ++ 47 ∷ back ≡ prefix' ++ 47 ∷ back' → (prefix ≡ prefix') × (back ≡ back')
one_split [] [] back back' none none' same = (refl, ap (λ (b : List ℕ). drop 1 b) same)
one_split [] (byte ∷ prefix') back back' none none' same =
    absurd (none'.0 (sym (ap (λ (b : List ℕ). get_or b 0 0) same)))
one_split (byte ∷ prefix) [] back back' none none' same =
    absurd (none.0 (ap (λ (b : List ℕ). get_or b 0 0) same))
one_split (byte ∷ prefix) (byte' ∷ prefix') back back' none none' same =
    let rest = one_split prefix prefix' back back' none.1 none'.1
    (ap (λ (b : List ℕ). drop 1 b) same) in
    (ap₂ (λ b bs. b ∷ bs) (ap (λ (b : List ℕ). get_or b 0 0) same) rest.0, rest.1)

-- bytes with a slash aren't bytes without
pub slash_differs : (bytes prefix back : List ℕ) → HasNoSlash bytes → bytes ≡ prefix ++ 47 ∷ back
    → ⊥
slash_differs [] [] back none same = omega (arith, ap (λ (b : List ℕ). get_or b 0 0) same)
slash_differs [] (byte ∷ prefix) back none same = omega (arith, ap length same)
slash_differs (byte ∷ bytes) [] back none same =
    none.0 (ap (λ (b : List ℕ). get_or b 0 0) same)
slash_differs (byte ∷ bytes) (byte' ∷ prefix) back none same =
    slash_differs bytes prefix back none.1 (ap (λ (b : List ℕ). drop 1 b) same)

-- a fraction is determined by its spelling
pub one_fraction_text : (num den num' den' : ℤ) → nat_abs num < 10 ^ 64 → nat_abs den < 10 ^ 64
    → nat_abs num' < 10 ^ 64 → nat_abs den' < 10 ^ 64
    → fraction_text num den ≡ fraction_text num' den' → (num ≡ num') × (den ≡ den')
one_fraction_text num den num' den' small small_den small' small_den' same =
    at (int_eq den (pos 1)) refl (int_eq den' (pos 1)) refl same
  where
    at : (whole : Bool) → int_eq den (pos 1) ≡ whole → (whole' : Bool)
        → int_eq den' (pos 1) ≡ whole'
        → cond whole (signed_decimal num) (signed_decimal num ++ 47 ∷ signed_decimal den)
        ≡ cond whole' (signed_decimal num') (signed_decimal num' ++ 47 ∷ signed_decimal den')
        → (num ≡ num') × (den ≡ den')
    at true is true is' same = (
      one_number_text num num' small small' same,
      (Decides-int_eq den (pos 1)).0 is ∙ sym ((Decides-int_eq den' (pos 1)).0 is'),
    )
    at true is false is' same =
        absurd (slash_differs (signed_decimal num) (signed_decimal num') (signed_decimal den')
        (no_slash num) same)
    at false is true is' same =
        absurd (slash_differs (signed_decimal num') (signed_decimal num) (signed_decimal den)
        (no_slash num') (sym same))
    at false is false is' same =
        let both = one_split (signed_decimal num) (signed_decimal num') (signed_decimal den)
        (signed_decimal den') (no_slash num) (no_slash num') same in (
          one_number_text num num' small small' both.0,
          one_number_text den den' small_den small_den' both.1,
        )

-- a minus sign alone is no number
lone_minus : (number : ℤ) → nat_abs number < 10 ^ 64 → signed_decimal number ≡ 45 ∷ [] → ⊥
lone_minus (pos number) small same = no_minus (decimal number) [] (decimal_digits number) same
lone_minus (negsuc number) small same =
    let some = (decimal_is_IsNumeral_wide (suc number) small).0.0 in
    omega (arith, ap length same)

-- and no fraction
pub no_fraction_minus : (num den : ℤ) → nat_abs num < 10 ^ 64
    → fraction_text num den ≡ 45 ∷ [] → ⊥
no_fraction_minus num den small same = at (int_eq den (pos 1)) same
  where
    at : (whole : Bool)
        → cond whole (signed_decimal num) (signed_decimal num ++ 47 ∷ signed_decimal den) ≡ 45 ∷ []
        → ⊥
    at true same = lone_minus num small same
    at false same =
        slash_differs (45 ∷ []) (signed_decimal num) (signed_decimal den)
        ((λ is. omega (arith, is)), tt) (sym same)

-- ---- quotients

-- numbers over one divisor that have one value in other terms are one
same_over : (a b den num low : ℤ) → pos 1 ≤ℤ low → num *ℤ den ≡ a *ℤ low
    → num *ℤ den ≡ b *ℤ low → a ≡ b
same_over a b den num (pos low) some same same' =
    same_factor a b low (omega (arith, ints)) (sym same ∙ same')
same_over a b den num (negsuc low) some same same' = absurd (omega (arith, ints))

-- over one divisor a number is determined by the quotient's spelling
pub one_quotient_text : (a b den : ℤ) → pos 1 ≤ℤ den → nat_abs a < 10 ^ 64
    → nat_abs b < 10 ^ 64 → nat_abs den < 10 ^ 64
    → quotient_text a den ≡ quotient_text b den → a ≡ b
unfolding quotient_text
one_quotient_text a b (negsuc den) some small small' small_den same = absurd (omega (arith, ints))
one_quotient_text a b (pos den) some small small' small_den same =
    let divisor = divisor_up_to den (nat_abs a) den in
    let divisor' = divisor_up_to den (nat_abs b) den in
    let (least, greatest) = up_to_second (nat_abs a) den (omega (arith, ints)) in
    let (least', greatest') = up_to_second (nat_abs b) den (omega (arith, ints)) in
    let some_divisor : pos 1 ≤ℤ pos divisor = omega (arith, ints, least) in
    let some_divisor' : pos 1 ≤ℤ pos divisor' = omega (arith, ints, least') in
    let num = int_div a (pos divisor) in
    let low = int_div (pos den) (pos divisor) in
    let num' = int_div b (pos divisor') in
    let low' = int_div (pos den) (pos divisor') in
    let both = one_fraction_text num low num' low'
    (omega (arith, int_div-le a (pos divisor) some_divisor))
    (omega (arith, int_div-le (pos den) (pos divisor) some_divisor))
    (omega (arith, int_div-le b (pos divisor') some_divisor'))
    (omega (arith, int_div-le (pos den) (pos divisor') some_divisor')) same in
    let value = same_value a (pos den) (pos divisor) some some_divisor greatest in
    let value' = same_value b (pos den) (pos divisor') some some_divisor' greatest' in
    let lowest = lowest_quotients a (pos den) (pos divisor) some some_divisor greatest in
    same_over a b (pos den) num low lowest.some_den value
    (ap (λ n. n *ℤ pos den) both.0 ∙ value' ∙ ap (λ n. b *ℤ n) (sym both.1))
