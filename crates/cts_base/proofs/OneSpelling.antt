-- A text spells one whole number and one quotient; and the digits that std writes of a number are
-- its spelling.
use Rattle.cts_base.proofs.Vocabulary.{◌≡◌, ◌<◌, ◌≤◌, ◌+◌, ◌*◌, ◌/◌, ◌%◌, ◌^◌, ℕ, suc, zero, ℤ, pos, negsuc, ◌≤ℤ◌, nat_abs, Bool, true, false, cond, IsTrue, inl, inr, List, [], ◌∷◌, ◌++◌, get_or, length, decimal, refl, sym, ap, ap₂, ◌∙◌, subst, arith, append_assoc, append-nil, digit_value, signed_decimal, int_eq, AllDigits, digits_value, digits_value_after, starts_with_minus, Decides-int_eq, nat_tests, decimal_is_IsNumeral_wide, decimal_by_steps_wide, decimal_digit, decimal_step_wide, ints, length-append, get_or_append_left, digit_value_digit, digit_from_value, fraction_text, IsPlainNumeral, SpellsWhole, SpellsQuotient}
use Rattle.cts_base.proofs.OneNumberText.{HasNoSlash, one_split, slash_differs}

-- ---- one number

-- a text that begins with a minus sign has that byte first
minus_first : (byte : ℕ) (bytes : List ℕ) → IsTrue (starts_with_minus (byte ∷ bytes)) → byte ≡ 45
minus_first byte bytes minus = grind (arith, nat_tests)

-- digits don't begin with a minus sign
pub plain_no_minus : (text : List ℕ) → IsPlainNumeral text → IsTrue (starts_with_minus text) → ⊥
plain_no_minus [] plain minus = omega (arith, plain.0.0)
plain_no_minus (byte ∷ bytes) plain minus =
    omega (arith, minus_first byte bytes minus, digit_from_value byte plain.0.1.0)

-- a text spells one whole number
pub one_whole : (text : List ℕ) (a b : ℤ) → SpellsWhole text a → SpellsWhole text b → a ≡ b
one_whole text (pos a) (pos b) spells other = ap pos (sym spells.1 ∙ other.1)
one_whole text (pos a) (negsuc b) spells other = absurd (plain_no_minus text spells.0 other.0)
one_whole text (negsuc a) (pos b) spells other = absurd (plain_no_minus text other.0 spells.0)
one_whole text (negsuc a) (negsuc b) spells other =
    let size : suc a ≡ suc b = sym spells.1.1 ∙ other.1.1 in ap negsuc (omega (arith, size))

-- ---- one quotient

-- digits have no slash
plain_no_slash : (digits : List ℕ) → AllDigits 10 digits → HasNoSlash digits
plain_no_slash [] are = tt
plain_no_slash (byte ∷ bytes) are =
    ((λ is. omega (arith, is, digit_from_value byte are.0)), plain_no_slash bytes are.1)

-- nor has the spelling of a whole number
pub whole_no_slash : (text : List ℕ) (value : ℤ) → SpellsWhole text value → HasNoSlash text
whole_no_slash text (pos number) spells = plain_no_slash text spells.0.0.1
whole_no_slash [] (negsuc less) spells = tt
whole_no_slash (byte ∷ bytes) (negsuc less) spells = (
  (λ is. omega (arith, is, minus_first byte bytes spells.0)),
  plain_no_slash bytes spells.1.0.0.1,
)

-- a text spells one quotient
pub one_quotient : (text : List ℕ) (num den num' den' : ℤ) → SpellsQuotient text num den
    → SpellsQuotient text num' den' → (num ≡ num') × (den ≡ den')
one_quotient text num den num' den' (inl one) (inl one') =
    (one_whole text num num' one.1 one'.1, one.0 ∙ sym one'.0)
one_quotient text num den num' den' (inl one) (inr (some, (prefix, back, is, above, below))) =
    absurd (slash_differs text prefix back (whole_no_slash text num one.1) is)
one_quotient text num den num' den' (inr (some, (prefix, back, is, above, below))) (inl one') =
    absurd (slash_differs text prefix back (whole_no_slash text num' one'.1) is)
one_quotient text num den num' den' (inr (some, over)) (inr (some', over')) =
    let (prefix, back, is, above, below) = over in
    let (prefix', back', is', above', below') = over' in
    let both = one_split prefix prefix' back back' (whole_no_slash prefix num above)
    (whole_no_slash prefix' num' above') (sym is ∙ is') in (
      one_whole prefix num num' above (subst (λ t. SpellsWhole t num') (sym both.0) above'),
      one_whole back den den' below (subst (λ t. SpellsWhole t den') (sym both.1) below'),
    )

-- the number below is at least 1
pub quotient_some : (text : List ℕ) (num den : ℤ) → SpellsQuotient text num den → pos 1 ≤ℤ den
quotient_some text num den (inl one) = let is = one.0 in omega (arith, ints, is)
quotient_some text num den (inr over) = let some = over.0 in omega (arith, ints, some)

-- ---- what std writes

-- digits after a number don't make it less
after_more : (n : ℕ) (ds : List ℕ) → n ≤ digits_value_after 10 n ds
after_more n [] = omega arith
after_more n (d ∷ ds) = omega (arith, after_more (n * 10 + digit_value d) ds)

-- the digits of a number above 0, and those after them
decimal_after : (n : ℕ) (ds : List ℕ) → 0 < n → AllDigits 10 ds
    → digits_value_after 10 n ds < 10 ^ 64 → decimal (digits_value_after 10 n ds) ≡ decimal n ++ ds
decimal_after n [] some are small = sym (append-nil (decimal n))
decimal_after n (d ∷ ds) some are small =
    let more : ℕ = n * 10 + digit_value d in
    let is = digit_value_digit d (digit_from_value d are.0) in
    let prefix : more / 10 ≡ n = omega (arith, are.0) in
    let end : 48 + more % 10 ≡ d = omega (arith, are.0) in
    decimal_after more ds (omega arith) are.1 small
    ∙ ap (λ x. x ++ ds) (decimal_step_wide more (omega arith) (omega (arith, after_more more ds))
    ∙ (λ i. decimal (prefix i) ++ (end i ∷ [])))
    ∙ append_assoc (decimal n) (d ∷ []) ds

-- a digit that isn't 0 is above it
above_zero : (c : ℕ) → 48 ≤ c → (c ≡ 48 → ⊥) → 48 < c
above_zero c low differs = grind arith

-- digits without a leading 0 are what std writes of their value
size_text : (digits : List ℕ) → IsPlainNumeral digits → digits_value 10 digits < 10 ^ 64
    → digits ≡ decimal (digits_value 10 digits)
size_text [] plain small = absurd (omega (arith, plain.0.0))
size_text (d ∷ []) plain small =
    let is = digit_value_digit d (digit_from_value d plain.0.1.0) in
    sym (decimal_digit (0 * 10 + digit_value d) (omega (arith, plain.0.1.0))
    ∙ ap (λ x. x ∷ []) (omega arith))
size_text (d ∷ e ∷ ds) plain small =
    let range = digit_from_value d plain.0.1.0 in
    let is = digit_value_digit d range in
    let differs : d ≡ 48 → ⊥ = λ zero. omega (arith, plain.1 zero) in
    let same : 48 + (0 * 10 + digit_value d) ≡ d = omega arith in
    let some : 0 < 0 * 10 + digit_value d = omega (arith, is, above_zero d range.0 differs) in
    sym (decimal_after (0 * 10 + digit_value d) (e ∷ ds) some plain.0.1.1 small
    ∙ ap (λ x. x ++ (e ∷ ds)) (decimal_digit (0 * 10 + digit_value d) (omega (arith, plain.0.1.0))
    ∙ ap (λ x. x ∷ []) same))

-- and std writes such digits
decimal_plain : (n : ℕ) → n < 10 ^ 64 → IsPlainNumeral (decimal n)
decimal_plain n small =
    let first = decimal_by_steps_wide (λ m ds. (0 < length ds) × (0 < m → 48 < get_or ds 0 0))
    (λ m less. (omega arith, λ some. omega arith))
    (λ m ds more is. (
      omega (arith, length-append ds ((48 + m % 10) ∷ [])),
      λ some.
          omega (arith, get_or_append_left ds ((48 + m % 10) ∷ []) 0 0 is.0, is.1 (omega arith)),
    )) n small in
    ((decimal_is_IsNumeral_wide n small).0, λ lead. at n lead first.1)
  where
    at : (m : ℕ) → get_or (decimal m) 0 0 ≡ 48 → (0 < m → 48 < get_or (decimal m) 0 0)
        → length (decimal m) ≡ 1
    at zero lead first = ap length (decimal_digit 0 (omega arith))
    at (suc m) lead first = absurd (omega (arith, lead, first (omega arith)))

-- the text of a whole number of up to 64 digits is what std writes of it
pub whole_text : (text : List ℕ) (value : ℤ) → nat_abs value < 10 ^ 64 → SpellsWhole text value
    → text ≡ signed_decimal value
whole_text text (pos number) small spells =
    size_text text spells.0 (subst (λ n. n < 10 ^ 64) (sym spells.1) small) ∙ ap decimal spells.1
whole_text [] (negsuc less) small spells = absurd (omega (arith, spells.1.0.0.0))
whole_text (byte ∷ bytes) (negsuc less) small spells =
    ap₂ (λ b bs. b ∷ bs) (minus_first byte bytes spells.0)
    (size_text bytes spells.1.0 (subst (λ n. n < 10 ^ 64) (sym spells.1.1) small)
    ∙ ap decimal spells.1.1)

pub whole_spelled : (value : ℤ) → nat_abs value < 10 ^ 64 → SpellsWhole (signed_decimal value) value
whole_spelled (pos number) small =
    (decimal_plain number small, (decimal_is_IsNumeral_wide number small).1)
whole_spelled (negsuc less) small =
    (refl, (decimal_plain (suc less) small, (decimal_is_IsNumeral_wide (suc less) small).1))

-- a quotient of such numbers is spelled as a fraction is
pub quotient_text_spelled : (text : List ℕ) (num den : ℤ) → nat_abs num < 10 ^ 64
    → nat_abs den < 10 ^ 64 → SpellsQuotient text num den → text ≡ fraction_text num den
quotient_text_spelled text num den small small' spells = at (int_eq den (pos 1)) refl spells
  where
    at : (whole : Bool) → int_eq den (pos 1) ≡ whole → SpellsQuotient text num den
        → text ≡ cond whole (signed_decimal num) (signed_decimal num ++ 47 ∷ signed_decimal den)
    at true is (inl one) = whole_text text num small one.1
    at true is (inr over) =
        let one : den ≡ pos 1 = (Decides-int_eq den (pos 1)).0 is in
        let some = over.0 in absurd (omega (arith, ints, one, some))
    at false is (inl one) =
        absurd (differ (sym ((Decides-int_eq den (pos 1)).1 one.0) ∙ is))
      where
        differ : true ≡ false → ⊥
        differ same = cc
    at false is (inr (some, (prefix, back, split, above, below))) =
        split ∙ ap₂ (λ a b. a ++ 47 ∷ b) (whole_text prefix num small above)
        (whole_text back den small' below)

-- and a fraction is spelled as a quotient is
pub fraction_spelled : (text : List ℕ) (num den : ℤ) → nat_abs num < 10 ^ 64
    → nat_abs den < 10 ^ 64 → pos 1 ≤ℤ den → text ≡ fraction_text num den
    → SpellsQuotient text num den
fraction_spelled text num den small small' some same = at (int_eq den (pos 1)) refl same
  where
    at : (whole : Bool) → int_eq den (pos 1) ≡ whole
        → text ≡ cond whole (signed_decimal num) (signed_decimal num ++ 47 ∷ signed_decimal den)
        → SpellsQuotient text num den
    at true is same = inl (
      (Decides-int_eq den (pos 1)).0 is,
      subst (λ t. SpellsWhole t num) (sym same) (whole_spelled num small),
    )
    at false is same =
        let differs : den ≡ pos 1 → ⊥ =
        λ one. differ (sym ((Decides-int_eq den (pos 1)).1 one) ∙ is) in
        inr (
          more den some differs,
          (
            signed_decimal num,
            signed_decimal den,
            same,
            whole_spelled num small,
            whole_spelled den small',
          ),
        )
      where
        differ : true ≡ false → ⊥
        differ yes' = cc

        more : (d : ℤ) → pos 1 ≤ℤ d → (d ≡ pos 1 → ⊥) → pos 2 ≤ℤ d
        more (pos zero) some differs = absurd (omega (arith, ints, some))
        more (pos (suc zero)) some differs = absurd (differs refl)
        more (pos (suc (suc d))) some differs = omega (arith, ints)
        more (negsuc d) some differs = absurd (omega (arith, ints, some))
