-- What is read of a fraction's text, and why one is refused: a text has one fraction or one fault.
use Rattle.cts_base.proofs.Vocabulary.{◌≡◌, ◌<◌, ◌^◌, ◌↔◌, ℕ, ℤ, pos, negsuc, ◌*ℤ◌, ◌≤ℤ◌, nat_abs, inl, inr, List, Result, Ok, Err, IfOk, MatchResult, of_z, to_z, refl, sym, ap, ◌∙◌, subst, arith, w128, ints, IsErrOf, IsBelow, IsLowest, fraction_text, SpellsQuotient, kept_size, HaveSmallSizes, IsLargeQuotient, IsNoFraction, RefusesFraction, Fraction, NumberFault, NotNumber, TooFine, TooLarge}
use Rattle.std.proofs.Props.{props}
use Rattle.cts_base.proofs.GreatestDivisors.{same_factor}
use Rattle.cts_base.proofs.OneSpelling.{one_quotient, quotient_text_spelled, fraction_spelled}

-- ---- equal fractions

-- a fraction of its numbers
fraction_of : (numbers : ℤ × ℤ) → IsLowest numbers.0 numbers.1 → Fraction
fraction_of numbers lowest = record { num = numbers.0; den = numbers.1; lowest = lowest }

one_validity : (numbers : ℤ × ℤ) → IsProp (IsLowest numbers.0 numbers.1)
one_validity numbers = hlevel props

fraction_same : (numbers others : ℤ × ℤ) → numbers ≡ others
    → (lowest : IsLowest numbers.0 numbers.1) (lowest' : IsLowest others.0 others.1)
    → fraction_of numbers lowest ≡ fraction_of others lowest'
unfolding fraction_of
fraction_same numbers others same lowest lowest' =
    subst (λ (n : ℤ × ℤ). (l : IsLowest n.0 n.1) → fraction_of numbers lowest ≡ fraction_of n l)
    same
    (λ l. ap (fraction_of numbers) (one_validity numbers lowest l)) lowest'

-- fractions of the same numbers are one
pub same_fraction : (fraction other : Fraction) → fraction.num ≡ other.num
    → fraction.den ≡ other.den → fraction ≡ other
unfolding fraction_of
same_fraction fraction other num den =
    fraction_same (fraction.num, fraction.den) (other.num, other.den) (λ i. (num i, den i))
    fraction.lowest other.lowest

-- ---- small numbers

-- a number below 10^37 in size has no more than 64 digits
pub few_digits : (n : ℤ) → IsBelow (10 ^ 37) n → nat_abs n < 10 ^ 64
few_digits (pos n) small = let below = small.below in omega (arith, ints, below)
few_digits (negsuc n) small = let above = small.above in omega (arith, ints, above)

-- it is kept as it is
pub kept_same : (n : ℤ) → IsBelow (10 ^ 37) n → kept_size n ≡ n
kept_same (pos n) small = let below = small.below in omega (arith, ints, below)
kept_same (negsuc n) small = let above = small.above in omega (arith, ints, above)

-- an i128 holds it
pub held_same : (n : ℤ) → IsBelow (10 ^ 37) n → to_z w128 (of_z w128 n) ≡ n
held_same n small =
    let above = small.above in
    let below = small.below in
    omega (arith, ints, above, below)

-- and what is kept so is such a number
pub kept_small : (n : ℤ) → IsBelow (10 ^ 37) (kept_size n) → IsBelow (10 ^ 37) n
kept_small (pos n) small =
    let below = small.below in
    record { above = omega (arith, ints); below = omega (arith, ints, below) }
kept_small (negsuc n) small =
    let above = small.above in
    record { above = omega (arith, ints, above); below = omega (arith, ints) }

pub kept_some : (n : ℤ) → pos 1 ≤ℤ n → pos 1 ≤ℤ kept_size n
kept_some (pos n) some = omega (arith, ints, some)
kept_some (negsuc n) some = absurd (omega (arith, ints, some))

-- ---- one fraction or one fault

-- the text spells the fraction, or is refused for this fault
abbrev pub IsJudged : List ℕ → Result Fraction NumberFault → Type 0
IsJudged text r =
    MatchResult r (λ fraction. SpellsQuotient text fraction.num fraction.den
    × HaveSmallSizes fraction.num fraction.den) (RefusesFraction text)

-- a text that spells a small quotient in lowest terms is a fraction
fraction_is : (text : List ℕ) (num den : ℤ) → SpellsQuotient text num den → IsLowest num den
    → IsNoFraction text → ⊥
fraction_is text num den spells lowest (inl none) = none num den spells
fraction_is text num den spells lowest (inr (num', den', spells', small, not_lowest)) =
    let both = one_quotient text num den num' den' spells spells' in
    not_lowest (subst (λ d. IsLowest num' d) both.1 (subst (λ n. IsLowest n den) both.0 lowest))

-- a text that spells a small quotient isn't a large one
small_is : (text : List ℕ) (num den : ℤ) → SpellsQuotient text num den → HaveSmallSizes num den
    → IsLargeQuotient text → ⊥
small_is text num den spells small (num', den', spells', large) =
    let both = one_quotient text num den num' den' spells spells' in
    large (
      subst (λ n. IsBelow (10 ^ 37) n) both.0 small.0,
      subst (λ n. IsBelow (10 ^ 37) n) both.1 small.1,
    )

-- no text is refused for both
one_fault : (text : List ℕ) → IsNoFraction text → IsLargeQuotient text → ⊥
one_fault text (inl none) (num, den, spells, large) = none num den spells
one_fault text (inr (num, den, spells, small, not_lowest)) large =
    small_is text num den spells small large

pub judged_not_number : (text : List ℕ) (r : Result Fraction NumberFault) → IsJudged text r
    → IsErrOf r NotNumber ↔ IsNoFraction text
judged_not_number text (Ok fraction) denoted = (
  λ is. cc,
  λ other. absurd (fraction_is text fraction.num fraction.den denoted.0 fraction.lowest other),
)
judged_not_number text (Err NotNumber) denoted = (λ _. denoted, λ _. refl)
judged_not_number text (Err TooFine) denoted = absurd denoted
judged_not_number text (Err TooLarge) denoted =
    (λ is. cc, λ other. absurd (one_fault text other denoted))

pub judged_too_large : (text : List ℕ) (r : Result Fraction NumberFault) → IsJudged text r
    → IsErrOf r TooLarge ↔ IsLargeQuotient text
judged_too_large text (Ok fraction) denoted =
    (λ is. cc, λ other. absurd (small_is text fraction.num fraction.den denoted.0 denoted.1 other))
judged_too_large text (Err NotNumber) denoted =
    (λ is. cc, λ other. absurd (one_fault text denoted other))
judged_too_large text (Err TooFine) denoted = absurd denoted
judged_too_large text (Err TooLarge) denoted = (λ _. denoted, λ _. refl)

-- what is read is spelled so
pub judged_ok : (text : List ℕ) (r : Result Fraction NumberFault) → IsJudged text r
    → IfOk r (λ fraction. text ≡ fraction_text fraction.num fraction.den)
judged_ok text (Ok fraction) denoted =
    quotient_text_spelled text fraction.num fraction.den (few_digits fraction.num denoted.1.0)
    (few_digits fraction.den denoted.1.1) denoted.0
judged_ok text (Err fault) denoted = tt

-- and what is spelled so is read
pub judged_spelled : (text : List ℕ) (r : Result Fraction NumberFault) → IsJudged text r
    → (fraction : Fraction) → IsBelow (10 ^ 37) fraction.num
    → IsBelow (10 ^ 37) fraction.den → text ≡ fraction_text fraction.num fraction.den
    → r ≡ Ok fraction
judged_spelled text r denoted fraction small small' same =
    let lowest = fraction.lowest in
    at r denoted (fraction_spelled text fraction.num fraction.den (few_digits fraction.num small)
    (few_digits fraction.den small') lowest.some_den same)
  where
    at : (o : Result Fraction NumberFault) → IsJudged text o
        → SpellsQuotient text fraction.num fraction.den → o ≡ Ok fraction
    at (Ok other) denoted spells =
        let both =
        one_quotient text other.num other.den fraction.num fraction.den denoted.0 spells in
        ap Ok (same_fraction other fraction both.0 both.1)
    at (Err NotNumber) denoted spells =
        absurd (fraction_is text fraction.num fraction.den spells fraction.lowest denoted)
    at (Err TooFine) denoted spells = absurd denoted
    at (Err TooLarge) denoted spells =
        absurd (small_is text fraction.num fraction.den spells (small, small') denoted)

-- ---- from the numbers that are read

-- what is read is of that size where what is spelled is
pub spelled_small : (num den num' den' : ℤ) → num' ≡ kept_size num → den' ≡ kept_size den
    → HaveSmallSizes num' den' → HaveSmallSizes num den × (num' ≡ num) × (den' ≡ den)
spelled_small num den num' den' is is' small =
    let first = kept_small num (subst (λ n. IsBelow (10 ^ 37) n) is small.0) in
    let second = kept_small den (subst (λ n. IsBelow (10 ^ 37) n) is' small.1) in
    ((first, second), is ∙ kept_same num first, is' ∙ kept_same den second)

pub spelled_large : (num den num' den' : ℤ) → num' ≡ kept_size num → den' ≡ kept_size den
    → (HaveSmallSizes num' den' → ⊥) → HaveSmallSizes num den → ⊥
spelled_large num den num' den' is is' large small =
    large (
      subst (λ n. IsBelow (10 ^ 37) n) (sym (is ∙ kept_same num small.0)) small.0,
      subst (λ n. IsBelow (10 ^ 37) n) (sym (is' ∙ kept_same den small.1)) small.1,
    )

-- a fraction of the numbers that are read
pub read_spelled : (text : List ℕ) (num den num' den' num'' den'' : ℤ)
    → SpellsQuotient text num den → num' ≡ kept_size num → den' ≡ kept_size den
    → HaveSmallSizes num' den' → num'' ≡ num' → den'' ≡ den'
    → SpellsQuotient text num'' den'' × HaveSmallSizes num'' den''
read_spelled text num den num' den' num'' den'' spells is is' small same same' =
    let (small', first, second) = spelled_small num den num' den' is is' small in
    subst (λ d. SpellsQuotient text num'' d × HaveSmallSizes num'' d) (sym (same' ∙ second))
    (subst (λ n. SpellsQuotient text n den × HaveSmallSizes n den) (sym (same ∙ first))
    (spells, small'))

-- and where they aren't in lowest terms
pub read_not_lowest : (text : List ℕ) (num den num' den' : ℤ) → SpellsQuotient text num den
    → num' ≡ kept_size num → den' ≡ kept_size den → HaveSmallSizes num' den'
    → (IsLowest num' den' → ⊥)
    → (n : ℤ) × (d : ℤ) × SpellsQuotient text n d × HaveSmallSizes n d × (IsLowest n d → ⊥)
read_not_lowest text num den num' den' spells is is' small not_lowest =
    let (small', first, second) = spelled_small num den num' den' is is' small in (
      num,
      den,
      spells,
      small',
      λ lowest. not_lowest (subst (λ d. IsLowest num' d) (sym second)
          (subst (λ n. IsLowest n den) (sym first) lowest)),
    )

-- ---- lowest terms

-- with one number below, a fraction of one value has one number above
pub same_above : (num den num' den' : ℤ) → pos 1 ≤ℤ den → num' *ℤ den ≡ num *ℤ den'
    → den' ≡ den → num' ≡ num
same_above num (pos d) num' den' some value same =
    same_factor num' num d (omega (arith, ints, some)) (value ∙ ap (λ n. num *ℤ n) same)
same_above num (negsuc d) num' den' some value same = absurd (omega (arith, ints, some))
