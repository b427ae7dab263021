-- What the steps of reading a size in millionths say of the number's text.
use Rattle.cts_base.proofs.Vocabulary.{◌≡◌, ℕ, ◌+◌, ◌*◌, ◌-◌, ◌^◌, ◌<◌, min, ◌⊎◌, lit<, lit≤, ◌≤◌, ◌/◌, ◌%◌, Ok, Err, Bool, true, false, cond, List, ◌++◌, length, take, drop, refl, sym, ap, ◌∙◌, arith, mod-add-div', mul-div_cancel, mul-mod_left, one-le-pow, eq-eqb, le-ltb, lt-ltb, ne_eqb, length-append, length-drop, list_all, digits_value, starts_with_minus, without_leading_sign, is_zero, exponent, whole_digits, fraction_digits, digits, exponent_size, raised, lowered, is_fine_enough, micros_size, size_of, TooFine, TooLarge}
use Rattle.std.proofs.lemmas.Int.Digits.{digits_value-lt}
use Rattle.cts_base.specs.NumberParts.{HasDigits}
use Rattle.cts_base.proofs.DecimalLemmas.{digits_short}
use Rattle.cts_base.proofs.MicroLemmas.{digits_value-split, zeros_value, others_value, IsAligned, IsLeft, places_of, kept_cut, raise_cut, shape, size_is, no_size, raised_cut}
use Rattle.cts_base.proofs.ScaleLemmas.{digits_of_append, digits_of_drop}

-- so many digits are kept
pub record IsPlacedIn (text : List ℕ) (places kept : ℕ) : Type 0 where
  pub places_is : places ≡ places_of (starts_with_minus (exponent text))
      (length (whole_digits text)) (min (exponent_size text) 1267650600228229401496703205376)
  pub kept_is : kept ≡ min places (length (whole_digits text) + length (fraction_digits text))

pub placed : (text whole fraction suffix : List ℕ) (minus : Bool) (size places kept : ℕ)
    → whole ≡ whole_digits text → fraction ≡ fraction_digits text → suffix ≡ exponent text
    → minus ≡ starts_with_minus suffix
    → size ≡ min (digits_value 10 (without_leading_sign suffix)) 1267650600228229401496703205376
    → places ≡ cond minus (length whole + 6 - size) (length whole + 6 + size)
    → kept ≡ min places (length whole + length fraction) → IsPlacedIn text places kept
unfolding exponent_size
placed text whole fraction suffix minus size places kept whole_is fraction_is after_is minus_is
    size_is places_is kept_is =
    let sign : minus ≡ starts_with_minus (exponent text) =
    minus_is ∙ ap starts_with_minus after_is in
    let cut : size ≡ min (exponent_size text) 1267650600228229401496703205376 = size_is
    ∙ ap (λ e. min (digits_value 10 (without_leading_sign e)) 1267650600228229401496703205376)
    after_is in
    record {
      places_is = places_is ∙ (λ i. places_of (sign i) (length (whole_is i)) (cut i));
      kept_is = kept_is ∙ (λ i. min places (length (whole_is i) + length (fraction_is i)));
    }

-- the place of the millionths by the exact exponent
exact_kept : (text : List ℕ) (places kept : ℕ) → length text < 2 ^ 64 → IsPlacedIn text places kept
    → kept ≡ min (places_of (starts_with_minus (exponent text)) (length (whole_digits text))
    (exponent_size text)) (length (whole_digits text) + length (fraction_digits text))
exact_kept text places kept short place =
    place.kept_is
    ∙ ap (λ p. min p (length (whole_digits text) + length (fraction_digits text))) place.places_is
    ∙ kept_cut (starts_with_minus (exponent text)) (length (whole_digits text))
    (length (fraction_digits text)) (exponent_size text) (omega (arith, digits_short text))

-- how far what is kept is raised
raise_of : List ℕ → ℕ → ℕ
raise_of text kept = places_of (starts_with_minus (exponent text)) (length (whole_digits text))
    (exponent_size text) - kept

shape_of : (text : List ℕ) (places kept : ℕ) → length text < 2 ^ 64 → IsPlacedIn text places kept
    → IsAligned (length (drop kept (whole_digits text ++ fraction_digits text)))
    (raise_of text kept) (lowered text) (raised text)
    ⊎ IsLeft kept (length (drop kept (whole_digits text ++ fraction_digits text)))
    (raise_of text kept) (lowered text) (raised text)
unfolding raise_of lowered raised
shape_of text places kept short place =
    let whole = whole_digits text in
    let fraction = fraction_digits text in
    shape (starts_with_minus (exponent text)) (length whole) (length fraction) (exponent_size text)
    kept (length (drop kept (whole ++ fraction))) (raise_of text kept) (lowered text) (raised text)
    (exact_kept text places kept short place)
    (length-drop kept (whole ++ fraction) ∙ ap (λ n. n - kept) (length-append whole fraction))
    refl refl refl

-- nothing kept is 0
empty_prefix : (ds : List ℕ) (kept : ℕ) → kept ≡ 0 → digits_value 10 (take kept ds) ≡ 0
empty_prefix ds kept none = ap (λ k. digits_value 10 (take k ds)) none

-- the size of the value is so many millionths
abbrev IsMicrosSize : List ℕ → ℕ → Type 0
IsMicrosSize text size = size * 10 ^ lowered text ≡ digits text * 10 ^ raised text * 10 ^ 6

-- then it is a whole number of them, and this one
pub size_told : (text : List ℕ) (size : ℕ) → IsMicrosSize text size
    → (is_fine_enough text ≡ true) × (micros_size text ≡ size)
unfolding is_fine_enough micros_size
size_told text size same =
    let power : 1 ≤ 10 ^ lowered text = one-le-pow (lowered text) 10 (lit< tt) in (
      eq-eqb _ 0 (ap (λ n. n % 10 ^ lowered text) (sym same) ∙ mul-mod_left size
          (10 ^ lowered text)),
      ap (λ n. n / 10 ^ lowered text) (sym same) ∙ mul-div_cancel size power,
    )

-- else it is none
not_told : (text : List ℕ) → ((size : ℕ) → IsMicrosSize text size → ⊥)
    → is_fine_enough text ≡ false
unfolding is_fine_enough micros_size
not_told text none =
    let total = digits text * 10 ^ raised text * 10 ^ 6 in
    ne_eqb _ 0 (λ over. none (micros_size text)
    (omega (arith, over, mod-add-div' total (10 ^ lowered text))))

-- where there is more than zeros after, the value is no multiple of a millionth
pub too_fine : (text : List ℕ) (places kept : ℕ) → length text < 2 ^ 64
    → HasDigits text → IsPlacedIn text places kept
    → list_all is_zero (drop kept (whole_digits text ++ fraction_digits text)) ≡ false
    → Err TooFine ≡ size_of text
unfolding digits size_of
too_fine text places kept short has place more =
    let ds = whole_digits text ++ fraction_digits text in
    let rest = drop kept ds in
    let rest_digits = digits_of_drop kept ds
    (digits_of_append (whole_digits text) (fraction_digits text) has.whole has.fraction) in
    let none = not_told text (λ size same. no_size kept (digits_value 10 (take kept ds))
    (digits_value 10 rest) (digits_value 10 ds)
    (length rest) (raise_of text kept) (lowered text) (raised text) size
    (empty_prefix ds kept) (digits_value-split kept ds) (digits_value-lt 10 rest rest_digits)
    (others_value rest rest_digits more) (shape_of text places kept short place) same) in
    rw none refl

-- and else what is kept, raised, is the size, up to a ceiling
pub record IsSizeUpTo (text : List ℕ) (ceiling size : ℕ) : Type 0 where
  pub exact : ℕ
  pub value : IsMicrosSize text exact
  pub kept : size ≡ min exact ceiling

pub size_up_to : (text : List ℕ) (places kept number size : ℕ) → length text < 2 ^ 64
    → IsPlacedIn text places kept
    → list_all is_zero (drop kept (whole_digits text ++ fraction_digits text)) ≡ true → number
    ≡ min (digits_value 10 (take kept (whole_digits text ++ fraction_digits text))) 1000000000000001
    → size ≡ min (number * 10 ^ (places - kept)) 1000000000000001
    → IsSizeUpTo text 1000000000000001 size
unfolding digits raise_of
size_up_to text places kept number size short place zeros number_is size_is_min =
    let ds = whole_digits text ++ fraction_digits text in
    let prefix = digits_value 10 (take kept ds) in
    let whole = length (whole_digits text) in
    let fraction = length (fraction_digits text) in
    let minus = starts_with_minus (exponent text) in
    let fits : whole + fraction < 2 ^ 64 = omega (arith, digits_short text) in
    let exact = exact_kept text places kept short place in
    let same : min (places - kept) 16 ≡ min (raise_of text kept) 16 =
    (λ i. min (place.places_is i - exact i) 16)
    ∙ raise_cut minus whole fraction (exponent_size text) fits
    ∙ (λ i. min (places_of minus whole (exponent_size text) - sym exact i) 16) in
    record {
      exact = prefix * 10 ^ raise_of text kept;
      value = size_is kept prefix (digits_value 10 (drop kept ds)) (digits_value 10 ds)
          (length (drop kept ds)) (raise_of text kept) (lowered text) (raised text)
          (empty_prefix ds kept) (digits_value-split kept ds) (zeros_value (drop kept ds) zeros)
          (shape_of text places kept short place);
      kept =
          size_is_min
          ∙ ap (λ n. min (n * 10 ^ (places - kept)) 1000000000000001) number_is
          ∙ raised_cut prefix (places - kept) (raise_of text kept) 1000000000000001 (lit≤ tt) same;
    }

-- a size below the ceiling is exact
pub size_below : (text : List ℕ) (size : ℕ) → IsSizeUpTo text 1000000000000001 size
    → (size ≡ 1000000000000001 → ⊥) → Ok size ≡ size_of text
unfolding size_of
size_below text size up other =
    let told = size_told text up.exact up.value in
    let exact : micros_size text ≡ size = told.1 ∙ omega (arith, up.kept, other) in
    let within = le-ltb (10 ^ 15) size (omega (arith, up.kept, other)) in
    rw (told.0, exact, within) refl

-- at the ceiling the exact one is above the limit
pub size_above : (text : List ℕ) (size : ℕ) → IsSizeUpTo text 1000000000000001 size
    → size ≡ 1000000000000001 → Err TooLarge ≡ size_of text
unfolding size_of
size_above text size up at =
    let told = size_told text up.exact up.value in
    let above = lt-ltb (10 ^ 15) up.exact (omega (arith, up.kept)) in
    rw (told.0, told.1, above) refl
