-- The numbers that digits write, kept at a ceiling, and powers of ten.
use Rattle.cts_base.proofs.Vocabulary.{◌≡◌, ℕ, zero, suc, ◌+◌, ◌*◌, ◌-◌, ◌^◌, ◌<◌, ◌≤◌, min, ◌⊎◌, inl, inr, lit<, add-one, Bool, ◌&&◌, List, [], ◌∷◌, ◌++◌, length, take, drop, get_or, refl, sym, ap, ◌∙◌, arith, pow-suc, pow-le-pow_right, mul-le-mul_right, mul_assoc, zero-mul, take-append-add, drop-append-add, take-length, drop-length, take_more, take-append-le, drop-append-le, digit_value_digit, cases_lt, digit_at, digit_value, IsInRange, list_all, AllDigits, digits_value, digits_value_after}
use Rattle.std.proofs.lemmas.List.{append-nil}
use Rattle.std.proofs.lemmas.List.Folds.{list_all-append}

-- ---- one digit more

-- a number kept at a ceiling grows by a digit as the number itself does
pub capped_step : (number digit ceiling : ℕ)
    → min (min number ceiling * 10 + digit) ceiling ≡ min (number * 10 + digit) ceiling
capped_step number digit ceiling = omega arith

digits_value_after-push : (n : ℕ) (ds : List ℕ) (c : ℕ)
    → digits_value_after 10 n (ds ++ c ∷ []) ≡ digits_value_after 10 n ds * 10 + digit_value c
digits_value_after-push n [] c = refl
digits_value_after-push n (d ∷ ds) c = digits_value_after-push (n * 10 + digit_value d) ds c

digit_is : (c : ℕ) → IsInRange 48 57 c → digit_value c ≡ c - 48
digit_is c range = omega (arith, digit_value_digit c range)

-- the loop over digits goes on by one
pub number_step : (start ceiling : ℕ) (ds : List ℕ) (i number : ℕ) → AllDigits 10 ds → i < length ds
    → number ≡ min (digits_value_after 10 start (take i ds)) ceiling
    → min (number * 10 + (get_or ds i 0 - 48)) ceiling
    ≡ min (digits_value_after 10 start (take (i + 1) ds)) ceiling
number_step start ceiling ds i number digits within is =
    ap (λ n. min (n * 10 + (get_or ds i 0 - 48)) ceiling) is
    ∙ capped_step (digits_value_after 10 start (take i ds)) (get_or ds i 0 - 48) ceiling
    ∙ ap (λ n. min (digits_value_after 10 start (take i ds) * 10 + n) ceiling)
    (sym (digit_is (get_or ds i 0) (digit_at ds i digits within)))
    ∙ ap (λ n. min n ceiling) (sym (digits_value_after-push start (take i ds) (get_or ds i 0)))
    ∙ ap (λ s. min (digits_value_after 10 start s) ceiling) (sym (take_more ds i 0 within))

-- ---- digits after digits

pub digits_value_after-append : (n : ℕ) (xs ys : List ℕ)
    → digits_value_after 10 n (xs ++ ys) ≡ digits_value_after 10 (digits_value_after 10 n xs) ys
digits_value_after-append n [] ys = refl
digits_value_after-append n (x ∷ xs) ys = digits_value_after-append (n * 10 + digit_value x) xs ys

-- digits after a number kept at a ceiling
pub capped_through : (ceiling number : ℕ) (ds : List ℕ)
    → min (digits_value_after 10 (min number ceiling) ds) ceiling
    ≡ min (digits_value_after 10 number ds) ceiling
capped_through ceiling number [] = omega arith
capped_through ceiling number (d ∷ ds) =
    sym (capped_through ceiling (min number ceiling * 10 + digit_value d) ds)
    ∙ ap (λ n. min (digits_value_after 10 n ds) ceiling)
    (capped_step number (digit_value d) ceiling)
    ∙ capped_through ceiling (number * 10 + digit_value d) ds

-- the first so many of two lists in a row, and what is after them
abbrev IsCut : (n k : ℕ) (xs ys : List ℕ) → Type 0
IsCut n k xs ys = (take n (xs ++ ys) ≡ take k xs ++ take (n - k) ys)
    × (drop n (xs ++ ys) ≡ drop k xs ++ drop (n - k) ys)

cut : (n : ℕ) (xs ys : List ℕ) → IsCut n (min n (length xs)) xs ys
cut n xs ys = at (cases_lt n (length xs)) where
  at : (n < length xs) ⊎ (length xs ≤ n) → IsCut n (min n (length xs)) xs ys
  at (inl less) =
      let within : n ≤ length xs = omega arith in
      let first : n ≡ min n (length xs) = omega arith in
      let none : 0 ≡ n - min n (length xs) = omega arith in (
        take-append-le n xs ys within ∙ sym (append-nil (take n xs))
            ∙ (λ i. take (first i) xs ++ take (none i) ys),
        drop-append-le n xs ys within ∙ (λ i. drop (first i) xs ++ drop (none i) ys),
      )
  at (inr past) =
      let sum : n ≡ length xs + (n - min n (length xs)) = omega arith in
      let first : length xs ≡ min n (length xs) = omega arith in (
        ap (λ k. take k (xs ++ ys)) sum ∙ take-append-add xs ys (n - min n (length xs))
            ∙ ap (λ zs. zs ++ take (n - min n (length xs)) ys)
            (sym (take-length xs) ∙ ap (λ k. take k xs) first),
        ap (λ k. drop k (xs ++ ys)) sum ∙ drop-append-add xs ys (n - min n (length xs))
            ∙ ap (λ zs. zs ++ drop (n - min n (length xs)) ys)
            (sym (drop-length xs) ∙ ap (λ k. drop k xs) first),
      )

-- the number that the first so many digits of two lists write, kept at a ceiling
pub kept_value : (whole fraction : List ℕ) (kept ceiling first second : ℕ)
    → first ≡ min (digits_value 10 (take (min kept (length whole)) whole)) ceiling → second
    ≡ min (digits_value_after 10 first (take (kept - min kept (length whole)) fraction)) ceiling
    → second ≡ min (digits_value 10 (take kept (whole ++ fraction))) ceiling
kept_value whole fraction kept ceiling first second first_is second_is =
    let prefix = take (min kept (length whole)) whole in
    let back = take (kept - min kept (length whole)) fraction in
    second_is
    ∙ ap (λ n. min (digits_value_after 10 n back) ceiling) first_is
    ∙ capped_through ceiling (digits_value 10 prefix) back
    ∙ ap (λ n. min n ceiling) (sym (digits_value_after-append 0 prefix back))
    ∙ ap (λ ds. min (digits_value 10 ds) ceiling) (sym (cut kept whole fraction).0)

-- whether what is after the first so many digits of two lists passes a test
pub rest_passes : (p : ℕ → Bool) (whole fraction : List ℕ) (kept : ℕ)
    → (list_all p (drop (min kept (length whole)) whole)
    && list_all p (drop (kept - min kept (length whole)) fraction))
    ≡ list_all p (drop kept (whole ++ fraction))
rest_passes p whole fraction kept =
    sym (list_all-append p (drop (min kept (length whole)) whole)
    (drop (kept - min kept (length whole)) fraction))
    ∙ ap (λ ds. list_all p ds) (sym (cut kept whole fraction).1)

-- digits stay digits in a part and after one another
pub digits_of_take : (n : ℕ) (ds : List ℕ) → AllDigits 10 ds → AllDigits 10 (take n ds)
digits_of_take zero ds digits = tt
digits_of_take (suc n) [] digits = tt
digits_of_take (suc n) (d ∷ ds) digits = (digits.0, digits_of_take n ds digits.1)

pub digits_of_drop : (n : ℕ) (ds : List ℕ) → AllDigits 10 ds → AllDigits 10 (drop n ds)
digits_of_drop zero ds digits = digits
digits_of_drop (suc n) [] digits = tt
digits_of_drop (suc n) (d ∷ ds) digits = digits_of_drop n ds digits.1

pub digits_of_append : (xs ys : List ℕ) → AllDigits 10 xs → AllDigits 10 ys
    → AllDigits 10 (xs ++ ys)
digits_of_append [] ys first second = second
digits_of_append (x ∷ xs) ys first second = (first.0, digits_of_append xs ys first.1 second)

-- ---- powers of ten

-- a number kept at a ceiling, one place further
pub raised_step : (number size place ceiling : ℕ) → size ≡ min (number * 10 ^ place) ceiling
    → min (size * 10) ceiling ≡ min (number * 10 ^ (place + 1)) ceiling
raised_step number size place ceiling is =
    let more : number * 10 ^ (place + 1) ≡ number * 10 ^ place * 10 =
    rw (add-one, pow-suc) (sym (mul_assoc number (10 ^ place) 10)) in
    omega arith

-- sixteen places take any number but 0 past the ceiling
pub raised_enough : (number places ceiling : ℕ) → ceiling ≤ 10 ^ 16
    → min (number * 10 ^ min places 16) ceiling ≡ min (number * 10 ^ places) ceiling
raised_enough number places ceiling low = at (cases_lt places 16) (cases_lt 0 number) where
  at : (places < 16) ⊎ (16 ≤ places) → (0 < number) ⊎ (number ≤ 0)
      → min (number * 10 ^ min places 16) ceiling ≡ min (number * 10 ^ places) ceiling
  at (inl few) some =
      let same : min places 16 ≡ places = omega arith in
      ap (λ k. min (number * 10 ^ k) ceiling) same
  at (inr many) (inl some) =
      let same : min places 16 ≡ 16 = omega arith in
      let grown : 10 ^ 16 ≤ 10 ^ places = pow-le-pow_right (lit< tt) many in
      let first : 1 * 10 ^ 16 ≤ number * 10 ^ 16 = mul-le-mul_right (10 ^ 16) some in
      let second : 1 * 10 ^ places ≤ number * 10 ^ places = mul-le-mul_right (10 ^ places) some in
      ap (λ k. min (number * 10 ^ k) ceiling) same ∙ omega arith
  at (inr many) (inr none) =
      let zero : number ≡ 0 = omega arith in
      ap (λ n. min (n * 10 ^ min places 16) ceiling) zero
      ∙ (λ i. min ((zero-mul (10 ^ min places 16) ∙ sym (zero-mul (10 ^ places))) i) ceiling)
      ∙ ap (λ n. min (n * 10 ^ places) ceiling) (sym zero)
