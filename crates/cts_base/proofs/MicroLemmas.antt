-- The size of a decimal number in millionths: what is kept of its digits, and how far that is
-- raised.
use Rattle.cts_base.proofs.Vocabulary.{◌≡◌, ℕ, suc, ◌+◌, ◌*◌, ◌-◌, ◌^◌, ◌<◌, ◌≤◌, min, ◌⊎◌, inl, inr, lit<, Bool, true, false, cond, ◌&&◌, List, [], ◌∷◌, length, take, drop, refl, sym, ap, subst, ◌∙◌, arith, one-le-pow, pow-le-pow_right, mul-le-mul_left, mul-le-mul_right, mul_assoc, mul_comm, pow-suc, add-mul, zero-mul, eq_of_mul-eq-mul_right, cases_lt, nat_tests, take-append-drop, digit_value_digit, digit_from_value, digit_value, list_all, AllDigits, digits_value, digits_value_after, is_zero, and_parts}
use Rattle.std.proofs.lemmas.Nat.{pow-add}
use Rattle.cts_base.proofs.ScaleLemmas.{digits_value_after-append, raised_enough}

-- ---- digits by their places

-- a number before digits stands for itself, as many places further left
digits_value_after-split : (n : ℕ) (ds : List ℕ)
    → digits_value_after 10 n ds ≡ n * 10 ^ length ds + digits_value 10 ds
digits_value_after-split n [] = omega arith
digits_value_after-split n (d ∷ ds) =
    let power = 10 ^ length ds in
    let here = digits_value_after-split (n * 10 + digit_value d) ds in
    let alone = digits_value_after-split (0 * 10 + digit_value d) ds in
    let apart = add-mul (n * 10) (digit_value d) power in
    let moved : n * 10 * power ≡ n * 10 ^ suc (length ds) =
    mul_assoc n 10 power ∙ ap (λ p. n * p) (mul_comm 10 power ∙ sym (pow-suc 10 (length ds))) in
    let nothing = add-mul (0 * 10) (digit_value d) power in
    omega (arith, here, alone, apart, moved, nothing)

-- digits are those that are kept, moved to the left, and those after
pub digits_value-split : (kept : ℕ) (ds : List ℕ)
    → digits_value 10 ds
    ≡ digits_value 10 (take kept ds) * 10 ^ length (drop kept ds) + digits_value 10 (drop kept ds)
digits_value-split kept ds =
    ap (λ s. digits_value 10 s) (sym (take-append-drop kept ds))
    ∙ digits_value_after-append 0 (take kept ds) (drop kept ds)
    ∙ digits_value_after-split (digits_value 10 (take kept ds)) (drop kept ds)

-- digits that are all 0 write 0
pub zeros_value : (ds : List ℕ) → list_all is_zero ds ≡ true → digits_value 10 ds ≡ 0
zeros_value [] is = refl
zeros_value (d ∷ ds) is =
    let parts = and_parts (is_zero d) (list_all is_zero ds) is in
    let zero : d ≡ 48 = grind (arith, nat_tests, parts.0) in
    ap (λ c. digits_value_after 10 (0 * 10 + digit_value c) ds) zero ∙ zeros_value ds parts.1

-- the first digit and the others
digits_value-cons : (d : ℕ) (ds : List ℕ)
    → digits_value 10 (d ∷ ds) ≡ digit_value d * 10 ^ length ds + digits_value 10 ds
digits_value-cons d ds =
    let first : 0 * 10 + digit_value d ≡ digit_value d = omega arith in
    ap (λ n. digits_value_after 10 n ds) first ∙ digits_value_after-split (digit_value d) ds

-- and others write more
pub others_value : (ds : List ℕ) → AllDigits 10 ds → list_all is_zero ds ≡ false
    → 0 < digits_value 10 ds
others_value [] digits is = cc
others_value (d ∷ ds) digits is = at (is_zero d) refl (others_value ds digits.1) where
  at : (zero : Bool) → is_zero d ≡ zero → (list_all is_zero ds ≡ false → 0 < digits_value 10 ds)
      → 0 < digits_value 10 (d ∷ ds)
  at true known rest =
      let others : 0 < digits_value 10 ds =
      rest (sym (ap (λ b. b && list_all is_zero ds) known) ∙ is) in
      omega (arith, digits_value-cons d ds)
  at false known rest =
      let range = digit_from_value d digits.0 in
      let other : d ≡ 48 → ⊥ = λ same. absurd (grind (arith, nat_tests, known)) in
      let least : 1 ≤ digit_value d = grind (arith, digit_value_digit d range, other, range) in
      let power : 1 ≤ 10 ^ length ds = one-le-pow (length ds) 10 (lit< tt) in
      let grown : 1 * 10 ^ length ds ≤ digit_value d * 10 ^ length ds =
      mul-le-mul_right (10 ^ length ds) least in
      omega (arith, digits_value-cons d ds, grown, power)

-- ---- the place of the millionths

-- what is kept, raised so far, has the value that the digits have by their exponent
pub record IsAligned (suffix raise lowered raised : ℕ) : Type 0 where
  pub sum : raise + lowered ≡ suffix + (raised + 6)
  pub tight : (raise ≡ 0) ⊎ (suffix ≡ 0)

-- the millionths are left of all digits
pub record IsLeft (kept suffix raise lowered raised : ℕ) : Type 0 where
  pub none : kept ≡ 0
  pub flat : raise ≡ 0
  pub far : suffix + (raised + 6) ≤ lowered

-- how many digits, and zeros after them, make the millionths
abbrev pub places_of : (minus : Bool) (whole exponent : ℕ) → ℕ
places_of minus whole exponent = cond minus (whole + 6 - exponent) (whole + 6 + exponent)

-- a large exponent may be cut
pub kept_cut : (minus : Bool) (whole fraction exponent : ℕ) → whole + fraction < 2 ^ 64
    → min (places_of minus whole (min exponent 1267650600228229401496703205376)) (whole + fraction)
    ≡ min (places_of minus whole exponent) (whole + fraction)
kept_cut true whole fraction exponent short = omega arith
kept_cut false whole fraction exponent short = omega arith

pub raise_cut : (minus : Bool) (whole fraction exponent : ℕ) → whole + fraction < 2 ^ 64
    → min (places_of minus whole (min exponent 1267650600228229401496703205376)
    - min (places_of minus whole exponent) (whole + fraction)) 16
    ≡ min (places_of minus whole exponent - min (places_of minus whole exponent) (whole + fraction))
    16
raise_cut true whole fraction exponent short = omega arith
raise_cut false whole fraction exponent short = omega arith

-- the two shapes
pub shape : (minus : Bool) (whole fraction exponent kept suffix raise lowered raised : ℕ)
    → kept ≡ min (places_of minus whole exponent) (whole + fraction)
    → suffix ≡ whole + fraction - kept → raise ≡ places_of minus whole exponent - kept
    → lowered ≡ fraction + cond minus exponent 0 → raised ≡ cond minus 0 exponent
    → IsAligned suffix raise lowered raised ⊎ IsLeft kept suffix raise lowered raised
shape true whole fraction exponent kept suffix raise lowered raised kept_is after_is raise_is
    lowered_is raised_is = at (cases_lt (whole + 6) exponent) (cases_lt kept (whole + fraction))
  where
    at : (whole + 6 < exponent) ⊎ (exponent ≤ whole + 6)
        → (kept < whole + fraction) ⊎ (whole + fraction ≤ kept)
        → IsAligned suffix raise lowered raised ⊎ IsLeft kept suffix raise lowered raised
    at (inl past) part = inr (record { none = omega arith; flat = omega arith; far = omega arith })
    at (inr within) (inl part) = inl (record { sum = omega arith; tight = inl (omega arith) })
    at (inr within) (inr all) = inl (record { sum = omega arith; tight = inr (omega arith) })
shape false whole fraction exponent kept suffix raise lowered raised kept_is after_is raise_is
    lowered_is raised_is = at (cases_lt kept (whole + fraction))
  where
    at : (kept < whole + fraction) ⊎ (whole + fraction ≤ kept)
        → IsAligned suffix raise lowered raised ⊎ IsLeft kept suffix raise lowered raised
    at (inl part) = inl (record { sum = omega arith; tight = inl (omega arith) })
    at (inr all) = inl (record { sum = omega arith; tight = inr (omega arith) })

-- ---- the size

-- what is kept, raised, is the value where the shift is the same
aligned : (number raise lowered suffix raised : ℕ) → raise + lowered ≡ suffix + raised
    → number * 10 ^ raise * 10 ^ lowered ≡ number * 10 ^ suffix * 10 ^ raised
aligned number raise lowered suffix raised same =
    mul_assoc number (10 ^ raise) (10 ^ lowered)
    ∙ ap (λ p. number * p) (sym (pow-add 10 raise lowered))
    ∙ ap (λ k. number * 10 ^ k) same
    ∙ ap (λ p. number * p) (pow-add 10 suffix raised)
    ∙ sym (mul_assoc number (10 ^ suffix) (10 ^ raised))

-- six places are the power of six
six_places : (digits raised : ℕ) → digits * 10 ^ (raised + 6) ≡ digits * 10 ^ raised * 10 ^ 6
six_places digits raised =
    ap (λ p. digits * p) (pow-add 10 raised 6) ∙ sym (mul_assoc digits (10 ^ raised) (10 ^ 6))

-- where only zeros are after what is kept, it is the size
pub size_is : (kept prefix rest digits suffix raise lowered raised : ℕ) → (kept ≡ 0 → prefix ≡ 0)
    → digits ≡ prefix * 10 ^ suffix + rest → rest ≡ 0
    → IsAligned suffix raise lowered raised ⊎ IsLeft kept suffix raise lowered raised
    → prefix * 10 ^ raise * 10 ^ lowered ≡ digits * 10 ^ raised * 10 ^ 6
size_is kept prefix rest digits suffix raise lowered raised empty split zero (inl fits) =
    let whole : prefix * 10 ^ suffix ≡ digits = omega arith in
    aligned prefix raise lowered suffix (raised + 6) fits.sum
    ∙ ap (λ n. n * 10 ^ (raised + 6)) whole ∙ six_places digits raised
size_is kept prefix rest digits suffix raise lowered raised empty split zero (inr left) =
    let nothing : prefix ≡ 0 = empty left.none in
    let none : prefix * 10 ^ suffix ≡ 0 =
    ap (λ n. n * 10 ^ suffix) nothing ∙ zero-mul (10 ^ suffix) in
    let digits_none : digits ≡ 0 = omega arith in
    ap (λ n. n * 10 ^ raise * 10 ^ lowered) nothing
    ∙ ap (λ n. n * 10 ^ lowered) (zero-mul (10 ^ raise))
    ∙ zero-mul (10 ^ lowered)
    ∙ sym (ap (λ n. n * 10 ^ raised * 10 ^ 6) digits_none
    ∙ ap (λ n. n * 10 ^ 6) (zero-mul (10 ^ raised)) ∙ zero-mul (10 ^ 6))

-- a common power of ten goes out
cancel : (size shift raised digits lowered : ℕ) → lowered ≡ shift + (raised + 6)
    → size * 10 ^ lowered ≡ digits * 10 ^ raised * 10 ^ 6 → size * 10 ^ shift ≡ digits
cancel size shift raised digits lowered sum same =
    eq_of_mul-eq-mul_right (10 ^ (raised + 6)) (one-le-pow (raised + 6) 10 (lit< tt))
    (size * 10 ^ shift) digits (mul_assoc size (10 ^ shift) (10 ^ (raised + 6))
    ∙ ap (λ p. size * p) (sym (pow-add 10 shift (raised + 6)))
    ∙ ap (λ k. size * 10 ^ k) (sym sum)
    ∙ same
    ∙ sym (six_places digits raised))

-- no multiple of a power is between two neighbours
between_multiples : (size prefix rest power : ℕ) → size * power ≡ prefix * power + rest
    → rest < power → 0 < rest → ⊥
between_multiples size prefix rest power same below above = at (cases_lt prefix size) where
  at : (prefix < size) ⊎ (size ≤ prefix) → ⊥
  at (inl less) =
      let next : (prefix + 1) * power ≤ size * power = mul-le-mul_right power (omega arith) in
      let more = add-mul prefix 1 power in
      absurd (omega arith)
  at (inr least) =
      let most : size * power ≤ prefix * power = mul-le-mul_right power least in
      absurd (omega arith)

-- where more than zeros are after what is kept, no size is the value
pub no_size : (kept prefix rest digits suffix raise lowered raised size : ℕ)
    → (kept ≡ 0 → prefix ≡ 0) → digits ≡ prefix * 10 ^ suffix + rest → rest < 10 ^ suffix → 0 < rest
    → IsAligned suffix raise lowered raised ⊎ IsLeft kept suffix raise lowered raised
    → size * 10 ^ lowered ≡ digits * 10 ^ raised * 10 ^ 6 → ⊥
no_size kept prefix rest digits suffix raise lowered raised size empty split below above
    (inl fits) same = at fits.tight
  where
    at : (raise ≡ 0) ⊎ (suffix ≡ 0) → ⊥
    at (inl flat) = between_multiples size prefix rest (10 ^ suffix)
        (cancel size suffix raised digits lowered (omega (arith, fits.sum)) same ∙ split)
        below above
    at (inr none) =
        let one : rest < 10 ^ 0 = subst (λ k. rest < 10 ^ k) none below in absurd (omega arith)
no_size kept prefix rest digits suffix raise lowered raised size empty split below above
    (inr left) same =
    let shift = lowered - (raised + 6) in
    let sum : lowered ≡ shift + (raised + 6) = omega (arith, left.far) in
    let longer : suffix ≤ shift = omega (arith, left.far) in
    let nothing : prefix ≡ 0 = empty left.none in
    let none : prefix * 10 ^ suffix ≡ 0 =
    ap (λ n. n * 10 ^ suffix) nothing ∙ zero-mul (10 ^ suffix) in
    let power : 10 ^ suffix ≤ 10 ^ shift = pow-le-pow_right (lit< tt) longer in
    let zero_more : size * 10 ^ shift ≡ 0 * 10 ^ shift + rest =
    cancel size shift raised digits lowered sum same ∙ (omega (arith, zero-mul (10 ^ shift))) in
    between_multiples size 0 rest (10 ^ shift) zero_more (omega arith) above

-- ---- the ceiling

-- a number kept at a ceiling is raised as the number itself is
capped_power : (number places ceiling : ℕ)
    → min (min number ceiling * 10 ^ places) ceiling ≡ min (number * 10 ^ places) ceiling
capped_power number places ceiling = at (cases_lt number ceiling) where
  at : (number < ceiling) ⊎ (ceiling ≤ number)
      → min (min number ceiling * 10 ^ places) ceiling ≡ min (number * 10 ^ places) ceiling
  at (inl less) =
      let same : min number ceiling ≡ number = omega arith in
      ap (λ n. min (n * 10 ^ places) ceiling) same
  at (inr past) =
      let same : min number ceiling ≡ ceiling = omega arith in
      let power : 1 ≤ 10 ^ places = one-le-pow places 10 (lit< tt) in
      let first : ceiling * 1 ≤ ceiling * 10 ^ places = mul-le-mul_left ceiling power in
      let second : number * 1 ≤ number * 10 ^ places = mul-le-mul_left number power in
      ap (λ n. min (n * 10 ^ places) ceiling) same ∙ omega arith

-- what is raised by places that were cut
pub raised_cut : (number places raise ceiling : ℕ) → ceiling ≤ 10 ^ 16
    → min places 16 ≡ min raise 16
    → min (min number ceiling * 10 ^ places) ceiling ≡ min (number * 10 ^ raise) ceiling
raised_cut number places raise ceiling low same =
    capped_power number places ceiling
    ∙ sym (raised_enough number places ceiling low)
    ∙ ap (λ k. min (number * 10 ^ k) ceiling) same
    ∙ raised_enough number raise ceiling low
