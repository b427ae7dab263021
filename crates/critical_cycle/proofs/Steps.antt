-- How many fractions of small denominators are left below the greatest: fewer after each raise.
use Rattle.critical_cycle.proofs.Vocabulary.{ℕ, suc, ◌≡◌, ◌<◌, ◌≤◌, ◌+◌, ◌*◌, ◌/◌, ℤ, pos, negsuc, ◌-ℤ◌, ◌*ℤ◌, ◌≤ℤ◌, ◌<ℤ◌, ap, arith, ⊎_elim, nat_abs, mul-le-mul_left, div-mul-le_self, cases_lt, ints, le-div, mul-le, steps_below, up, down}
use Rattle.cts_model.proofs.ScaleLemmas.{size_same}

-- a lower fraction has fewer steps where the steps are as many as both denominators allow
fewer_steps : (steps den size x y : ℕ) → 1 ≤ size → den * size ≤ steps → 1 ≤ den
    → den * x + 1 ≤ size * y → (steps * x) / size < (steps * y) / den
fewer_steps steps den size x y some apart some_den step =
    let taken = (steps * x) / size in
    let floor = div-mul-le_self (steps * x) size in
    le-div (suc taken) (steps * y) den (omega arith)
    (⊎_elim (λ short. absurd (crossed steps den size x y taken some apart step floor short))
    (λ enough. enough) (cases_lt (steps * y) (suc taken * den)))
  where
    crossed : (steps den size x y taken : ℕ) → 1 ≤ size → den * size ≤ steps
        → den * x + 1 ≤ size * y → taken * size ≤ steps * x → steps * y < suc taken * den → ⊥
    crossed steps den size x y taken some apart step floor short = omega (
      arith,
      mul-le-mul_left steps step,
      mul-le-mul_left den floor,
      mul-le-mul_left size short,
    )

-- what is left below the greatest, times the other denominator
lower : (most num more : ℤ) (den size x y : ℕ) → pos x ≡ (most *ℤ pos size) -ℤ more → pos y
    ≡ (most *ℤ pos den) -ℤ num → (num *ℤ pos size) <ℤ (more *ℤ pos den) → den * x + 1 ≤ size * y
lower most num more den size x y over under less =
    let first : x + up more + size * down most ≡ down more + size * up most = omega (arith, ints) in
    let second : y + up num + den * down most ≡ down num + den * up most = omega (arith, ints) in
    omega (arith, ints, ap (λ n. den * n) first, ap (λ n. size * n) second)

-- a fraction that is no greater than the greatest number
none_below : (most num : ℤ) (den : ℕ) → 1 ≤ den → pos 0 ≤ℤ most → num ≤ℤ most
    → pos 0 ≤ℤ ((most *ℤ pos den) -ℤ num)
none_below (pos most) num den some from_zero high = omega (arith, ints, mul-le-mul_left most some)
none_below (negsuc most) num den some from_zero high = absurd (omega (arith, ints))

-- so there are fewer steps below the greater of two ratios
pub steps_below-less : (most num den more size : ℤ) → pos 0
    ≤ℤ most → pos 1 ≤ℤ den → den ≤ℤ pos 4097 → pos 1 ≤ℤ size → size ≤ℤ pos 4097 → num ≤ℤ most → more
    ≤ℤ most → (num *ℤ size) <ℤ (more *ℤ den) → steps_below most more size < steps_below most num den
steps_below-less most num (pos den) more (pos size) from_zero some low some_size low_size high
    higher above =
    let small : den ≤ 4097 = omega (arith, ints) in
    let next_small : size ≤ 4097 = omega (arith, ints) in
    let over = size_same ((most *ℤ pos size) -ℤ more)
    (none_below most more size (omega (arith, ints)) from_zero higher) in
    let under = size_same ((most *ℤ pos den) -ℤ num)
    (none_below most num den (omega (arith, ints)) from_zero high) in
    fewer_steps (4097 * 4097) den size (nat_abs ((most *ℤ pos size) -ℤ more))
    (nat_abs ((most *ℤ pos den) -ℤ num)) (omega (arith, ints)) (mul-le den size 4097
    4097 small next_small) (omega (arith, ints)) (lower most num more den size _ _ over under above)
steps_below-less most num (negsuc den) more size from_zero some low some_size low_size high higher
    above =
    absurd (omega (arith, ints))
steps_below-less most num (pos den) more (negsuc size) from_zero some low some_size low_size high
    higher above =
    absurd (omega (arith, ints))
