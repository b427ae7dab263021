-- Products of signed numbers.
use Rattle.critical_cycle.proofs.Vocabulary.{◌≡◌, ◌+◌, ◌*◌, ℤ, pos, ◌-ℤ◌, ◌*ℤ◌, ap, arith, ints, up, down}

-- a factor goes into a difference
pub times-sub : (a b c : ℤ) → a *ℤ (b -ℤ c) ≡ (a *ℤ b) -ℤ (a *ℤ c)
times-sub a b c =
    let plain : up (b -ℤ c) + down b + up c ≡ down (b -ℤ c) + up b + down c = omega (arith, ints) in
    omega (arith, ints, ap (λ n. up a * n) plain, ap (λ n. down a * n) plain)

-- two factors after one another
pub times_times : (a b c : ℤ) → (a *ℤ b) *ℤ c ≡ a *ℤ (b *ℤ c)
times_times a b c =
    let first : up (a *ℤ b) + up a * down b + down a * up b
    ≡ down (a *ℤ b) + up a * up b + down a * down b = omega (arith, ints) in
    let second : up (b *ℤ c) + up b * down c + down b * up c
    ≡ down (b *ℤ c) + up b * up c + down b * down c = omega (arith, ints) in
    omega (
      arith,
      ints,
      ap (λ n. up c * n) first,
      ap (λ n. down c * n) first,
      ap (λ n. up a * n) second,
      ap (λ n. down a * n) second,
    )

-- a number once
pub once : (a : ℤ) → a *ℤ pos 1 ≡ a
once a = omega (arith, ints)

-- and not at all
pub never : (a : ℤ) → a *ℤ pos 0 ≡ pos 0
never a = omega (arith, ints)
