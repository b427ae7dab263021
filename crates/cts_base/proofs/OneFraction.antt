-- A fraction in lowest terms is determined by its value: Euclid's steps on both fractions at once.
use Rattle.cts_base.proofs.Vocabulary.{◌≡◌, ℕ, zero, suc, ◌+◌, ◌-◌, ◌*◌, ◌<◌, ◌≤◌, ℤ, pos, negsuc, ◌*ℤ◌, inl, inr, refl, sym, ap, ◌∙◌, subst, arith, one-dvd, dvd-sub_iff_left, cases_lt, ints, IsGcd-swap, IsGcd-from_zero, same_from_IsGcd, IsGcd, IsLowest}

-- a step of Euclid's algorithm leaves coprime numbers coprime
gcd_less : (a b : ℕ) → b ≤ a → IsGcd a b 1 → IsGcd (a - b) b 1
gcd_less a b less greatest = (
  one-dvd (a - b),
  one-dvd b,
  λ d prefix back. greatest.2 d ((dvd-sub_iff_left d less back).0 prefix) back,
)

-- a value that isn't below 1 isn't so in other terms
no_less : (b more d less : ℕ) → 0 < b → (b + more) * (d + 1 + less) ≡ d * b → ⊥
no_less b more d less some same = grind arith

-- where one value isn't below 1, neither is the other
at_least : (a b c d : ℕ) → b ≤ a → 0 < b → a * d ≡ c * b → d ≤ c
at_least a b c d more some same = elim (cases_lt c d) [
  | inl less ↦
      let prefix : b + (a - b) ≡ a = omega arith in
      let back : c + 1 + (d - c - 1) ≡ d = omega arith in
      absurd (no_less b (a - b) c (d - c - 1) some (rw (prefix, back) same))
  | inr not_less ↦ omega arith
]

-- both values less 1 are one value
cross_less : (b more d rest : ℕ) → (b + more) * d ≡ (d + rest) * b → more * d ≡ rest * b
cross_less b more d rest same = grind arith

-- where one numerator is above 0, so is the other
pub some_factor : (a b c d : ℕ) → 0 < a → 0 < d → a * d ≡ c * b → 0 < c
some_factor a b (suc c) d some some_d same = omega arith
some_factor (suc a) b zero (suc d) some some_d same = absurd (grind arith)
some_factor zero b zero d some some_d same = some
some_factor (suc a) b zero zero some some_d same = some_d

-- a / b and c / d are one number, both in lowest terms
record AreOneNumber (a b c d : ℕ) : Type 0 where
  some_b : 0 < b
  some_d : 0 < d
  same : a * d ≡ c * b
  lowest : IsGcd a b 1
  lowest' : IsGcd c d 1

-- one step of Euclid's algorithm on both
less_by_one : (a b c d : ℕ) → b ≤ a → AreOneNumber a b c d
    → AreOneNumber (a - b) b (c - d) d × (d ≤ c)
less_by_one a b c d more are =
    let more' = at_least a b c d more are.some_b are.same in
    let prefix : b + (a - b) ≡ a = omega arith in
    let back : d + (c - d) ≡ c = omega arith in (
      record {
        some_b = are.some_b;
        some_d = are.some_d;
        same = cross_less b (a - b) d (c - d) (rw (prefix, back) are.same);
        lowest = gcd_less a b more are.lowest;
        lowest' = gcd_less c d more' are.lowest';
      },
      more',
    )

-- the inverses of both are one number too
rotated : (a b c d : ℕ) → 0 < a → AreOneNumber a b c d → AreOneNumber b a d c
rotated a b c d some are = record {
  some_b = some;
  some_d = some_factor a b c d some are.some_d are.same;
  same = let same = are.same in grind arith;
  lowest = IsGcd-swap a b 1 are.lowest;
  lowest' = IsGcd-swap c d 1 are.lowest';
}

-- 0 in lowest terms is 0 / 1
zero_lowest : (b : ℕ) → IsGcd 0 b 1 → b ≡ 1
zero_lowest b lowest =
    same_from_IsGcd 0 b b 1 (IsGcd-swap b 0 b (IsGcd-from_zero b 0 refl)) lowest

-- where one numerator is 0, so is the other
zero_other : (b c d : ℕ) → 0 < b → 0 * d ≡ c * b → c ≡ 0
zero_other b zero d some same = refl
zero_other (suc b) (suc c) d some same = absurd (grind arith)
zero_other zero (suc c) d some same = absurd (omega arith)

-- two numbers in lowest terms of one value are the same, by so many steps
one_lowest : (fuel a b c d : ℕ) → a + b ≤ fuel → AreOneNumber a b c d → (a ≡ c) × (b ≡ d)
one_lowest zero a b c d within are = let some = are.some_b in absurd (omega arith)
one_lowest (suc fuel) zero b c d within are =
    let none : c ≡ 0 = zero_other b c d are.some_b are.same in (
      sym none,
      zero_lowest b are.lowest ∙ sym (zero_lowest d (subst (λ n. IsGcd n d 1) none are.lowest')),
    )
one_lowest (suc fuel) (suc a) b c d within are = elim (cases_lt (suc a) b) [
  | inl less ↦
      let (rest, more) = less_by_one b (suc a) d c (omega arith)
      (rotated (suc a) b c d (omega arith) are) in
      let (back, prefix) = one_lowest fuel (b - suc a) (suc a) (d - c) c (omega arith) rest in
      (prefix, omega arith)
  | inr not_less ↦
      let some = are.some_b in
      let (rest, more) = less_by_one (suc a) b c d (omega arith) are in
      let (prefix, back) = one_lowest fuel (suc a - b) b (c - d) d (omega arith) rest in
      (omega arith, back)
]

-- two numbers in lowest terms of one value are the same
one_size : (a b c d : ℕ) → 0 < b → 0 < d → a * d ≡ c * b → IsGcd a b 1 → IsGcd c d 1
    → (a ≡ c) × (b ≡ d)
one_size a b c d some_b some_d same lowest lowest' =
    let are : AreOneNumber a b c d = record {
      some_b = some_b;
      some_d = some_d;
      same = same;
      lowest = lowest;
      lowest' = lowest';
    } in
    one_lowest (a + b) a b c d (omega arith) are

-- a number below 0 has no value of 0 or more
pub other_sign : (a d c b : ℕ) → 0 < b → pos a *ℤ pos d ≡ negsuc c *ℤ pos b → ⊥
other_sign a d c (suc b) some same = omega (arith, ints)
other_sign a d c zero some same = omega arith

-- a fraction in lowest terms is determined by its value
pub one_fraction : (num den num' den' : ℤ) → IsLowest num den → IsLowest num' den'
    → num *ℤ den' ≡ num' *ℤ den → (num ≡ num') × (den ≡ den')
one_fraction (pos a) (pos b) (pos c) (pos d) lowest lowest' same =
    let some = lowest.some_den in
    let some' = lowest'.some_den in
    let both = one_size a b c d (omega (arith, ints)) (omega (arith, ints)) (omega (arith, ints))
    lowest.coprime lowest'.coprime in
    (ap pos both.0, ap pos both.1)
one_fraction (negsuc a) (pos b) (negsuc c) (pos d) lowest lowest' same =
    let some = lowest.some_den in
    let some' = lowest'.some_den in
    let both = one_size (suc a) b (suc c) d (omega (arith, ints)) (omega (arith, ints))
    (omega (arith, ints)) lowest.coprime lowest'.coprime in
    (omega (arith, ints, both.0), ap pos both.1)
one_fraction (pos a) (pos b) (negsuc c) (pos d) lowest lowest' same =
    let some = lowest.some_den in absurd (other_sign a d c b (omega (arith, ints)) same)
one_fraction (negsuc a) (pos b) (pos c) (pos d) lowest lowest' same =
    let some' = lowest'.some_den in absurd (other_sign c b a d (omega (arith, ints)) (sym same))
one_fraction num (negsuc b) num' den' lowest lowest' same =
    let some = lowest.some_den in absurd (omega (arith, ints))
one_fraction num den num' (negsuc d) lowest lowest' same =
    let some' = lowest'.some_den in absurd (omega (arith, ints))
