-- How large gains are, and that the code's numbers are the same.
use Rattle.relaxation.proofs.Vocabulary.{◌≡◌, ◌≤◌, ◌+◌, ◌*◌, ◌^◌, ◌∙◌, Bool, true, false, if◌then◌else◌, ℕ, ℤ, pos, negsuc, ◌-ℤ◌, ◌*ℤ◌, neg_ℤ, ◌≤ℤ◌, FitsSigned, sym, subst, ap, refl, arith, ints, to_z-of_z, unsigned_abs-mul, fits_signed_mul, w128, unsigned_abs, Constraint, IsBelow, Gains, gain_of}
use Rattle.std.proofs.lemmas.Nat.{mul-le}
use mir.Val.{to_z, of_z}

-- a number as the code keeps it
abbrev pub kept : ℤ → ℤ
kept number = to_z w128 (of_z w128 number)

-- the size of a number that lies within
pub size_within : (size : ℕ) (number : ℤ) → neg_ℤ (pos size) ≤ℤ number → number ≤ℤ pos size
    → unsigned_abs number ≤ size
size_within size (pos n) low high = omega (arith, ints)
size_within size (negsuc n) low high = omega (arith, ints)

-- what is smaller than a bound lies below it
pub below_size : (size bound : ℕ) (number : ℤ) → unsigned_abs number ≤ size → size + 1 ≤ bound
    → IsBelow bound number
below_size size bound (pos n) small low =
    record { above = omega (arith, ints); below = omega (arith, ints) }
below_size size bound (negsuc n) small low =
    record { above = omega (arith, ints); below = omega (arith, ints) }

-- the code's product
pub product_read : (a b : ℤ) → FitsSigned w128 a → FitsSigned w128 b → kept a *ℤ kept b ≡ a *ℤ b
product_read a b first second =
    ap (λ z. z *ℤ kept b) (to_z-of_z w128 a first) ∙ ap (λ z. a *ℤ z) (to_z-of_z w128 b second)

-- the product of a value with a scale fits
pub scaled_fits : (value scale : ℤ) → IsBelow (2 ^ 88) value → pos 1 ≤ℤ scale
    → scale ≤ℤ pos (4097 * 10 ^ 8) → FitsSigned w128 (kept value *ℤ kept scale)
scaled_fits value scale small some fine =
    let first : FitsSigned w128 value = omega (arith, ints, small.above, small.below) in
    let second : FitsSigned w128 scale = omega (arith, ints) in
    let size : unsigned_abs value ≤ 2 ^ 88 = size_within
    (2 ^ 88) value (omega (arith, ints, small.above)) (omega (arith, ints, small.below)) in
    let fits : FitsSigned w128 (value *ℤ scale) = fits_signed_mul w128 value scale (2 ^ 88)
    409700000000 size (size_within 409700000000 scale (omega (arith, ints)) fine) (omega arith) in
    subst (FitsSigned w128) (sym (product_read value scale first second)) fits

module _ (gains : Gains) (weight : ℤ) (small : IsBelow (10 ^ 11) weight) where
  -- the scale's size
  scale_size : unsigned_abs gains.scale ≤ 409700000000
  scale_size = size_within 409700000000 gains.scale (omega (arith, ints, gains.valid.some))
      gains.valid.fine

  -- the weight's
  weight_size : unsigned_abs weight ≤ 100000000000
  weight_size = size_within 100000000000 weight (omega (arith, ints, small.above))
      (omega (arith, ints, small.below))

  -- the product of the two is small
  asked_small : IsBelow (2 ^ 76) (gains.scale *ℤ weight)
  asked_small = below_size 40970000000000000000000 (2 ^ 76) (gains.scale *ℤ weight) (omega (
    arith,
    unsigned_abs-mul gains.scale weight,
    mul-le (unsigned_abs gains.scale) (unsigned_abs weight) 409700000000 100000000000 scale_size
        weight_size,
  )) (omega arith)

  -- the code's product
  scale_read : kept gains.scale *ℤ kept weight ≡ gains.scale *ℤ weight
  scale_read = product_read gains.scale weight (omega (
    arith,
    ints,
    gains.valid.some,
    gains.valid.fine,
  )) (omega (arith, ints, small.above, small.below))

  -- it fits
  pub asked_fits : FitsSigned w128 (kept gains.scale *ℤ kept weight)
  asked_fits = subst (FitsSigned w128) (sym scale_read) (fits (gains.scale *ℤ weight) asked_small)
    where
      fits : (z : ℤ) → IsBelow (2 ^ 76) z → FitsSigned w128 z
      fits z low = omega (arith, ints, low.above, low.below)

  -- it is what is asked
  asked_read : kept (kept gains.scale *ℤ kept weight) ≡ gains.scale *ℤ weight
  asked_read = to_z-of_z w128 (kept gains.scale *ℤ kept weight) asked_fits ∙ scale_read

  module _ (less : ℤ) (less_small : IsBelow (2 ^ 79) less) where
    -- the code's difference
    difference_read : kept (kept gains.scale *ℤ kept weight) -ℤ kept less
        ≡ (gains.scale *ℤ weight) -ℤ less
    difference_read = ap (λ z. z -ℤ kept less) asked_read ∙ ap (λ z. (gains.scale *ℤ weight) -ℤ z)
        (to_z-of_z w128 less (omega (arith, ints, less_small.above, less_small.below)))

    -- it is small
    pub less_is_small : IsBelow (2 ^ 80) ((gains.scale *ℤ weight) -ℤ less)
    less_is_small = at (gains.scale *ℤ weight) asked_small
      where
        at : (asked : ℤ) → IsBelow (2 ^ 76) asked → IsBelow (2 ^ 80) (asked -ℤ less)
        at asked low = record {
          above = omega (arith, ints, low.above, less_small.below);
          below = omega (arith, ints, low.below, less_small.above);
        }

    -- it fits
    pub less_fits : FitsSigned w128 (kept (kept gains.scale *ℤ kept weight) -ℤ kept less)
    less_fits = subst (FitsSigned w128) (sym difference_read)
        (fits ((gains.scale *ℤ weight) -ℤ less) less_is_small)
      where
        fits : (z : ℤ) → IsBelow (2 ^ 80) z → FitsSigned w128 z
        fits z low = omega (arith, ints, low.above, low.below)

    -- and is the difference
    pub less_read : kept (kept (kept gains.scale *ℤ kept weight) -ℤ kept less)
        ≡ (gains.scale *ℤ weight) -ℤ less
    less_read = to_z-of_z w128 (kept (kept gains.scale *ℤ kept weight) -ℤ kept less) less_fits
        ∙ difference_read

-- what the code answers for a setup constraint is its gain
pub setup_gain : (gains : Gains) (constraint : Constraint)
    → constraint.setup ≡ true → IsBelow (10 ^ 11) constraint.weight → kept (kept
    (kept gains.scale *ℤ kept constraint.weight) -ℤ kept gains.setup) ≡ gain_of gains constraint
setup_gain gains constraint setup small =
    less_read gains constraint.weight small gains.setup gains.valid.setup ∙ rw setup refl

-- and so it is for a hold constraint
pub hold_gain : (gains : Gains) (constraint : Constraint)
    → constraint.setup ≡ false → IsBelow (10 ^ 11) constraint.weight → kept (kept
    (kept gains.scale *ℤ kept constraint.weight) -ℤ kept gains.hold) ≡ gain_of gains constraint
hold_gain gains constraint hold small =
    less_read gains constraint.weight small gains.hold gains.valid.hold ∙ rw hold refl

-- a gain is small
pub gain_small : (gains : Gains) (constraint : Constraint) → IsBelow (10 ^ 11) constraint.weight
    → IsBelow (2 ^ 80) (gain_of gains constraint)
gain_small gains constraint small = at constraint.setup
  where
    at : (setup : Bool) → IsBelow (2 ^ 80) ((gains.scale *ℤ constraint.weight)
        -ℤ (if setup then gains.setup else gains.hold))
    at true = less_is_small gains constraint.weight small gains.setup gains.valid.setup
    at false = less_is_small gains constraint.weight small gains.hold gains.valid.hold
