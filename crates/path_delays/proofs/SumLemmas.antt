-- Sums: the lesser and the greater of two, what they are around, and the limits that they keep.
use Rattle.path_delays.proofs.Vocabulary.{◌≡◌, ◌+◌, ◌≤◌, ℕ, ℤ, pos, ◌≤ℤ◌, Option, Some, None, ◌⊎◌, arith, int_min, int_max, lt_z, ints, clamps, Sums, AreWithin, IsAround, AreAround, joined_sums, sums_through, most_of}
use Rattle.cts_model.proofs.ScaleLemmas.{size_same}

-- the lesser of two numbers is one of them, and no greater than either
pub min_cases : (x y : ℤ)
    → ((int_min x y ≡ x) ⊎ (int_min x y ≡ y)) × (int_min x y ≤ℤ x) × (int_min x y ≤ℤ y)
min_cases x y = grind (arith, ints, clamps, lt_z)

-- the greater of two numbers is one of them, and no less than either
pub max_cases : (x y : ℤ)
    → ((int_max x y ≡ x) ⊎ (int_max x y ≡ y)) × (x ≤ℤ int_max x y) × (y ≤ℤ int_max x y)
max_cases x y = grind (arith, ints, clamps, lt_z)

-- the greater of two sums that are no less than 0 is a number from 0 on
pub most_is : (limit : ℕ) (sums : Sums) → AreWithin limit sums
    → pos (most_of sums) ≡ int_max sums.least sums.greatest
most_is limit sums within = size_same (int_max sums.least sums.greatest)
    (omega (arith, ints, (max_cases sums.least sums.greatest).1, within.least.above))

-- it is no greater than their limit
pub most_below : (limit : ℕ) (sums : Sums) → AreWithin limit sums → most_of sums ≤ limit
most_below limit sums within = grind (arith, ints, clamps, max_cases, most_is)

-- and both are within it
pub within_most : (limit : ℕ) (sums : Sums) → AreWithin limit sums
    → AreWithin (most_of sums) sums
within_most limit sums within = grind (arith, ints, clamps, most_is, max_cases)

-- sums are around themselves
pub around_itself : (sums : Sums) → IsAround sums sums
around_itself sums = record { least = omega (arith, ints); greatest = omega (arith, ints) }

-- the joined sums are around what is joined
pub around_joined : (known : Option Sums) (sums : Sums) → IsAround (joined_sums known sums) sums
around_joined None sums = around_itself sums
around_joined (Some old) sums = grind (arith, ints, clamps, min_cases, max_cases)

-- and around what was there
pub around_known : (known : Option Sums) (sums inner : Sums) → AreAround known inner
    → IsAround (joined_sums known sums) inner
around_known None sums inner none = absurd none
around_known (Some old) sums inner around = grind (arith, ints, clamps, min_cases, max_cases)

-- two sums within a limit are joined within it
pub within_joined : (limit : ℕ) (known : Option Sums) (sums : Sums)
    → ((old : Sums) → known ≡ Some old → AreWithin limit old) → AreWithin limit sums
    → AreWithin limit (joined_sums known sums)
within_joined limit None sums before within = within
within_joined limit (Some old) sums before within =
    grind (arith, ints, clamps, min_cases, max_cases)

-- a delay more keeps within a limit that is higher by so much
pub within_through : (limit more higher : ℕ) (sums delay : Sums) → limit + more ≤ higher
    → AreWithin limit sums → AreWithin more delay → AreWithin higher (sums_through sums delay)
within_through limit more higher sums delay room within small = grind (arith, ints, clamps)
