-- The first of some signals at which a walk found the greatest sum of all, or the least.
use Rattle.path_delays.proofs.Vocabulary.{ℕ, ◌≡◌, ◌<◌, ◌+◌, Bool, true, false, List, length, get_or, Contains, IsSomeAnd, arith, ℤ, cases_lt, get_or_default, some_and, Sums, Walk, IsAround, sums_to, AreExtremesOf, StandsAt, extreme_of, IsNoFurther, IsFurthest}

-- the walk found this extreme at the signal
abbrev pub FitsAt : Walk → (lane : ℕ) → Bool → ℤ → ℕ → Type 0
FitsAt walk lane greatest extreme signal =
    IsSomeAnd (sums_to walk lane signal) (λ sums. extreme_of greatest sums ≡ extreme)

-- it did at none of so many signals
abbrev pub NoneFitsBefore : Walk → (lane : ℕ) → List ℕ → Bool → ℤ → ℕ → Type 0
NoneFitsBefore walk lane signals greatest extreme count =
    (place : ℕ) → place < count → FitsAt walk lane greatest extreme (get_or signals place 0) → ⊥

-- what lies around sums is no further
no_further_around : (greatest : Bool) (sums entry : Sums) → IsAround sums entry
    → IsNoFurther greatest (extreme_of greatest entry) (extreme_of greatest sums)
no_further_around true sums entry around = around.greatest
no_further_around false sums entry around = around.least

module _ (walk : Walk) (lane : ℕ) (signals : List ℕ) (greatest : Bool) (sums : Sums)
    (are : AreExtremesOf (StandsAt (sums_to walk lane) (Contains signals)) sums) where
  -- a signal where the walk found the extreme is the furthest
  pub furthest_found : (signal : ℕ) → Contains signals signal
      → FitsAt walk lane greatest (extreme_of greatest sums) signal
      → IsFurthest walk lane (Contains signals) greatest signal
  furthest_found signal listed fits = grind (arith, some_and, no_further_around)

  -- and there is one
  pub some_fits : NoneFitsBefore walk lane signals greatest (extreme_of greatest sums)
      (length signals) → ⊥
  some_fits none = grind (arith, get_or_default)

-- one signal more at which it didn't
pub none_fits_next : (walk : Walk) (lane : ℕ) (signals : List ℕ) (greatest : Bool) (extreme : ℤ)
    (count : ℕ) → (FitsAt walk lane greatest extreme (get_or signals count 0) → ⊥)
    → NoneFitsBefore walk lane signals greatest extreme count
    → NoneFitsBefore walk lane signals greatest extreme (count + 1)
none_fits_next walk lane signals greatest extreme count unfit none place before fits =
    grind (arith, cases_lt)
