-- Paths whose delay is the greatest of all between two registers, or the least.
use Rattle.std.specs.Prelude.{◌≡◌, ◌≤ℤ◌, ℤ, ℕ, Bool, true, false, List, Option, Some, None, MatchOption}
use Rattle.path_delays.specs.Types.{Circuit, Tech}
use Rattle.cts_model.specs.Vocabulary.{IsPath, least_delay, greatest_delay}
use Rattle.path_delays.specs.declared.sums.Sums.{Sums}
use Rattle.path_delays.specs.declared.walk.Walk.{Walk}
use Rattle.path_delays.specs.WalkParts.{sums_to}

-- a path's greatest delay, or its least
abbrev pub delay_by : Bool → Circuit → Tech → List ℕ → ℤ
delay_by true circuit tech path = greatest_delay circuit tech path
delay_by false circuit tech path = least_delay circuit tech path

-- the greatest of two sums, or the least
abbrev pub extreme_of : Bool → Sums → ℤ
extreme_of true sums = sums.greatest
extreme_of false sums = sums.least

-- the other number is no greater, or no less
abbrev pub IsNoFurther : Bool → ℤ → ℤ → Type 0
IsNoFurther true other extreme = other ≤ℤ extreme
IsNoFurther false other extreme = extreme ≤ℤ other

-- no path from the one register to the other has a greater delay than this one, or a lesser
pub record IsExtremePath (circuit : Circuit) (tech : Tech) (from to : ℕ) (greatest : Bool)
    (path : List ℕ) : Type 0 where
  pub is_path : IsPath circuit from to path
  pub extreme : (other : List ℕ) → IsPath circuit from to other
      → IsNoFurther greatest (delay_by greatest circuit tech other)
      (delay_by greatest circuit tech path)

-- nothing exactly where no path joins the two registers
abbrev pub IsExtremeIfAny : Circuit → Tech → ℕ → ℕ → Bool → Option (List ℕ) → Type 0
IsExtremeIfAny circuit tech from to greatest found =
    MatchOption found ((path : List ℕ) → IsPath circuit from to path → ⊥)
    (IsExtremePath circuit tech from to greatest)

-- of what the walk found in a lane at some signals none is further than at this one
pub record IsFurthest (walk : Walk) (lane : ℕ) (IsOne : ℕ → Type 0) (greatest : Bool)
    (signal : ℕ) : Type 0 where
  pub is_one : IsOne signal
  pub sums : Sums
  pub here : sums_to walk lane signal ≡ Some sums
  pub furthest : (other : ℕ) (entry : Sums) → IsOne other → sums_to walk lane other ≡ Some entry
      → IsNoFurther greatest (extreme_of greatest entry) (extreme_of greatest sums)

-- nothing where the walk found nothing at any of them
abbrev pub IsFurthestIfAny : Walk → (lane : ℕ) → (ℕ → Type 0) → Bool → Option ℕ → Type 0
IsFurthestIfAny walk lane IsOne greatest found =
    MatchOption found ((signal : ℕ) → IsOne signal → sums_to walk lane signal ≡ None)
    (IsFurthest walk lane IsOne greatest)
