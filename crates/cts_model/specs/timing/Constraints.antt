-- What paths ask of the arrivals at registers, as edges between them. Fishburn, "Clock Skew
-- Optimization", 1990. Weights are in ticks; the period and the arrivals are in ticks over a scale.
use Rattle.std.specs.Prelude.{◌≡◌, ◌<◌, ◌≤◌, ◌^◌, ℕ, ℤ, pos, ◌+ℤ◌, ◌-ℤ◌, ◌*ℤ◌, ◌≤ℤ◌, MatchBool, if◌then◌else◌, List, All, length}
use Rattle.cts_model.specs.Types.{Circuit, Tech, Constraint}
use Rattle.cts_model.specs.placement.Points.{IsBelow}
use Rattle.cts_model.specs.netlist.Paths.{IsPath}
use Rattle.cts_model.specs.timing.Delays.{least_delay, greatest_delay}

-- how often a constraint counts the period
abbrev pub count_of : Constraint → ℕ
count_of constraint = if constraint.setup then 1 else 0

-- the arrival at the head is late enough for what the tail's launches
abbrev pub IsSatisfied : (scale : ℕ) (period : ℤ) (arrival : ℕ → ℤ) → Constraint → Type 0
IsSatisfied scale period arrival constraint =
    (arrival constraint.tail +ℤ (pos scale *ℤ constraint.weight))
    ≤ℤ (arrival constraint.head +ℤ (period *ℤ pos (count_of constraint)))

abbrev pub Satisfies : List Constraint → (scale : ℕ) (period : ℤ) (arrival : ℕ → ℤ) → Type 0
Satisfies constraints scale period arrival = All (IsSatisfied scale period arrival) constraints

-- a path between the two with the greatest delay of all, which with the setup time is the weight
pub record IsSetupConstraint (circuit : Circuit) (tech : Tech) (from to : ℕ)
    (weight : ℤ) : Type 0 where
  pub path : List ℕ
  pub joins : IsPath circuit from to path
  pub weight_is : greatest_delay circuit tech path +ℤ tech.setup ≡ weight
  pub greatest : (other : List ℕ) → IsPath circuit from to other
      → greatest_delay circuit tech other ≤ℤ greatest_delay circuit tech path

-- a path between the two with the least delay of all, and the weight is the hold time less it
pub record IsHoldConstraint (circuit : Circuit) (tech : Tech) (from to : ℕ)
    (weight : ℤ) : Type 0 where
  pub path : List ℕ
  pub joins : IsPath circuit from to path
  pub weight_is : tech.hold -ℤ least_delay circuit tech path ≡ weight
  pub least : (other : List ℕ) → IsPath circuit from to other
      → least_delay circuit tech path ≤ℤ least_delay circuit tech other

-- a constraint of the circuit: a setup constraint leads along its path, a hold constraint against
-- it
abbrev pub IsConstraintOf : Circuit → Tech → Constraint → Type 0
IsConstraintOf circuit tech constraint = MatchBool constraint.setup
    (IsSetupConstraint circuit tech constraint.tail constraint.head constraint.weight)
    (IsHoldConstraint circuit tech constraint.head constraint.tail constraint.weight)

-- the registers are among so many, and the weight is below 100,000,000,000 in size
pub record IsSmallConstraint (registers : ℕ) (constraint : Constraint) : Type 0 where
  pub tail : constraint.tail < registers
  pub head : constraint.head < registers
  pub weight : IsBelow (10 ^ 11) constraint.weight

-- constraints between 1 to 4,097 registers, at most two for each of 1,048,576 pairs
pub record AreSmallConstraints (registers : ℕ) (constraints : List Constraint) : Type 0 where
  pub some : 1 ≤ registers
  pub not_many : registers ≤ 4097
  pub few : length constraints ≤ 2097152
  pub each : All (IsSmallConstraint registers) constraints
