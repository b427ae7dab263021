-- The greatest margin that the paths of a circuit have to spare at a period, what shows it, and the
-- least schedule that spares it. Fishburn, "Clock Skew Optimization", 1990. The period, the margin
-- and the arrivals are in ticks over a scale.
use Rattle.std.specs.Prelude.{ℕ, ℤ, pos, ◌+ℤ◌, List, All, length}
use Rattle.cts_base.specs.declared.fraction.Fraction.{Fraction}
use Rattle.outcomes.specs.Types.{Circuit, Constraint, Schedule, Tech}
use Rattle.cts_model.specs.Vocabulary.{IsConstraintOf, least_delay, greatest_delay, IsPath, MeetsSetup, MeetsHold}
use Rattle.critical_cycle.specs.CyclePlaces.{IsFromLowest}
use Rattle.safety_margin.specs.Margins.{ShowsMargin, SparesNoMore}
use Rattle.safety_margin.specs.SparingSchedules.{IsSmallSparing, IsSparingSchedule}
use Rattle.outcomes.specs.declared.margin.MarginOutcome.{MarginOutcome}
use Rattle.outcomes.specs.declared.margin.MarginOutcome.TheVariants.{Found, Unbounded}

-- both inequalities, over every path, hold with this much to spare
pub record SparesOverPaths (circuit : Circuit) (tech : Tech) (scale : ℕ) (period margin : ℤ)
    (arrival : ℕ → ℤ) : Type 0 where
  pub setup : (from to : ℕ) (path : List ℕ) → IsPath circuit from to path →
      MeetsSetup (arrival from +ℤ margin) (arrival to) (greatest_delay circuit tech path)
      tech.setup (pos scale) period
  pub hold : (from to : ℕ) (path : List ℕ) → IsPath circuit from to path →
      MeetsHold (arrival from) (arrival to +ℤ margin) (least_delay circuit tech path) tech.hold
      (pos scale)

-- no arrivals spare more than the value, a cycle of the circuit's constraints shows it, and the
-- schedule spares it
pub record IsGreatestOverPaths (circuit : Circuit) (tech : Tech) (period value : Fraction)
    (cycle : List Constraint) (schedule : Schedule) : Type 0 where
  pub greatest : SparesNoMore (SparesOverPaths circuit tech) period value
  pub of_circuit : All (IsConstraintOf circuit tech) cycle
  pub shows : ShowsMargin cycle period value
  pub lowest : IsFromLowest cycle
  pub spared : IsSparingSchedule (length circuit.registers) (SparesOverPaths circuit tech) period
      value schedule

-- no path joins two registers
abbrev pub HasNoPath : Circuit → Type 0
HasNoPath circuit = (from to : ℕ) (path : List ℕ) → IsPath circuit from to path → ⊥

-- the greatest margin, or that every margin is spared as there is no path
abbrev pub IsMarginOutcome : Circuit → Tech → (period : Fraction) → MarginOutcome → Type 0
IsMarginOutcome circuit tech period (Found value cycle schedule) =
    IsGreatestOverPaths circuit tech period value cycle schedule
IsMarginOutcome circuit tech period Unbounded = HasNoPath circuit

-- the outcome is that every margin is spared
abbrev pub IsUnboundedOutcome : MarginOutcome → Type 0
IsUnboundedOutcome (Found value cycle schedule) = ⊥
IsUnboundedOutcome Unbounded = Unit {0}

-- the schedule of the outcome, if it has one, is of small numbers
abbrev pub IsSmallOutcome : MarginOutcome → Type 0
IsSmallOutcome (Found value cycle schedule) = IsSmallSparing schedule
IsSmallOutcome Unbounded = Unit {0}
