-- The greatest margin of a list of constraints at a period, what shows it, and a schedule for it.
use Rattle.std.specs.Prelude.{ℕ, List}
use Rattle.cts_base.specs.declared.fraction.Fraction.{Fraction}
use Rattle.cts_model.specs.declared.constraint.Constraint.{Constraint}
use Rattle.cts_model.specs.declared.schedule.Schedule.{Schedule}
use Rattle.critical_cycle.specs.CyclePlaces.{AreWithin, IsFromLowest, constraints_at}
use Rattle.safety_margin.specs.Margins.{HasNoCycle, ShowsMargin, Spares, SparesNoMore}
use Rattle.safety_margin.specs.SparingSchedules.{IsSmallSparing, IsSparingSchedule}
use Rattle.safety_margin.specs.declared.margin.Margin.{Margin}
use Rattle.safety_margin.specs.declared.margin.Margin.TheVariants.{Found, Unbounded}

-- no arrivals spare more than the value, a cycle at these places shows it, and the schedule spares
-- it
pub record IsGreatestMargin (registers : ℕ) (constraints : List Constraint)
    (period value : Fraction) (cycle : List ℕ) (schedule : Schedule) : Type 0 where
  pub greatest : SparesNoMore (Spares constraints) period value
  pub within : AreWithin constraints cycle
  pub shows : ShowsMargin (constraints_at constraints cycle) period value
  pub lowest : IsFromLowest (constraints_at constraints cycle)
  pub spared : IsSparingSchedule registers (Spares constraints) period value schedule

-- the answer is right: the greatest margin, or there is none as there is no cycle
abbrev pub IsMarginOf : (registers : ℕ) → List Constraint → (period : Fraction) → Margin → Type 0
IsMarginOf registers constraints period (Found value cycle schedule) =
    IsGreatestMargin registers constraints period value cycle schedule
IsMarginOf registers constraints period Unbounded = HasNoCycle constraints

-- the answer is that every margin is spared
abbrev pub IsUnbounded : Margin → Type 0
IsUnbounded (Found value cycle schedule) = ⊥
IsUnbounded Unbounded = Unit {0}

-- its schedule, if it has one, is of small numbers
abbrev pub HasSmallSparing : Margin → Type 0
HasSmallSparing (Found value cycle schedule) = IsSmallSparing schedule
HasSmallSparing Unbounded = Unit {0}
