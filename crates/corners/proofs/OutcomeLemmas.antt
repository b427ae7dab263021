-- From the least period of the combined list to the outcome of the circuit in all corners.
use Rattle.corners.proofs.Vocabulary.{◌≡◌, ℕ, ℤ, pos, ◌*ℤ◌, ◌≤ℤ◌, ◌<ℤ◌, List, [], get_or, Option, Some, None, refl, subst, arith, IsSomeAnd, nat_abs, slice_get, ints, All-contains_itself, All-from_get_or, All-weaker, get_or_from_slice_get, slice_get_within, Circuit, Constraint, Tech, IsConstraintOf, IsSatisfied, Satisfies, scale_le, size_same, IsSmallFloor, Combined, AreLeastCommonArrivals, HasNoCommonPeriod, IsAboveFloors, IsCommonPeriod, IsLeastCommonPeriod, MeetsEach, AreCommonConstraints, IsGreatestOf, AreOfCorners, IsCommonCritical, IsCommonForbidding, IsGreatestFloor, no_constraint, constraint_at, AreNamedAt}
use Rattle.cts_base.specs.declared.fraction.Fraction.{Fraction}
use Rattle.cts_model.specs.Vocabulary.{Meets, AdmitsPeriod, IsLeastPeriodOf, IsSmallPeriod, arrival_of}
use Rattle.cts_model.proofs.CircuitConstraints.{met_constraint}
use Rattle.cts_model.proofs.CycleLemmas.{forbidden_at_all}
use Rattle.critical_cycle.specs.Periods.{IsForbidden, IsShownPeriod}
use Rattle.schedule.specs.Schedules.{IsLeastScheduleOf}
use Rattle.corners.proofs.CornerPlaces.{corners_at_places}

-- the period is this whole number
pub record IsWhole (period : Fraction) (value : ℤ) : Type 0 where
  pub num : period.num ≡ value
  pub den : period.den ≡ pos 1

-- a fraction that stands for a whole number is that number over 1
pub whole_period : (period : Fraction) (value : ℤ) → period.den ≤ℤ pos 1
    → (period.num *ℤ pos 1) ≡ (value *ℤ period.den) → IsWhole period value
whole_period period value low same =
    let one : period.den ≡ pos 1 = omega (arith, ints, low, period.lowest.some_den) in
    let plain = rw one at same in
    record { num = omega (arith, ints, plain); den = one }

-- a small floor is a small period
pub small_period : (period : Fraction) (floor : ℤ) → IsWhole period floor → IsSmallFloor floor
    → IsSmallPeriod period
small_period period floor whole small = record {
  from_zero = omega (arith, ints, whole.num, small.positive);
  small = omega (arith, ints, whole.num, small.small);
  low = omega (arith, ints, whole.den);
}

-- a number from 1 on keeps the order
below_times : (a b times : ℤ) → pos 1 ≤ℤ times → a ≤ℤ b → (a *ℤ times) ≤ℤ (b *ℤ times)
below_times a b times some below =
    let turned : (a *ℤ pos (nat_abs times)) ≤ℤ (b *ℤ pos (nat_abs times)) =
    omega (arith, ints, scale_le (nat_abs times) a b below) in
    subst (λ n. (a *ℤ n) ≤ℤ (b *ℤ n)) (size_same times (omega (arith, ints, some))) turned

-- arrivals that meet a period in each corner satisfy the constraints of corners
satisfied_of_corners : (circuit : Circuit) (techs : List Tech) (constraints : List Constraint)
    → (corners : List ℕ) → AreOfCorners circuit techs constraints corners
    → (scale : ℕ) (period : ℤ) (arrival : ℕ → ℤ) → MeetsEach circuit techs scale period arrival
    → Satisfies constraints scale period arrival
satisfied_of_corners circuit techs constraints corners are scale period arrival met =
    All-from_get_or (IsSatisfied scale period arrival) constraints no_constraint (λ place within.
    let corner = get_or corners place 0 in
    at (constraint_at constraints place) (slice_get techs corner)
    (λ tech its. rw (get_or_from_slice_get techs corner tech tech its) at
    (met corner tech (slice_get_within techs corner tech its)))
    (are.each place within).here)
  where
    at : (constraint : Constraint) (found : Option Tech)
        → ((tech : Tech) → found ≡ Some tech → Meets circuit tech scale period arrival)
        → IsSomeAnd found (λ tech. IsConstraintOf circuit tech constraint)
        → IsSatisfied scale period arrival constraint
    at constraint None met its = absurd its
    at constraint (Some tech) met its =
        met_constraint circuit tech scale period arrival (met tech refl) constraint its

-- where a cycle of such constraints forbids every period, none is admitted in all corners
pub none_where_forbidden : (circuit : Circuit) (techs : List Tech) (cycle : List Constraint)
    → (corners : List ℕ) → IsCommonForbidding circuit techs cycle corners
    → HasNoCommonPeriod circuit techs
none_where_forbidden circuit techs cycle corners forbidding scale period proper common =
    let (above, (arrival, met)) = common in
    forbidden_at_all cycle cycle scale period arrival (All-contains_itself cycle)
    forbidding.forbids proper (satisfied_of_corners circuit techs cycle corners
    forbidding.of_corners scale period arrival met)

module _ {circuit : Circuit} {techs : List Tech} {combined : Combined} {floor : ℤ}
    (are : AreCommonConstraints circuit techs combined) (of : IsGreatestOf techs floor) where
  -- a period above the greatest floor is above each
  above_each : (scale : ℕ) (period : ℤ) → (pos scale *ℤ floor) ≤ℤ period
      → IsAboveFloors techs scale period
  above_each scale period above = All-weaker (λ tech. tech.floor ≤ℤ floor)
      (λ tech. (pos scale *ℤ tech.floor) ≤ℤ period)
      (λ tech lower. omega (arith, ints, above, scale_le scale tech.floor floor lower)) techs
      of.greatest

  -- and the other way round
  above_all : (scale : ℕ) (period : ℤ) → IsAboveFloors techs scale period
      → (pos scale *ℤ floor) ≤ℤ period
  above_all scale period above = search arith

  -- what the combined list admits is admitted in all corners
  common_where_admitted : (scale : ℕ) (period : ℤ)
      → AdmitsPeriod combined.constraints floor scale period
      → IsCommonPeriod circuit techs scale period
  common_where_admitted scale period (above, (arrival, satisfied)) = (
    above_each scale period above,
    (arrival, (are.meets scale period arrival).0 satisfied),
  )

  -- and what all corners admit, the list does
  admitted_where_common : (scale : ℕ) (period : ℤ) → IsCommonPeriod circuit techs scale period
      → AdmitsPeriod combined.constraints floor scale period
  admitted_where_common scale period (above, (arrival, met)) = (
    above_all scale period above,
    (arrival, (are.meets scale period arrival).1 met),
  )

  -- the least period of the list is that of all corners
  pub least_common : (period : Fraction)
      → IsLeastPeriodOf combined.constraints floor period.num (nat_abs period.den)
      → IsLeastCommonPeriod circuit techs period
  least_common period is_least = record {
    common = common_where_admitted (nat_abs period.den) period.num is_least.admitted;
    least = λ scale other proper smaller common. is_least.least scale other proper smaller
        (admitted_where_common scale other common);
  }

  -- where that is the floor, it is the period of the floor
  pub least_floor : (period : Fraction) → IsWhole period floor
      → IsLeastPeriodOf combined.constraints floor floor 1
      → IsLeastPeriodOf combined.constraints floor period.num (nat_abs period.den)
  least_floor period whole is_least = rw (whole.num, whole.den) is_least

  -- and the floor shows it
  pub floor_shown : (period : Fraction) (corners : List ℕ) → IsWhole period floor → corners ≡ []
      → IsGreatestFloor techs period corners
  floor_shown period corners whole none = record {
    whole = whole.den;
    a_floor = rw whole.num of.a_floor;
    greatest = rw whole.num of.greatest;
    none = none;
  }

  -- so are its least arrivals
  pub common_arrivals : (period : ℤ) (scale : ℕ) (at : List ℤ)
      → IsLeastScheduleOf combined.constraints period scale at
      → AreLeastCommonArrivals circuit techs period scale at
  common_arrivals period scale at is_least = record {
    meets = (are.meets scale period (arrival_of at)).0 is_least.satisfies;
    from_zero = is_least.from_zero;
    least = λ times other some from met.
        is_least.least times other some from ((are.meets _ _ other).1 met);
  }

  -- what a cycle of the list shows, constraints of corners show
  pub critical_of_corners : (value : Fraction) (places : List ℕ) (named : Combined)
      → IsShownPeriod combined.constraints floor value places → AreNamedAt combined places named
      → IsCommonCritical circuit techs value named.constraints named.corner
  critical_of_corners value places named shown at = record {
    of_corners = rw (at.constraints, at.corners) (corners_at_places circuit techs _ _ places
        are.of_corners shown.within);
    above_floors = All-weaker (λ tech. tech.floor ≤ℤ floor)
        (λ tech. (tech.floor *ℤ value.den) <ℤ value.num) (λ tech lower.
        omega (
          arith,
          ints,
          shown.above,
          below_times tech.floor floor value.den value.lowest.some_den lower,
        )) techs of.greatest;
    shows = rw at.constraints shown.shows;
  }

  -- what a cycle of the list forbids, constraints of corners forbid
  pub forbidding_of_corners : (places : List ℕ) (named : Combined)
      → IsForbidden combined.constraints places → AreNamedAt combined places named
      → IsCommonForbidding circuit techs named.constraints named.corner
  forbidding_of_corners places named forbidden at = record {
    of_corners = rw (at.constraints, at.corners) (corners_at_places circuit techs _ _ places
        are.of_corners forbidden.within);
    forbids = rw at.constraints forbidden.forbids;
  }
