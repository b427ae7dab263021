-- From the least period of a circuit's constraints to the outcome of the circuit.
use Rattle.cts_engine.proofs.Vocabulary.{◌≡◌, ◌↔◌, ℕ, ℤ, pos, ◌*ℤ◌, ◌≤ℤ◌, List, arith, nat_abs, ints, Fraction, Circuit, Tech, Constraint, Cycle, IsConstraintOf, IsLeastPeriodOf, AreLeastArrivals, IsLeastScheduleOf, IsForbidding, IsPeriodShow, HasNoPeriod, Found, Never, AreConstraintsOf, constraints_at}
use Rattle.cts_model.specs.Vocabulary.{IsLeastPeriod}
use Rattle.cts_model.proofs.CircuitConstraints.{forbidding_at_all}
use Rattle.outcomes.specs.declared.period.PeriodOutcome.{PeriodOutcome}
use Rattle.outcomes.specs.PeriodOutcomes.{IsPeriodOutcome, IsNeverOutcome}
use Rattle.critical_cycle.specs.Periods.{IsShownPeriod, IsForbidden}
use Rattle.cts_engine.proofs.PlaceLemmas.{All-constraints_at}

-- a fraction that stands for a whole number is that number over 1
pub whole_fraction : (num den value : ℤ) → pos 1 ≤ℤ den → den ≤ℤ pos 1
    → (num *ℤ pos 1) ≡ (value *ℤ den) → (num ≡ value) × (den ≡ pos 1)
whole_fraction num den value some low same = search (arith, ints)

module _ {circuit : Circuit} {tech : Tech} {constraints : List Constraint}
    (are : AreConstraintsOf circuit tech constraints) where
  -- the least period of the constraints is that of the circuit
  pub least_of_circuit : (numerator : ℤ) (denominator : ℕ)
      → IsLeastPeriodOf constraints tech.floor numerator denominator
      → IsLeastPeriod circuit tech numerator denominator
  least_of_circuit numerator denominator is_least = record {
    proper = is_least.proper;
    admitted =
        let (floor, (arrival, satisfied)) = is_least.admitted in
        (floor, (arrival, (are.meets denominator numerator arrival).0 satisfied));
    least = λ scale period proper smaller (floor, (arrival, met)).
        is_least.least scale period proper smaller
        (floor, (arrival, (are.meets scale period arrival).1 met));
  }

  -- so are their least arrivals
  pub least_arrivals : (numerator : ℤ) (denominator : ℕ) (at : List ℤ)
      → IsLeastScheduleOf constraints numerator denominator at
      → AreLeastArrivals circuit tech numerator denominator at
  least_arrivals numerator denominator at is_least = search arith

  -- a cycle of the constraints shows the period of the circuit
  pub shown_by_cycle : (value : Fraction) (cycle : List ℕ)
      → IsShownPeriod constraints tech.floor value cycle
      → IsPeriodShow circuit tech value (Cycle (constraints_at constraints cycle))
  shown_by_cycle value cycle shown = record {
    of_circuit =
        All-constraints_at (IsConstraintOf circuit tech) constraints cycle are.each shown.within;
    above_floor = shown.above;
    shows = shown.shows;
  }

  -- what a cycle of the constraints forbids, one of the circuit forbids
  pub forbidden_by_cycle : (cycle : List ℕ) → IsForbidden constraints cycle
      → IsForbidding circuit tech (constraints_at constraints cycle)
  forbidden_by_cycle cycle forbidden = record {
    of_circuit = All-constraints_at (IsConstraintOf circuit tech) constraints cycle are.each
        forbidden.within;
    forbids = forbidden.forbids;
  }

-- the outcome is that no period will do exactly where none is admitted
pub never_exactly : (circuit : Circuit) (tech : Tech) (outcome : PeriodOutcome)
    → IsPeriodOutcome circuit tech outcome → IsNeverOutcome outcome ↔ HasNoPeriod circuit tech
never_exactly circuit tech (Found zero_skew period shown) found = (
  λ never. absurd never,
  λ none. absurd (none (nat_abs period.den) period.num found.least.proper found.least.admitted),
)
never_exactly circuit tech (Never cycle) forbidding =
    (λ never. forbidding_at_all circuit tech cycle forbidding, λ none. tt)
