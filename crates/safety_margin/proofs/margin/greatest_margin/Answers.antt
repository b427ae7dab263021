-- What the greatest ratio says of the margin.
use Rattle.safety_margin.proofs.Vocabulary.{List, ℕ, All, Contains, All-contains_itself, Constraint}
use Rattle.critical_cycle.specs.CyclePlaces.{AreWithin, constraints_at}
use Rattle.critical_cycle.proofs.PlaceLemmas.{All-constraints_at}
use Rattle.safety_margin.proofs.MarginLemmas.{can_spare, margin_small, no_more, shows_margin}
use Rattle.safety_margin.proofs.RatioLemmas.{below_can_try, no_cycle}
use Rattle.safety_margin.proofs.margin.greatest_margin.Goals as goal

-- the constraints at places are constraints of the list
among : (constraints : List Constraint) (cycle : List ℕ) → AreWithin constraints cycle
    → All (Contains constraints) (constraints_at constraints cycle)
among constraints cycle within =
    All-constraints_at (Contains constraints) constraints cycle (All-contains_itself constraints)
    within

pub greatest_ratio-requires-clause-first : goal.greatest_ratio-requires-clause-first
greatest_ratio-requires-clause-first c =
    below_can_try c.args.period c.below_all.result c.measure_at-measure.result c.requires.period
    c.measure_at-measure.ensures c.below_all.ensures

pub sparing_schedule-requires-clause-value : goal.sparing_schedule-requires-clause-value
sparing_schedule-requires-clause-value c =
    let found = rw c.in-Cycle.is at c.in_ok-ratio.ensures.ratio in
    margin_small c.args.period c.in-Cycle.ratio c.margin_at-value.result c.requires.period
    (rw (c.measure_at-measure.ensures.scale_is, c.measure_at-measure.ensures.period_is) at
    found.small) c.margin_at-value.ensures

pub sparing_schedule-requires-clause-spared : goal.sparing_schedule-requires-clause-spared
sparing_schedule-requires-clause-spared c =
    let found = rw c.in-Cycle.is at c.in_ok-ratio.ensures.ratio in
    can_spare c.measure_at-measure.ensures c.margin_at-value.ensures c.args.constraints.now
    found.satisfied

pub returns-in_ok-schedule-in-Cycle-clause-margin :
    goal.returns-in_ok-schedule-in-Cycle-clause-margin
returns-in_ok-schedule-in-Cycle-clause-margin c =
    let found = rw c.in-Cycle.is at c.in_ok-ratio.ensures.ratio in
    let constraints = c.args.constraints.now in
    let steps = constraints_at constraints c.in-Cycle.cycle in
    record {
      greatest = no_more c.measure_at-measure.ensures c.margin_at-value.ensures constraints steps
          (among constraints c.in-Cycle.cycle found.within) found.shows;
      within = found.within;
      shows = shows_margin c.measure_at-measure.ensures c.margin_at-value.ensures steps
          found.shows;
      lowest = found.lowest;
      spared = c.in_ok-schedule-in-Cycle.ensures.sparing;
    }

pub returns-in_ok-schedule-in-Cycle-clause-unbounded :
    goal.returns-in_ok-schedule-in-Cycle-clause-unbounded
returns-in_ok-schedule-in-Cycle-clause-unbounded c =
    let found = rw c.in-Cycle.is at c.in_ok-ratio.ensures.ratio in
    let constraints = c.args.constraints.now in (
      λ unbounded. absurd unbounded,
      λ none. none (constraints_at constraints c.in-Cycle.cycle)
          (among constraints c.in-Cycle.cycle found.within) found.shows.is_cycle,
    )

pub returns-in-First-clause-margin : goal.returns-in-First-clause-margin
returns-in-First-clause-margin c =
    no_cycle _ c.args.constraints.now c.args.period c.below_all.result c.measure_at-measure.result
    c.requires.small c.requires.period c.measure_at-measure.ensures c.below_all.ensures
    (rw c.in-First.is at c.in_ok-ratio.ensures.ratio)

pub returns-in-First-clause-unbounded : goal.returns-in-First-clause-unbounded
returns-in-First-clause-unbounded c =
    (λ unbounded. returns-in-First-clause-margin c, λ none. tt)
