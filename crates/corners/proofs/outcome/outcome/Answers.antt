-- The outcome of the combined list is that of all corners.
use Rattle.corners.proofs.Vocabulary.{◌∙◌, nat_abs}
use Rattle.corners.proofs.FloorLemmas.{kept_floor}
use Rattle.corners.proofs.OutcomeLemmas.{common_arrivals, critical_of_corners, floor_shown, forbidding_of_corners, least_common, least_floor, none_where_forbidden, small_period, whole_period}
use Rattle.corners.proofs.outcome.outcome.Goals as goal

pub returns-in_ok-least_schedule-in-Cycle-clause-ok :
    goal.returns-in_ok-least_schedule-in-Cycle-clause-ok
returns-in_ok-least_schedule-in-Cycle-clause-ok c =
    let common = c.requires.common in
    let floor = c.greatest_floor-floor.ensures in
    let period = c.in-Cycle.value in
    let shown = rw (kept_floor _ floor.small, c.in-Cycle.is) at c.in_ok-value.ensures.period in
    let made = c.in_ok-least_schedule-in-Cycle.ensures in
    record {
      least = least_common common floor.greatest period shown.least;
      shown = critical_of_corners common floor.greatest period _ _ shown
          (rw c.as_slice.ensures at c.in_ok-named-in-Cycle.ensures);
      arrivals = record {
        den = made.den;
        registers = made.registers ∙ c.len-registers.ensures;
        least = common_arrivals common floor.greatest period.num (nat_abs period.den) _
            made.least;
      };
    }

pub returns-in_ok-least_schedule-in-Cycle-clause-small :
    goal.returns-in_ok-least_schedule-in-Cycle-clause-small
returns-in_ok-least_schedule-in-Cycle-clause-small c = record {
  period = rw c.in-Cycle.is at c.in_ok-value.ensures.small;
  arrivals = c.in_ok-least_schedule-in-Cycle.ensures.small;
}

pub returns-in_ok-least_schedule-in-Cycle-clause-never :
    goal.returns-in_ok-least_schedule-in-Cycle-clause-never
returns-in_ok-least_schedule-in-Cycle-clause-never c =
    let floor = c.greatest_floor-floor.ensures in
    let shown = rw (kept_floor _ floor.small, c.in-Cycle.is) at c.in_ok-value.ensures.period in
    let least = least_common c.requires.common floor.greatest c.in-Cycle.value shown.least in
    (λ never. absurd never, λ none. absurd (none _ _ shown.least.proper least.common))

pub least_schedule-requires-in-Floor-clause-period :
    goal.least_schedule-requires-in-Floor-clause-period
least_schedule-requires-in-Floor-clause-period c =
    let small = c.greatest_floor-floor.ensures.small in
    let whole = whole_period c.of-period.result _ c.of-period.ensures.den
    (rw (kept_floor _ small) at c.of-period.ensures.value) in
    small_period c.of-period.result _ whole small

pub least_schedule-requires-in-Floor-clause-admitted :
    goal.least_schedule-requires-in-Floor-clause-admitted
least_schedule-requires-in-Floor-clause-admitted c =
    let floor = c.greatest_floor-floor.ensures in
    let kept = kept_floor _ floor.small in
    let period = c.of-period.result in
    let whole = whole_period period _ c.of-period.ensures.den
    (rw kept at c.of-period.ensures.value) in
    let least = least_floor c.requires.common floor.greatest period whole
    (rw (kept, c.in-Floor.is) at c.in_ok-value.ensures.period) in
    least.admitted.1

pub returns-in_ok-least_schedule-in-Floor-clause-ok :
    goal.returns-in_ok-least_schedule-in-Floor-clause-ok
returns-in_ok-least_schedule-in-Floor-clause-ok c =
    let common = c.requires.common in
    let floor = c.greatest_floor-floor.ensures in
    let kept = kept_floor _ floor.small in
    let period = c.of-period.result in
    let whole = whole_period period _ c.of-period.ensures.den
    (rw kept at c.of-period.ensures.value) in
    let least = least_floor common floor.greatest period whole
    (rw (kept, c.in-Floor.is) at c.in_ok-value.ensures.period) in
    let made = c.in_ok-least_schedule-in-Floor.ensures in
    record {
      least = least_common common floor.greatest period least;
      shown = floor_shown common floor.greatest period _ whole c.new.ensures;
      arrivals = record {
        den = made.den;
        registers = made.registers ∙ c.len-registers.ensures;
        least = common_arrivals common floor.greatest period.num (nat_abs period.den) _
            made.least;
      };
    }

pub returns-in_ok-least_schedule-in-Floor-clause-small :
    goal.returns-in_ok-least_schedule-in-Floor-clause-small
returns-in_ok-least_schedule-in-Floor-clause-small c =
    let small = c.greatest_floor-floor.ensures.small in
    let whole = whole_period c.of-period.result _ c.of-period.ensures.den
    (rw (kept_floor _ small) at c.of-period.ensures.value) in
    record {
      period = small_period c.of-period.result _ whole small;
      arrivals = c.in_ok-least_schedule-in-Floor.ensures.small;
    }

pub returns-in_ok-least_schedule-in-Floor-clause-never :
    goal.returns-in_ok-least_schedule-in-Floor-clause-never
returns-in_ok-least_schedule-in-Floor-clause-never c =
    let floor = c.greatest_floor-floor.ensures in
    let kept = kept_floor _ floor.small in
    let whole = whole_period c.of-period.result _ c.of-period.ensures.den
    (rw kept at c.of-period.ensures.value) in
    let is_least = least_floor c.requires.common floor.greatest c.of-period.result whole
    (rw (kept, c.in-Floor.is) at c.in_ok-value.ensures.period) in
    let least = least_common c.requires.common floor.greatest c.of-period.result is_least in
    (λ never. absurd never, λ none. absurd (none _ _ is_least.proper least.common))

pub returns-in_ok-named-in-Never-clause-ok : goal.returns-in_ok-named-in-Never-clause-ok
returns-in_ok-named-in-Never-clause-ok c =
    let floor = c.greatest_floor-floor.ensures in
    let shown = rw (kept_floor _ floor.small, c.in-Never.is) at c.in_ok-value.ensures.period in
    forbidding_of_corners c.requires.common floor.greatest _ _ shown
    (rw c.as_slice-in-Never.ensures at c.in_ok-named-in-Never.ensures)

pub returns-in_ok-named-in-Never-clause-never : goal.returns-in_ok-named-in-Never-clause-never
returns-in_ok-named-in-Never-clause-never c = (
  λ never. none_where_forbidden c.args.circuit.now c.args.techs.now _ _
      (returns-in_ok-named-in-Never-clause-ok c),
  λ none. tt,
)
