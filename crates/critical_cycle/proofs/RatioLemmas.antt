-- What is shown when the search ends is shown by the rotated cycle.
use Rattle.critical_cycle.proofs.Vocabulary.{ℕ, ◌≡◌, ◌++◌, ℤ, List, take, drop, refl, Fraction, Constraint, Measure, IsFromLowest, constraints_at, SatisfiesRatio, cycle_count, cycle_weight, IsForbiddenBy, IsShownRatio, IsNeverShown, IsValueShown}
use Rattle.critical_cycle.proofs.Turns.{rotated_cycle, rotated_weight, rotated_count, rotated_length, rotated_within}

module _ (measure : Measure) (constraints : List Constraint) (cycle rotated : List ℕ) (turn : ℕ)
    (is : rotated ≡ drop turn cycle ++ take turn cycle)
    (lowest : IsFromLowest (constraints_at constraints rotated)) where
  -- a cycle that is rotated weighs the same
  weight_same : cycle_weight measure (constraints_at constraints rotated)
      ≡ cycle_weight measure (constraints_at constraints cycle)
  weight_same = rw (
    rotated_weight constraints cycle rotated turn is,
    rotated_count constraints cycle rotated turn is,
  ) refl

  -- and counts the same
  count_same : cycle_count measure (constraints_at constraints rotated)
      ≡ cycle_count measure (constraints_at constraints cycle)
  count_same = rw (
    rotated_length constraints cycle rotated turn is,
    rotated_count constraints cycle rotated turn is,
  ) refl

  -- so it shows the same value
  pub shown_rotated : (first value : Fraction) → IsValueShown measure constraints first cycle value
      → (arrival : ℕ → ℤ) → SatisfiesRatio measure constraints value arrival
      → IsShownRatio measure constraints first value rotated
  shown_rotated first value shown arrival satisfied = record {
    satisfied = (arrival, satisfied);
    above = shown.above;
    small = shown.valid;
    within = rotated_within constraints cycle rotated turn is shown.within;
    shows = record {
      is_cycle = rotated_cycle constraints cycle rotated turn is shown.shows.is_cycle;
      counts = rw count_same shown.shows.counts;
      value = rw (weight_same, count_same) shown.shows.value;
    };
    lowest = lowest;
  }

  -- or forbids every ratio
  pub forbidden_rotated : IsNeverShown measure constraints cycle
      → IsForbiddenBy measure constraints rotated
  forbidden_rotated shown = record {
    within = rotated_within constraints cycle rotated turn is shown.within;
    forbids = record {
      is_cycle = rotated_cycle constraints cycle rotated turn is shown.forbids.is_cycle;
      counts = rw count_same shown.forbids.counts;
      weighs = rw weight_same shown.forbids.weighs;
    };
    lowest = lowest;
  }
