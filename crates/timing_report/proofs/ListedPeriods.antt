-- What the greatest delay of a list asks of the period.
use Rattle.timing_report.proofs.Vocabulary.{ℕ, ◌≡◌, ◌<◌, ◌≤◌, List, length, get_or, All, subst, arith, ℤ, ◌+ℤ◌, ◌≤ℤ◌, ◌<ℤ◌, ints, Tech, PairDelay, IsSmallPair, IsEnoughForAll, IsFloorForAll, IsMostNeeded}
use Rattle.timing_report.proofs.MostDelayedPairs.{IsMostSoFar}

-- a listed pair has small delays where all have
pub small_at : (pairs : List PairDelay) (place : ℕ) (pair : PairDelay) → place < length pairs
    → get_or pairs place pair ≡ pair → All IsSmallPair pairs → IsSmallPair pair
small_at pairs place pair within here small = subst IsSmallPair here (small place pair within)

-- the walk over all pairs has found this one
module _ (tech : Tech) (pairs : List PairDelay) {count : ℕ} (pair : PairDelay) (period : ℤ)
    (all : length pairs ≤ count) (most : IsMostSoFar tech.hold pairs count pair) where
  -- what the greatest delay needs is enough for all
  most_enough : (pair.greatest +ℤ tech.setup) ≤ℤ period → IsEnoughForAll tech pairs period
  most_enough within = record {
    hold = λ place other inside. most.slow place other (omega (arith, all, inside));
    setup = λ place other inside.
        let below = most.greatest place other (omega (arith, all, inside)) in omega (arith, ints);
  }

  -- where that isn't above the floor, the floor is the period
  pub floor_enough : (pair.greatest +ℤ tech.setup) ≤ℤ tech.floor → period ≡ tech.floor
      → IsFloorForAll tech pairs period
  floor_enough low is_floor = record {
    enough = most_enough (rw is_floor low);
    is_floor = is_floor;
  }

  -- else this is the period
  pub most_needed : period ≡ pair.greatest +ℤ tech.setup → tech.floor <ℤ period
      → IsMostNeeded tech pairs period pair
  most_needed is_need above = record {
    enough = most_enough (omega (arith, ints));
    above_floor = above;
    first = record {
      place = most.place;
      within = most.within;
      here = most.here;
      holds = omega (arith, ints);
      first = λ earlier other before needs.
          let less = most.first earlier other before in omega (arith, ints);
    };
  }
