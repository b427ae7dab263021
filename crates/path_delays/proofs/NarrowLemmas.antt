-- Sums of 32 bits stand for sums of 64: what is merged and what passes a gate.
use Rattle.path_delays.proofs.Vocabulary.{◌≡◌, ◌<◌, ℕ, ℤ, subst, pos, negsuc, ◌+ℤ◌, ◌≤ℤ◌, ◌⊎◌, arith, int_min, int_max, ints, clamps, Sums, NarrowLanes, AreBounded, AreWithin, merged_sums, sums_through, AllBounded, lane_of, ArePassable, greatest_in, least_in, narrow_limit, wide_greatest, wide_lanes, wide_least}
use Rattle.std.proofs.lemmas.List.FromFn.{get_or-map-range_with_len}
use Rattle.path_delays.specs.NarrowParts.{sums_in}

-- sums are one where both are
same_sums : (first second : Sums) → first.least ≡ second.least → first.greatest ≡ second.greatest
    → first ≡ second
same_sums first second least greatest =
    λ i. record { least = least i; greatest = greatest i }

-- the least of two stands for the least of what they stand for
least_of_both : (x y : ℤ) → wide_least (int_min x y) ≡ int_min (wide_least x) (wide_least y)
least_of_both x y = grind (arith, ints, clamps)

-- and the greatest for the greatest
greatest_of_both : (x y : ℤ)
    → wide_greatest (int_max x y) ≡ int_max (wide_greatest x) (wide_greatest y)
greatest_of_both x y = grind (arith, ints, clamps)

-- sums within the limit stand for themselves
stands_alone : (sums : Sums) → AreWithin narrow_limit sums
    → (wide_least sums.least ≡ sums.least) × (wide_greatest sums.greatest ≡ sums.greatest)
stands_alone sums within = (
  grind (arith, ints, within.least.below),
  grind (arith, ints, within.greatest.above),
)

-- lanes of 64 bits hold the same sums
pub lane_widened : (lanes : NarrowLanes) (lane : ℕ) → lane < 16
    → lane_of (wide_lanes lanes) lane ≡ sums_in lanes lane
lane_widened lanes lane low =
    get_or-map-range_with_len (sums_in lanes) 0 16 lane lane _ low (omega arith)

-- so what is bounded there is bounded here
pub bounded_kept : (lanes : NarrowLanes) (lane : ℕ) → AllBounded narrow_limit (wide_lanes lanes)
    → lane < 16 → AreBounded narrow_limit (sums_in lanes lane)
bounded_kept lanes lane bounded low =
    subst (AreBounded narrow_limit) (lane_widened lanes lane low) (bounded lane low)

-- and so far from the end of 32 bits
pub passable : (lanes : NarrowLanes) (lane : ℕ) → AreBounded narrow_limit (sums_in lanes lane)
    → ArePassable lanes lane
passable lanes lane bounded = grind (arith, ints, clamps)

-- a delay more is one more of what they stand for
least_after : (x d : ℤ) → pos 0 ≤ℤ d → d ≤ℤ pos 536870911
    → (wide_least x ≤ℤ pos 536870911) ⊎ (pos 1000000000000 ≤ℤ wide_least x)
    → wide_least (x +ℤ d) ≡ wide_least x +ℤ d
least_after x d above below bounded = grind (arith, ints)

greatest_after : (y d : ℤ) → pos 0 ≤ℤ d → d ≤ℤ pos 536870911
    → (pos 0 ≤ℤ wide_greatest y) ⊎ (wide_greatest y ≤ℤ negsuc 999463129088)
    → wide_greatest (y +ℤ d) ≡ wide_greatest y +ℤ d
greatest_after y d above below bounded = grind (arith, ints)

-- lanes that passed a gate stand for sums that did
pub narrow_passed : (old new : NarrowLanes) (lane : ℕ) (delay : Sums)
    → AreBounded narrow_limit (sums_in old lane) → AreWithin narrow_limit delay
    → least_in new lane ≡ least_in old lane +ℤ delay.least
    → greatest_in new lane ≡ greatest_in old lane +ℤ delay.greatest
    → sums_in new lane ≡ sums_through (sums_in old lane) delay
narrow_passed old new lane delay bounded within least greatest =
    grind (arith, ints, clamps, same_sums, least_after, greatest_after)

-- merged lanes stand for merged sums
pub narrow_merged : (old other new : NarrowLanes) (lane : ℕ)
    → least_in new lane ≡ int_min (least_in old lane) (least_in other lane)
    → greatest_in new lane ≡ int_max (greatest_in old lane) (greatest_in other lane)
    → sums_in new lane ≡ merged_sums (sums_in old lane) (sums_in other lane)
narrow_merged old other new lane least greatest =
    grind (arith, ints, clamps, same_sums, least_of_both, greatest_of_both)

-- and so with sums that are joined in a lane
pub narrow_joined : (old new : NarrowLanes) (lane : ℕ) (sums : Sums) → AreWithin narrow_limit sums
    → least_in new lane ≡ int_min (least_in old lane) sums.least
    → greatest_in new lane ≡ int_max (greatest_in old lane) sums.greatest
    → sums_in new lane ≡ merged_sums (sums_in old lane) sums
narrow_joined old new lane sums within least greatest =
    grind (arith, ints, clamps, same_sums, least_of_both, stands_alone, greatest_of_both)
