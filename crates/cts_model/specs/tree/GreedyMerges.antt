-- The greedy topology: each merge joins the two live clusters whose merging costs the least wire.
-- Edahiro, "A Clustering-Based Optimization Algorithm in Zero-Skew Routings", 1993; Chao and others
-- 1992.
use Rattle.std.specs.Prelude.{◌≡◌, ◌⊎◌, ℕ, ℤ, ◌+ℤ◌, ◌-ℤ◌, ◌<ℤ◌, List, ◌++◌, length, take, Some, slice_get, ◌+◌}
use Rattle.cts_model.specs.Types.{Sink, Merge}
use Rattle.cts_model.specs.timing.EqualArrivals.{ComesBefore}
use Rattle.cts_model.specs.tree.Regions.{IsDoubleReach}
use Rattle.cts_model.specs.tree.Topologies.{IsMerge, sinks_below}

-- twice what a merge adds to the wire: its reach counts twice, less the reaches of the two that it
-- joins. Here stands twice each of the three.
pub record IsDoubleCost (sinks : List Sink) (earlier : List Merge) (merge : Merge)
    (cost : ℤ) : Type 0 where
  pub both : ℤ
  pub first : ℤ
  pub second : ℤ
  pub first_reach : IsDoubleReach (sinks_below sinks earlier merge.first) first
  pub second_reach : IsDoubleReach (sinks_below sinks earlier merge.second) second
  pub both_reach : IsDoubleReach (sinks_below sinks earlier merge.first
      ++ sinks_below sinks earlier merge.second) both
  pub value : cost ≡ both +ℤ both -ℤ first -ℤ second

-- the one merge costs less, or it costs as much and has the lower first number, or else the lower
-- second
abbrev pub IsCheaper : (cost : ℤ) → Merge → (other_cost : ℤ) → Merge → Type 0
IsCheaper cost merge other_cost other = (cost <ℤ other_cost)
    ⊎ ((cost ≡ other_cost) × ComesBefore merge.first merge.second other.first other.second)

-- after those merges this one is cheaper than any other of two live clusters
pub record IsCheapest (sinks : List Sink) (earlier : List Merge) (merge : Merge) : Type 0 where
  pub merges : IsMerge (length sinks) earlier merge
  pub cost : ℤ
  pub costs : IsDoubleCost sinks earlier merge cost
  pub least : (other : Merge) (other_cost : ℤ) → IsMerge (length sinks) earlier other
      → IsDoubleCost sinks earlier other other_cost
      → (other ≡ merge) ⊎ IsCheaper cost merge other_cost other

-- the merges join all the sinks, each the cheapest when it is made
pub record IsGreedy (sinks : List Sink) (merges : List Merge) : Type 0 where
  pub all : length sinks ≡ length merges + 1
  pub each : (place : ℕ) (merge : Merge) → slice_get merges place ≡ Some merge
      → IsCheapest sinks (take place merges) merge
