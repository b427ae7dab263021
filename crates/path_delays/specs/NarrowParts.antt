-- Sums of 32 bits in lanes, and the sums that they stand for.
use Rattle.std.specs.Prelude.{ℕ, ℤ, pos, ◌+ℤ◌, ◌-ℤ◌, ◌≤ℤ◌, map, int_lt, if◌then◌else◌, slice_index_or}
use Rattle.std.specs.List.{range_with_len}
use Rattle.path_delays.specs.declared.sums.Sums.{Sums}
use Rattle.path_delays.specs.declared.lanes.Lanes.{Lanes}
use Rattle.path_delays.specs.declared.narrow_lanes.NarrowLanes.{NarrowLanes}

-- lanes of 32 bits hold sums up to this many ticks
abbrev pub narrow_limit : ℕ
narrow_limit = 536870911

-- a least sum, beyond all that 32 bits hold where it stands for none
abbrev pub wide_least : ℤ → ℤ
wide_least sum = if int_lt sum (pos 1073741824) then sum else sum +ℤ pos 998926258176

-- a greatest sum, likewise
abbrev pub wide_greatest : ℤ → ℤ
wide_greatest sum = if int_lt sum (pos 0) then sum -ℤ pos 998926258176 else sum

-- what is kept of the least sum in a lane
abbrev pub least_in : NarrowLanes → ℕ → ℤ
least_in lanes lane = (slice_index_or lanes.least lane (record { ticks = pos 0 })).ticks

-- and of the greatest
abbrev pub greatest_in : NarrowLanes → ℕ → ℤ
greatest_in lanes lane = (slice_index_or lanes.greatest lane (record { ticks = pos 0 })).ticks

-- the sums in a lane
abbrev pub sums_in : NarrowLanes → ℕ → Sums
sums_in lanes lane = record {
  least = wide_least (least_in lanes lane);
  greatest = wide_greatest (greatest_in lanes lane);
}

-- the same sums in lanes of 64 bits
abbrev pub wide_lanes : NarrowLanes → Lanes
wide_lanes lanes = record { sums = map (sums_in lanes) (range_with_len 0 16) }

-- a delay more keeps the sums in a lane within 32 bits
pub record ArePassable (lanes : NarrowLanes) (lane : ℕ) : Type 0 where
  pub least : least_in lanes lane ≤ℤ pos 1610612735
  pub greatest : greatest_in lanes lane ≤ℤ pos 1610612735
