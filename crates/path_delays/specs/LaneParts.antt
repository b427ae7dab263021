-- Sums from several registers, in a lane each.
use Rattle.std.specs.Prelude.{◌<◌, ℕ, slice_index_or}
use Rattle.path_delays.specs.declared.sums.Sums.{Sums}
use Rattle.path_delays.specs.declared.lanes.Lanes.{Lanes}
use Rattle.path_delays.specs.SumParts.{AreBounded, no_sums}

-- the sums in a lane
abbrev pub lane_of : Lanes → ℕ → Sums
lane_of lanes lane = slice_index_or lanes.sums lane no_sums

-- in each lane are sums within a limit, or none
abbrev pub AllBounded : ℕ → Lanes → Type 0
AllBounded limit lanes = (lane : ℕ) → lane < 16 → AreBounded limit (lane_of lanes lane)
