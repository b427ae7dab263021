-- The sums to each signal, in a row of lanes each.
use Rattle.std.specs.Prelude.{◌≡◌, ◌≢◌, ◌<◌, ◌==◌, ℕ, Bool, List, [], length, map, Option, Some, None, if◌then◌else◌, slice_get, slice_index_or}
use Rattle.std.specs.Option.{option_map}
use Rattle.path_delays.specs.declared.sums.Sums.{Sums}
use Rattle.path_delays.specs.declared.lanes.Lanes.{Lanes}
use Rattle.path_delays.specs.declared.lane_table.LaneTable.{LaneTable}
use Rattle.path_delays.specs.declared.lane_table.LaneTable.TheVariants.{Narrow, Wide}
use Rattle.path_delays.specs.LaneParts.{AllBounded, lane_of}
use Rattle.path_delays.specs.NumberSets.{has_number}
use Rattle.path_delays.specs.NarrowParts.{narrow_limit, wide_lanes}
use Rattle.path_delays.specs.SumParts.{AreWithin, delay_limit, merged_sums, no_sums, sums_through}

-- the lanes of each signal
abbrev pub rows_of : LaneTable → List Lanes
rows_of (Narrow rows) = map wide_lanes rows.items
rows_of (Wide rows) = map (λ lanes. lanes) rows.items

-- they hold sums up to this many ticks
abbrev pub table_limit : LaneTable → ℕ
table_limit (Narrow rows) = narrow_limit
table_limit (Wide rows) = delay_limit

-- what stands in a lane of a signal
abbrev pub lane_in : List Lanes → (signal lane : ℕ) → Option Sums
lane_in rows signal lane = option_map (λ lanes. lane_of lanes lane) (slice_get rows signal)

-- the lanes of a signal, if it is in a set
abbrev pub row_among : List Lanes → (words : List ℕ) → ℕ → Option Lanes
row_among rows words signal = if has_number words signal then slice_get rows signal else None

-- and what stands in one of them
abbrev pub lane_among : List Lanes → (words : List ℕ) → (lane : ℕ) → ℕ → Option Sums
lane_among rows words lane signal =
    option_map (λ lanes. lane_of lanes lane) (row_among rows words signal)

-- the lanes of the signals of a set hold sums within a limit, or none
abbrev pub AreBoundedAmong : (limit : ℕ) → List Lanes → (words : List ℕ) → Type 0
AreBoundedAmong limit rows words = (signal : ℕ) (lanes : Lanes)
    → row_among rows words signal ≡ Some lanes → AllBounded limit lanes

-- the lanes of a signal that has some
abbrev pub row_at : List Lanes → ℕ → Lanes
row_at rows signal = slice_index_or rows signal (record { sums = [] })

-- a signal gets these sums in its lanes, and all else stays
pub record GetsSums (signal : ℕ) (sums : ℕ → Sums) (old new : List Lanes) : Type 0 where
  pub covers : length new ≡ length old
  pub at : (lane : ℕ) → lane < 16 → lane_in new signal lane ≡ Some (sums lane)
  pub others : (other : ℕ) → other ≢ signal → slice_get new other ≡ slice_get old other

-- what stands in a lane before, or no sums where none came
abbrev pub sums_before : (first : Bool) → Lanes → (lane : ℕ) → Sums
sums_before first row lane = if first then no_sums else lane_of row lane

-- in one lane it gets the least and the greatest of both
abbrev pub IsJoined : (signal lane : ℕ) → Sums → (first : Bool) → (old new : List Lanes) → Type 0
IsJoined signal lane sums first old new = GetsSums signal (λ other. if other == lane
    then merged_sums (sums_before first (row_at old signal) other) sums
    else sums_before first (row_at old signal) other) old new

-- the sums of one signal can be handed to another after a delay
pub record CanHand (limit : ℕ) (rows : List Lanes) (from to : ℕ) (delay : Sums) : Type 0 where
  pub known : from < length rows
  pub reader : to < length rows
  pub sums : AllBounded limit (row_at rows from)
  pub small : AreWithin limit delay

-- the other one gets them
abbrev pub IsPassed : (from to : ℕ) → Sums → (old new : List Lanes) → Type 0
IsPassed from to delay old new =
    GetsSums to (λ lane. sums_through (lane_of (row_at old from) lane) delay) old new

-- the other one gets the least and the greatest of them and its own
abbrev pub IsMerged : (from to : ℕ) → Sums → (old new : List Lanes) → Type 0
IsMerged from to delay old new = GetsSums to (λ lane. merged_sums (lane_of (row_at old to) lane)
    (sums_through (lane_of (row_at old from) lane) delay)) old new
