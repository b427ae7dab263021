-- Sums of delays that a walk holds, and how they are handed from a signal to the gates that read
-- it.
use Rattle.std.specs.Prelude.{◌≡◌, ◌≢◌, ◌<◌, ◌≤◌, ◌+◌, ◌*◌, ◌^◌, ◌==◌, ◌&&◌, ◌||◌, ℕ, Bool, false, pos, nat_abs, List, [], ◌∷◌, length, take, All, Option, Some, None, IsSome, is_none, slice_index, slice_index_or}
use Rattle.std.specs.Int.{int_max}
use Rattle.std.specs.List.{sum_by}
use Rattle.std.specs.Option.{option_and_then, option_map, unwrap_or}
use Rattle.gate_order.specs.GroupParts.{bounds_of, group_of}
use Rattle.path_delays.specs.declared.lanes.Lanes.{Lanes}
use Rattle.path_delays.specs.declared.sums.Sums.{Sums}
use Rattle.path_delays.specs.declared.network.Network.{Network}
use Rattle.path_delays.specs.declared.reach.Reach.{Reach}
use Rattle.path_delays.specs.NumberSets.{has_number}
use Rattle.path_delays.specs.LaneParts.{AllBounded, lane_of}
use Rattle.path_delays.specs.LaneTables.{AreBoundedAmong, row_among, rows_of, table_limit}
use Rattle.path_delays.specs.SumParts.{AreWithin, delay_limit, joined_sums, merged_sums, no_sums, some_sums, sums_through}

-- the sums in all lanes to a signal, if the walk reached it
abbrev pub lanes_at : Reach → ℕ → Option Lanes
lanes_at reach signal = row_among (rows_of reach.lanes) reach.reached.words.items signal

-- what stands in a lane at a signal, if the walk reached it
abbrev pub lane_at : Reach → (lane : ℕ) → ℕ → Option Sums
lane_at reach lane signal = option_map (λ lanes. lane_of lanes lane) (lanes_at reach signal)

-- the sums in a lane to a signal, if the walk reached it there
abbrev pub sums_at : Reach → (lane : ℕ) → ℕ → Option Sums
sums_at reach lane signal = option_and_then some_sums (lane_at reach lane signal)

-- whether the gate of this rank waits to be taken
abbrev pub waits_at : Reach → ℕ → Bool
waits_at reach rank = has_number reach.waiting.words.items rank

abbrev pub rank_at : Network → ℕ → ℕ
rank_at network number = slice_index network.ranks.items number

-- what is no gate has no delay
abbrev pub no_delay : Sums
no_delay = record { least = pos 0; greatest = pos 0 }

abbrev pub delay_at : Network → ℕ → Sums
delay_at network number = slice_index_or network.delays.items number no_delay

-- the greater of two sums that are no less than 0
abbrev pub most_of : Sums → ℕ
most_of sums = nat_abs (int_max sums.least sums.greatest)

-- no delay of the gate of a number is more
abbrev pub most_at : Network → ℕ → ℕ
most_at network number = most_of (delay_at network number)

-- no sum to a signal of this rank is more
abbrev pub limit_at : Network → ℕ → ℕ
limit_at network rank = 1000000 + sum_by (most_at network) (take rank network.order.items)

-- no sum that a walk holds is more
abbrev pub limit_of : Reach → ℕ
limit_of reach = table_limit reach.lanes

-- what is reached holds sums within the limit
abbrev pub IsBounded : Reach → Type 0
IsBounded reach =
    AreBoundedAmong (limit_of reach) (rows_of reach.lanes) reach.reached.words.items

-- room for the signals of a network, whose delays are small
pub record HasReachRoom (network : Network) (reach : Reach) : Type 0 where
  pub starts : bounds_of network.readers ≡ length network.ranks.items + 1
  pub readers : (signal : ℕ) → signal < length network.ranks.items
      → All (λ gate. gate < length network.ranks.items) (group_of network.readers signal)
  pub delays : length network.delays.items ≡ length network.ranks.items
  pub apart : (signal : ℕ) → signal < length network.ranks.items
      → All (λ gate. gate ≢ signal) (group_of network.readers signal)
  pub small_delays : All (AreWithin (limit_of reach)) network.delays.items
  pub total : limit_at network (length network.order.items) ≤ limit_of reach
  pub known : limit_of reach ≤ delay_limit
  pub lanes : length (rows_of reach.lanes) ≡ length network.ranks.items
  pub reached : length network.ranks.items < 64 * length reach.reached.words.items
  pub waiting : (gate : ℕ) → rank_at network gate < 64 * length reach.waiting.words.items
  pub small : 64 * length reach.waiting.words.items < 2 ^ 32

-- a signal that is reached can hand on its sums, which are within the limit
pub record CanHandOn (network : Network) (signal : ℕ) (reach : Reach) : Type 0 where
  pub room : HasReachRoom network reach
  pub inside : signal < length network.ranks.items
  pub reached : IsSome (lanes_at reach signal)
  pub small : (given : Lanes) → lanes_at reach signal ≡ Some given
      → AllBounded (limit_of reach) given

-- room for the sums to a signal
pub record HasRoomAt (signal : ℕ) (reach : Reach) : Type 0 where
  pub row : signal < length (rows_of reach.lanes)
  pub bit : signal < 64 * length reach.reached.words.items

-- as much room as before
pub record IsSameRoom (old new : Reach) : Type 0 where
  pub lanes : length (rows_of new.lanes) ≡ length (rows_of old.lanes)
  pub reached : length new.reached.words.items ≡ length old.reached.words.items
  pub waiting : length new.waiting.words.items ≡ length old.waiting.words.items
  pub limit : limit_of new ≡ limit_of old

-- sums are joined at a signal in a lane, where it isn't reached none stand in the others, and all
-- else stays
pub record IsMarked (lane signal : ℕ) (sums : Sums) (old new : Reach) : Type 0 where
  pub room : IsSameRoom old new
  pub at : lane_at new lane signal
      ≡ Some (merged_sums (unwrap_or (lane_at old lane signal) no_sums) sums)
  pub beside : (other : ℕ) → other < 16 → other ≢ lane
      → lane_at new other signal ≡ Some (unwrap_or (lane_at old other signal) no_sums)
  pub others : (other : ℕ) → other ≢ signal → lanes_at new other ≡ lanes_at old other
  pub waits : (rank : ℕ) → waits_at new rank ≡ waits_at old rank

-- a gate gets the sums after it in each lane, and waits to be taken where it is reached first
pub record IsHanded (network : Network) (given : Lanes) (gate : ℕ) (old new : Reach) : Type 0 where
  pub room : IsSameRoom old new
  pub at : (lane : ℕ) → lane < 16 → lane_at new lane gate ≡ Some (joined_sums
      (lane_at old lane gate) (sums_through (lane_of given lane) (delay_at network gate)))
  pub others : (other : ℕ) → other ≢ gate → lanes_at new other ≡ lanes_at old other
  pub waits : (rank : ℕ) → waits_at new rank
      ≡ (is_none (lanes_at old gate) && (rank == rank_at network gate) || waits_at old rank)

-- these gates do, one after the other
abbrev pub AreHanded : Network → Lanes → List ℕ → Reach → Reach → Type 0
AreHanded network given [] old new = old ≡ new
AreHanded network given (gate ∷ gates) old new =
    (between : Reach) × IsHanded network given gate old between
    × AreHanded network given gates between new

-- the signal's sums are handed to each of its readers
abbrev pub IsHandedOn : Network → ℕ → Reach → Reach → Type 0
IsHandedOn network signal old new = (given : Lanes) → lanes_at old signal ≡ Some given
    → AreHanded network given (group_of network.readers signal) old new

-- nothing is reached
pub record IsCleared (reach : Reach) : Type 0 where
  pub none : (signal : ℕ) → lanes_at reach signal ≡ None
  pub idle : (rank : ℕ) → waits_at reach rank ≡ false
