-- What a walk from a register shows.
use Rattle.std.specs.Prelude.{◌≡◌, ◌<◌, ◌≤◌, ℕ, List, Contains, Option, Some, None, slice_get, slice_index_or}
use Rattle.path_delays.specs.Types.{Circuit, Tech}
use Rattle.cts_model.specs.Vocabulary.{Captures}
use Rattle.path_delays.specs.declared.lanes.LaneSums.{LaneSums}
use Rattle.path_delays.specs.declared.sums.Sums.{Sums}
use Rattle.path_delays.specs.declared.walk.Walk.{Walk}
use Rattle.path_delays.specs.Carrying.{AreExtremesIfAny, StandsAt}
use Rattle.path_delays.specs.Networks.{AreCapturedUpTo, AreRanks, IsNetworkOf}
use Rattle.path_delays.specs.Handing.{HasReachRoom, rank_at, sums_at}
use Rattle.path_delays.specs.Reaches.{IsReach}

-- the sums to a signal from the register in a lane, if that reaches it
abbrev pub sums_to : Walk → (lane : ℕ) → ℕ → Option Sums
sums_to walk lane signal = sums_at walk.reach lane signal

-- in each lane the least and the greatest of the sums to some signals
abbrev pub AreMerged : Walk → List ℕ → LaneSums → Type 0
AreMerged walk signals merged = (lane : ℕ) → lane < 16 → AreExtremesIfAny
    (StandsAt (sums_to walk lane) (Contains signals)) (slice_index_or merged.sums lane None)

-- the walk's network is that of the circuit and the table, and no signal that a register captures
-- has a higher rank than its top
pub record IsRoomFor (circuit : Circuit) (tech : Tech) (walk : Walk) : Type 0 where
  pub network : IsNetworkOf circuit tech walk.network
  pub room : HasReachRoom walk.network walk.reach
  pub captured : (register : ℕ) → AreCapturedUpTo circuit walk.network register walk.top

-- a lane of the walk has the sums to all that the register reaches and that any register captures
pub record HasReach (circuit : Circuit) (tech : Tech) (from lane : ℕ) (walk : Walk) : Type 0 where
  pub each : (to signal : ℕ) → Captures circuit to signal
      → IsReach circuit tech from signal (sums_to walk lane signal)

-- a lane has the sums to each of some signals that the register reaches
abbrev pub ReachesEach : Circuit → Tech → (from lane : ℕ) → List ℕ → Walk → Type 0
ReachesEach circuit tech from lane signals walk = (signal : ℕ) → Contains signals signal
    → IsReach circuit tech from signal (sums_to walk lane signal)

-- a lane has the sums to all up to a rank, and no signal that another register captures is above it
pub record HasReachBetween (circuit : Circuit) (tech : Tech) (from to lane : ℕ) (walk : Walk)
    : Type 0 where
  pub top : ℕ
  pub each : (signal : ℕ) → rank_at walk.network signal ≤ top
      → IsReach circuit tech from signal (sums_to walk lane signal)
  pub captured : AreCapturedUpTo circuit walk.network to top

-- and so has the lane of each of these pairs
abbrev pub HaveReachBetween : Circuit → Tech → (pairs : List (ℕ × ℕ)) → Walk → Type 0
HaveReachBetween circuit tech pairs walk = (lane from to : ℕ)
    → slice_get pairs lane ≡ Some (from, to) → HasReachBetween circuit tech from to lane walk

-- the walk's ranks are those of the circuit's gates
abbrev pub HasRanksOf : Circuit → Walk → Type 0
HasRanksOf circuit walk =
    AreRanks circuit.signals walk.network.order.items walk.network.ranks.items
