-- How far a walk has come that hands sums from rank to rank.
use Rattle.std.specs.Prelude.{◌≡◌, ◌<◌, ◌≤◌, ◌⊎◌, ℕ, true, List, Contains, Some, IsSome, slice_get}
use Rattle.path_delays.specs.Types.{Circuit, Tech}
use Rattle.path_delays.specs.declared.sums.Sums.{Sums}
use Rattle.path_delays.specs.declared.network.Network.{Network}
use Rattle.path_delays.specs.declared.reach.Reach.{Reach}
use Rattle.path_delays.specs.Carrying.{AreCarried, StartsOf, gate_sums_at, start_sums}
use Rattle.path_delays.specs.SumParts.{AreBounded}
use Rattle.path_delays.specs.Handing.{lane_at, lanes_at, limit_at, rank_at, sums_at, waits_at}
use Rattle.path_delays.specs.Reaches.{IsReach}

-- the rank of a gate that is reached waits, and is no lower than this
pub record IsDue (network : Network) (reach : Reach) (rank other : ℕ) : Type 0 where
  pub after : rank ≤ other
  pub gate : ℕ
  pub here : rank_at network gate ≡ other
  pub reached : IsSome (lanes_at reach gate)

-- every signal below a rank has handed on its sums
abbrev pub AllBelow : Network → ℕ → ℕ → ℕ → Type 0
AllBelow network rank read gate = rank_at network read < rank

-- and one of them, so far, to these gates alone
abbrev pub AllBelowBut : Network → ℕ → ℕ → List ℕ → ℕ → ℕ → Type 0
AllBelowBut network rank pending gates read gate =
    (rank_at network read < rank) × (read ≡ pending → Contains gates gate)

-- in a lane its register starts alone
abbrev pub StartsIn : Circuit → Tech → (registers : List ℕ) → (lane : ℕ) → ℕ → Sums → Type 0
StartsIn circuit tech registers lane =
    StartsOf circuit (λ from. slice_get registers lane ≡ Some from) (λ from. start_sums tech)

-- sums are carried in each lane, and none are beyond the limit of their rank; what is reached and
-- isn't below this rank waits
pub record IsSpread (circuit : Circuit) (tech : Tech) (network : Network) (registers : List ℕ)
    (Begun : (lane : ℕ) → ℕ → Sums → Type 0) (Handed : ℕ → ℕ → Type 0) (rank : ℕ)
    (reach : Reach) : Type 0 where
  pub limited : (lane signal : ℕ) (sums : Sums) → lane < 16 → lane_at reach lane signal ≡ Some sums
      → AreBounded (limit_at network (rank_at network signal)) sums
  pub carried : (lane : ℕ) → lane < 16
      → AreCarried circuit.signals (gate_sums_at circuit tech)
      (StartsIn circuit tech registers lane) (Begun lane) Handed (sums_at reach lane)
  pub waits : (signal : ℕ) → IsSome (lanes_at reach signal) → rank ≤ rank_at network signal
      → waits_at reach (rank_at network signal) ≡ true
  pub due : (other : ℕ) → waits_at reach other ≡ true → IsDue network reach rank other

-- all lanes below a number have begun
abbrev pub LanesBelow : (below lane : ℕ) → ℕ → Sums → Type 0
LanesBelow below lane signal sums = lane < below

-- and in one lane these signals
abbrev pub BegunIn : (lane : ℕ) → (launched : List ℕ) → ℕ → ℕ → Sums → Type 0
BegunIn lane launched other signal sums =
    (other < lane) ⊎ ((other ≡ lane) × Contains launched signal)

-- so many registers have begun, and all signals below a rank have handed on their sums
abbrev pub IsSpreadBelow : Circuit → Tech → Network → (registers : List ℕ) → (begun rank : ℕ)
    → Reach → Type 0
IsSpreadBelow circuit tech network registers begun rank =
    IsSpread circuit tech network registers (LanesBelow begun) (AllBelow network rank) rank

-- each lane has the sums to all that its register reaches up to a rank
abbrev pub HaveReachedUpTo : Circuit → Tech → Network → List ℕ → (top : ℕ) → Reach → Type 0
HaveReachedUpTo circuit tech network registers top reach = (lane from signal : ℕ)
    → slice_get registers lane ≡ Some from → rank_at network signal ≤ top
    → IsReach circuit tech from signal (sums_at reach lane signal)
