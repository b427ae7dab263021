-- What a register reaches: the least and the greatest sum of delays from it to each signal.
use Rattle.std.specs.Prelude.{◌≡◌, ◌≤ℤ◌, ℕ, List, [], ◌∷◌, Option, Some, None}
use Rattle.path_delays.specs.Types.{Circuit, Tech}
use Rattle.cts_model.specs.Vocabulary.{Follows, Launches, least_delay, greatest_delay}
use Rattle.path_delays.specs.declared.sums.Sums.{Sums}
use Rattle.path_delays.specs.SumParts.{AreWithin, delay_limit}

-- gates that read one another, from a signal that the register launches up to a signal
abbrev pub IsChain : Circuit → ℕ → ℕ → List ℕ → Type 0
IsChain circuit from signal [] = ⊥
IsChain circuit from signal (first ∷ gates) =
    Launches circuit from first × Follows circuit.signals first gates signal

-- each of the two sums is the delay of some chain
pub record AreShown (circuit : Circuit) (tech : Tech) (from signal : ℕ) (sums : Sums) : Type 0 where
  pub least : (chain : List ℕ) × IsChain circuit from signal chain
      × (least_delay circuit tech chain ≡ sums.least)
  pub greatest : (chain : List ℕ) × IsChain circuit from signal chain
      × (greatest_delay circuit tech chain ≡ sums.greatest)

-- the least and the greatest delay over all chains to a signal
pub record AreExtreme (circuit : Circuit) (tech : Tech) (from signal : ℕ)
    (sums : Sums) : Type 0 where
  pub shown : AreShown circuit tech from signal sums
  pub least : (chain : List ℕ) → IsChain circuit from signal chain
      → sums.least ≤ℤ least_delay circuit tech chain
  pub greatest : (chain : List ℕ) → IsChain circuit from signal chain
      → greatest_delay circuit tech chain ≤ℤ sums.greatest
  pub within : AreWithin delay_limit sums

-- no sums where no chain leads to the signal
abbrev pub IsReach : Circuit → Tech → ℕ → ℕ → Option Sums → Type 0
IsReach circuit tech from signal None = (chain : List ℕ) → IsChain circuit from signal chain → ⊥
IsReach circuit tech from signal (Some sums) = AreExtreme circuit tech from signal sums
