-- Sums that are carried from where they start, over gates, to all that they reach.
use Rattle.std.specs.Prelude.{◌≡◌, ◌≢◌, ◌↔◌, ℕ, List, [], ◌∷◌, Option, Some, None, Contains, slice_get}
use Rattle.path_delays.specs.Types.{Signal, Circuit, Tech}
use Rattle.cts_model.specs.Vocabulary.{Follows, Launches, Reads, least_gate_delay, greatest_gate_delay}
use Rattle.path_delays.specs.declared.sums.Sums.{Sums}
use Rattle.path_delays.specs.SumParts.{AreAround, IsAround, either_sums, sums_through}

-- the sums at the end of gates, one after the other
abbrev pub along : (delay : ℕ → Sums) → Sums → List ℕ → Sums
along delay start [] = start
along delay start (gate ∷ gates) = along delay (sums_through start (delay gate)) gates

-- the sums come to a signal: from a start, over gates that read one another
pub record Comes (signals : List Signal) (delay : ℕ → Sums) (Starts : ℕ → Sums → Type 0)
    (signal : ℕ) (sums : Sums) : Type 0 where
  pub first : ℕ
  pub start : Sums
  pub starts : Starts first start
  pub gates : List ℕ
  pub follows : Follows signals first gates signal
  pub ends : along delay start gates ≡ sums

-- of what comes one has the least sum, and one the greatest
pub record AreShownBy (Come : Sums → Type 0) (sums : Sums) : Type 0 where
  pub least : (one : Sums) × Come one × (one.least ≡ sums.least)
  pub greatest : (one : Sums) × Come one × (one.greatest ≡ sums.greatest)

-- the least and the greatest of all that comes
pub record AreExtremesOf (Come : Sums → Type 0) (sums : Sums) : Type 0 where
  pub shown : AreShownBy Come sums
  pub around : (one : Sums) → Come one → IsAround sums one

-- nothing exactly where nothing comes
abbrev pub AreExtremesIfAny : (Sums → Type 0) → Option Sums → Type 0
AreExtremesIfAny Come None = (one : Sums) → Come one → ⊥
AreExtremesIfAny Come (Some sums) = AreExtremesOf Come sums

-- what stands at each signal comes there; what has begun of the starts counts, and so does what a
-- signal has handed to a gate that reads it
pub record AreCarried (signals : List Signal) (delay : ℕ → Sums)
    (Starts Begun : ℕ → Sums → Type 0) (Handed : ℕ → ℕ → Type 0)
    (at : ℕ → Option Sums) : Type 0 where
  pub shown : (signal : ℕ) (sums : Sums) → at signal ≡ Some sums
      → AreShownBy (Comes signals delay Starts signal) sums
  pub started : (signal : ℕ) (start : Sums) → Starts signal start → Begun signal start
      → AreAround (at signal) start
  pub handed : (read gate : ℕ) → Handed read gate → Reads signals gate read → (sums : Sums)
      → at read ≡ Some sums → AreAround (at gate) (sums_through sums (delay gate))

-- more stands at one signal, and elsewhere what stood there
pub record IsJoinedAt (signal : ℕ) (found : Option Sums) (old new : ℕ → Option Sums)
    : Type 0 where
  pub here : new signal ≡ either_sums (old signal) found
  pub others : (other : ℕ) → other ≢ signal → new other ≡ old other

-- these registers start at what they launch, each with its own sums
abbrev pub StartsOf : Circuit → (IsOne : ℕ → Type 0) → (start : ℕ → Sums) → ℕ → Sums → Type 0
StartsOf circuit IsOne start signal sums =
    (from : ℕ) × IsOne from × Launches circuit from signal × (sums ≡ start from)

-- these sums stand at one of the signals
abbrev pub StandsAt : (at : ℕ → Option Sums) → (IsOne : ℕ → Type 0) → Sums → Type 0
StandsAt at IsOne sums = (signal : ℕ) × IsOne signal × (at signal ≡ Some sums)

-- these are the signals that a register launches
abbrev pub AreLaunchedBy : Circuit → (from : ℕ) → List ℕ → Type 0
AreLaunchedBy circuit from launched =
    (signal : ℕ) → Contains launched signal ↔ Launches circuit from signal

-- the sums to what a register launches
abbrev pub start_sums : Tech → Sums
start_sums tech = record { least = tech.least; greatest = tech.greatest }

-- the least and the greatest delay of the gate of a number
abbrev pub gate_sums_at : Circuit → Tech → ℕ → Sums
gate_sums_at circuit tech gate = record {
  least = least_gate_delay tech (slice_get circuit.signals gate);
  greatest = greatest_gate_delay tech (slice_get circuit.signals gate);
}
