-- The statuses of the calls, which are those of the program.
use Rattle.std.specs.Prelude.{◌≡◌, ◌⊎◌, ℕ}
use Rattle.path_delays.specs.declared.fault.PairFault.{PairFault}
use Rattle.path_delays.specs.declared.fault.PairFault.TheVariants as pairs
use Rattle.cts_engine.specs.declared.refusals.Refusal.{Refusal}
use Rattle.cts_engine.specs.declared.refusals.Refusal.TheVariants as refusals
use Rattle.cts_c.specs.declared.failure.Failure.{Failure}
use Rattle.cts_c.specs.declared.failure.Failure.TheVariants.{Refused, NoMemory}

-- there is no answer
abbrev pub failure_status : Failure → ℕ
failure_status Refused = 3
failure_status NoMemory = 6

-- the failure where texts aren't accepted
abbrev pub refusal_failure : Refusal → Failure
refusal_failure refusals.NoMemory = NoMemory
refusal_failure refusal = Refused

-- the failure where a circuit has no outcome
abbrev pub pair_failure : PairFault → Failure
pair_failure pairs.TooManyPairs = Refused
pair_failure pairs.NoMemory = NoMemory

-- there is a text
abbrev pub IsEnding : (status : ℕ) → Type 0
IsEnding status = (status ≡ 0) ⊎ (status ≡ 1)

-- there is no answer
abbrev pub IsFailure : (status : ℕ) → Type 0
IsFailure status = (status ≡ 3) ⊎ (status ≡ 6)

-- a call that answers a text has no other status: with 5 the buffer is too small
abbrev pub IsStatus : (status : ℕ) → Type 0
IsStatus status = IsEnding status ⊎ ((status ≡ 5) ⊎ IsFailure status)
