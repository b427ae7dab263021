-- Why texts are refused: one is too long, or they are judged so; and why a circuit is, though they
-- are accepted.
use Rattle.std.specs.Prelude.{◌≢◌, ◌≤◌, ◌⊎◌, ℕ, List, length}
use Rattle.cts_model.specs.declared.circuit.Circuit.{Circuit}
use Rattle.cts_model.specs.declared.problem.Problem.{Problem}
use Rattle.cts_model.specs.declared.tech.Tech.{Tech}
use Rattle.cts_model.specs.Vocabulary.{JoinsMoreThan}
use Rattle.cts_engine.specs.Accepted.{TellBoth, TellAll, IsCircuitRefusal, IsProblemRefusal}
use Rattle.cts_engine.specs.declared.refusals.Refusal.{Refusal}
use Rattle.cts_engine.specs.declared.refusals.Refusal.TheVariants as refusals
use Rattle.cts_c.specs.declared.failure.Failure.{Failure}
use Rattle.cts_c.specs.declared.failure.Failure.TheVariants.{Refused, NoMemory}

-- no text has more bytes
abbrev pub IsShort : List ℕ → Type 0
IsShort text = length text ≤ 16777216

-- the texts of a circuit, or of a problem, have no more
abbrev pub AreBothShort : (bench tech : List ℕ) → Type 0
AreBothShort bench tech = IsShort bench × IsShort tech

abbrev pub AreAllShort : (bench tech pl : List ℕ) → Type 0
AreAllShort bench tech pl = AreBothShort bench tech × IsShort pl

-- one of the texts of a circuit, or of a problem, is too long, or the first that isn't accepted has
-- a fault
abbrev pub AreBothRefused : (bench tech : List ℕ) → Type 0
AreBothRefused bench tech = (AreBothShort bench tech → ⊥)
    ⊎ ((refusal : Refusal) × (refusal ≢ refusals.NoMemory) × IsCircuitRefusal bench tech refusal)

abbrev pub AreRefused : (bench tech pl : List ℕ) → Type 0
AreRefused bench tech pl = (AreAllShort bench tech pl → ⊥)
    ⊎ ((refusal : Refusal) × (refusal ≢ refusals.NoMemory) × IsProblemRefusal bench tech pl refusal)

-- so it is, or they tell a circuit and paths join more pairs of its registers than a circuit may
-- have
abbrev pub RefusesSchedule : (bench tech : List ℕ) → Type 0
RefusesSchedule bench tech = AreBothRefused bench tech
    ⊎ ((circuit : Circuit) × ((delays : Tech) × TellBoth bench tech circuit delays
    × JoinsMoreThan circuit 1048576))

abbrev pub RefusesTree : (bench tech pl : List ℕ) → Type 0
RefusesTree bench tech pl = AreRefused bench tech pl
    ⊎ ((problem : Problem) × TellAll bench tech pl problem × JoinsMoreThan problem.circuit 1048576)

-- why there is no answer; memory may run out at any texts
abbrev pub FailsFor : (Refuses : Type 0) → Failure → Type 0
FailsFor Refuses Refused = Refuses
FailsFor Refuses NoMemory = Unit {0}
