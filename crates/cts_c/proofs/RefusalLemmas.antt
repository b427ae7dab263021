-- Texts that are accepted aren't refused, and what a refusal leaves of a call.
use Rattle.cts_c.proofs.Vocabulary.{◌≡◌, ℕ, List, refl, JoinsMoreThan, table_accepted, table_fine, FailsFor, refusal_failure, pair_failure, Failure, Refused, NoMemory}
use Rattle.cts_model.specs.declared.circuit.Circuit.{Circuit}
use Rattle.cts_model.specs.declared.tech.Tech.{Tech}
use Rattle.bench_reader.proofs.OneFault.{no_fault}
use Rattle.path_delays.specs.JoinedPairs.{ShowsTooMany}
use Rattle.path_delays.specs.declared.fault.PairFault.{PairFault}
use Rattle.path_delays.specs.declared.fault.PairFault.TheVariants as pairs
use Rattle.cts_engine.specs.Accepted.{TellBoth, IsCircuitRefusal}
use Rattle.cts_engine.specs.declared.refusals.Refusal.{Refusal}
use Rattle.cts_engine.specs.declared.refusals.Refusal.TheVariants as refusals

module _ (bench tech : List ℕ) where
  -- two texts that tell a circuit have no refusal but want of memory
  pub both_unrefused : (circuit : Circuit) (delays : Tech) → TellBoth bench tech circuit delays
      → (refusal : Refusal) → IsCircuitRefusal bench tech refusal
      → refusal_failure refusal ≡ NoMemory
  both_unrefused circuit delays tell (refusals.Bench fault) has =
      absurd (no_fault bench fault tell.accepts.netlist has)
  both_unrefused circuit delays tell (refusals.Tech fault) (accepted, has) =
      absurd (table_fine bench tech fault
      (table_accepted bench tech tell.bare.signals delays tell.accepts.signals tell.delays) has)
  both_unrefused circuit delays tell (refusals.Places fault) has = absurd has
  both_unrefused circuit delays tell refusals.NoMemory has = refl

-- a circuit that has no outcome joins too many pairs, or memory ran out
pub many_pairs : (circuit : Circuit) (fault : PairFault) → ShowsTooMany circuit fault
    → FailsFor (JoinsMoreThan circuit 1048576) (pair_failure fault)
many_pairs circuit pairs.TooManyPairs many = many
many_pairs circuit pairs.NoMemory many = tt

module _ {Refuses : Type 0} (failure : Failure) where
  -- what fails for one cause fails for one that follows from it
  pub fails_for : (Others : Type 0) → (Refuses → Others) → FailsFor Refuses failure
      → FailsFor Others failure
  fails_for Others gives = at failure
    where
      at : (failure : Failure) → FailsFor Refuses failure → FailsFor Others failure
      at Refused refuses = gives refuses
      at NoMemory fails = tt

  -- and where there is no cause, memory ran out
  pub fails_alone : (Refuses → ⊥) → FailsFor Refuses failure → failure ≡ NoMemory
  fails_alone none = at failure
    where
      at : (failure : Failure) → FailsFor Refuses failure → failure ≡ NoMemory
      at Refused refuses = absurd (none refuses)
      at NoMemory fails = refl
