-- What a text that isn't read leaves of the texts of a problem: a refusal, or want of memory.
use Rattle.cts_engine.proofs.Vocabulary.{◌≡◌, ◌⊎◌, inl, inr, ℕ, Bool, List, Err, subst, told_fault, Circuit, Tech, AreUsedKinds, AcceptsNetlist, RefusesNetlist, TechFault, PlaceFault, places_in, Refusal, TellBoth, bench_refusal_of, tech_refusal_of, places_refusal_of, IsCircuitRefusal, IsProblemRefusal}
use Rattle.cts_base.specs.LineFormats.{IsToldBy}
use Rattle.bench_reader.specs.declared.fault.BenchFault.{BenchFault}
use Rattle.bench_reader.specs.declared.fault.BenchFault.TheVariants as bench
use Rattle.delay_tables.specs.declared.fault.TechFault.TheVariants as tech
use Rattle.delay_tables.specs.Refusals as tables
use Rattle.place_reader.specs.declared.fault.PlaceFault.TheVariants as place
use Rattle.cts_engine.specs.declared.refusals.Refusal.TheVariants as refusals
use Rattle.cts_engine.proofs.OneProblem.{table_accepted}

module _ (netlist table : List ℕ) where
  -- a netlist that isn't read
  pub bench_refused : (fault : BenchFault) → RefusesNetlist netlist fault ⊎ (fault ≡ bench.NoMemory)
      → IsCircuitRefusal netlist table (bench_refusal_of fault)
  bench_refused bench.NoMemory cause = tt
  bench_refused fault (inl cause) = cause
  bench_refused fault (inr memory) = cc memory

  -- a table that isn't, after a netlist that denotes this circuit
  pub tech_refused : (circuit : Circuit) → AcceptsNetlist netlist circuit → (used : List Bool)
      → AreUsedKinds circuit.signals used → (fault : TechFault)
      → tables.RefusesTable used table fault
      → IsCircuitRefusal netlist table (tech_refusal_of fault)
  tech_refused circuit accepts used kinds tech.NoMemory cause = tt
  tech_refused circuit accepts used kinds fault cause = (
    accepts.netlist,
    record {
      named = λ e. cc e;
      used = used;
      kinds = subst (λ signals. AreUsedKinds signals used) accepts.signals kinds;
      cause = cause;
    },
  )

  module _ (placement : List ℕ) where
    -- what refuses the two refuses the three
    pub circuit_refused : (refusal : Refusal) → IsCircuitRefusal netlist table refusal
        → IsProblemRefusal netlist table placement refusal
    circuit_refused (refusals.Bench fault) cause = cause
    circuit_refused (refusals.Tech fault) cause = cause
    circuit_refused (refusals.Places fault) cause = absurd cause
    circuit_refused refusals.NoMemory cause = cause

    -- a placement that isn't read, after a netlist and a table that tell this circuit
    pub places_refused : (circuit : Circuit) (tech : Tech) → TellBoth netlist table circuit tech
        → (fault : PlaceFault)
        → IsToldBy place.NoMemory (places_in placement circuit tech.source tech.host) (Err fault)
        → IsProblemRefusal netlist table placement (places_refusal_of fault)
    places_refused circuit tech tell place.NoMemory told = tt
    places_refused circuit tech tell fault told = (
      tell.accepts.netlist,
      table_accepted netlist table tell.bare.signals tech tell.accepts.signals tell.delays,
      record {
        named = λ e. cc e;
        circuit = circuit;
        tech = tech;
        tell = tell;
        cause = told_fault place.NoMemory (places_in placement circuit tech.source tech.host) fault
            (λ e. cc e) told;
      },
    )
