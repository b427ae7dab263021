-- What the texts of a problem tell: a circuit, its delays and its places, or why one of them is
-- refused. The netlist comes first, then the delay table and then the placement.
use Rattle.std.specs.Prelude.{◌≡◌, ◌≢◌, ◌==◌, ℕ, Bool, List, length, MatchBool}
use Rattle.cts_engine.specs.Types.{Circuit, Problem, Signal, Tech}
use Rattle.cts_model.specs.Vocabulary.{IsWithHost, signals_of, AreUsedKinds}
use Rattle.cts_model.specs.table.AcceptedTables.{IsDelayTable, AcceptsTable}
use Rattle.bench_reader.specs.declared.fault.BenchFault.{BenchFault}
use Rattle.bench_reader.specs.declared.fault.BenchFault.TheVariants as bench
use Rattle.bench_reader.specs.Netlists.{IsNetlist, AcceptsNetlist, RefusesNetlist}
use Rattle.delay_tables.specs.declared.fault.TechFault.{TechFault}
use Rattle.delay_tables.specs.declared.fault.TechFault.TheVariants as tech
use Rattle.delay_tables.specs.Refusals as tables
use Rattle.place_reader.specs.declared.fault.PlaceFault.{PlaceFault}
use Rattle.place_reader.specs.declared.fault.PlaceFault.TheVariants as place
use Rattle.place_reader.specs.Placements.{AcceptsPlacement, IsPlacement, RefusesPlacement}
use Rattle.cts_engine.specs.declared.refusals.Refusal.{Refusal}
use Rattle.cts_engine.specs.declared.refusals.Refusal.TheVariants as refusals

-- the circuit has the host where the table gives it a place
abbrev pub IsHostedBy : Tech → Circuit → Circuit → Type 0
IsHostedBy tech bare circuit =
    MatchBool (length tech.host == 0) (circuit ≡ bare) (IsWithHost bare circuit)

-- a table tells these delays, and gives each gate kind of these signals
pub record TellsDelays (signals : List Signal) (table : List ℕ) (tech : Tech) : Type 0 where
  pub used : List Bool
  pub kinds : AreUsedKinds signals used
  pub accepts : AcceptsTable used table tech

-- a netlist and a delay table tell this circuit and these delays
pub record TellBoth (netlist table : List ℕ) (circuit : Circuit) (tech : Tech) : Type 0 where
  pub bare : Circuit
  pub accepts : AcceptsNetlist netlist bare
  pub delays : TellsDelays bare.signals table tech
  pub hosted : IsHostedBy tech bare circuit

-- with a placement they tell this problem
pub record TellAll (netlist table placement : List ℕ) (problem : Problem) : Type 0 where
  pub tell : TellBoth netlist table problem.circuit problem.tech
  pub places : AcceptsPlacement placement problem.circuit problem.tech.source problem.tech.host
      problem.places

-- the text is a delay table that gives each gate kind of the netlist
pub record IsTableOf (netlist text : List ℕ) : Type 0 where
  pub used : List Bool
  pub kinds : AreUsedKinds (signals_of netlist) used
  pub table : IsDelayTable used text

-- the text is a placement of the circuit that a netlist and a delay table tell
pub record IsPlacementOf (netlist table text : List ℕ) : Type 0 where
  pub circuit : Circuit
  pub tech : Tech
  pub tell : TellBoth netlist table circuit tech
  pub placement : IsPlacement text circuit tech.source tech.host

-- the table for a circuit of these signals has this fault
pub record HasFaultFor (signals : List Signal) (bytes : List ℕ) (fault : TechFault) : Type 0 where
  pub named : fault ≢ tech.NoMemory
  pub used : List Bool
  pub kinds : AreUsedKinds signals used
  pub cause : tables.RefusesTable used bytes fault

-- the table of a netlist has it
abbrev pub HasTableFault : (netlist bytes : List ℕ) → TechFault → Type 0
HasTableFault netlist bytes fault = HasFaultFor (signals_of netlist) bytes fault

-- the placement of what a netlist and a delay table tell has this fault
pub record HasPlacesFault (netlist table bytes : List ℕ) (fault : PlaceFault) : Type 0 where
  pub named : fault ≢ place.NoMemory
  pub circuit : Circuit
  pub tech : Tech
  pub tell : TellBoth netlist table circuit tech
  pub cause : RefusesPlacement bytes circuit tech.source tech.host fault

-- the refusal where the netlist, the table or the placement isn't read
abbrev pub bench_refusal_of : BenchFault → Refusal
bench_refusal_of bench.NoMemory = refusals.NoMemory
bench_refusal_of fault = refusals.Bench fault

abbrev pub tech_refusal_of : TechFault → Refusal
tech_refusal_of tech.NoMemory = refusals.NoMemory
tech_refusal_of fault = refusals.Tech fault

abbrev pub places_refusal_of : PlaceFault → Refusal
places_refusal_of place.NoMemory = refusals.NoMemory
places_refusal_of fault = refusals.Places fault

-- why a netlist and a delay table are refused; memory may run out at any texts
abbrev pub IsCircuitRefusal : (netlist table : List ℕ) → Refusal → Type 0
IsCircuitRefusal netlist table (refusals.Bench fault) = RefusesNetlist netlist fault
IsCircuitRefusal netlist table (refusals.Tech fault) =
    IsNetlist netlist × HasTableFault netlist table fault
IsCircuitRefusal netlist table (refusals.Places fault) = ⊥
IsCircuitRefusal netlist table refusals.NoMemory = Unit {0}

-- why the three are: the placement has a fault only where the two before it are accepted
abbrev pub IsProblemRefusal : (netlist table placement : List ℕ) → Refusal → Type 0
IsProblemRefusal netlist table placement (refusals.Places fault) =
    IsNetlist netlist × IsTableOf netlist table
    × HasPlacesFault netlist table placement fault
IsProblemRefusal netlist table placement refusal = IsCircuitRefusal netlist table refusal
