-- What the files of a command tell, one after the other.
use Rattle.std.specs.Prelude.{◌≡◌, List, [], ◌∷◌}
use Rattle.cts_model.specs.declared.circuit.Circuit.{Circuit}
use Rattle.cts_model.specs.declared.problem.Problem.{Problem}
use Rattle.cts_model.specs.declared.report.Report.{Report}
use Rattle.cts_model.specs.declared.tech.Tech.{Tech}
use Rattle.cts_model.specs.declared.tree.Topology.{Topology}
use Rattle.cts_model.specs.table.PlainTable.{IsPlainTable}
use Rattle.cts_engine.specs.Accepted.{IsHostedBy}
use Rattle.move_session.specs.declared.moves.Move.{Move}

pub data Told : Type 0 where
  -- before any file
  nothing : Told
  -- by a netlist a circuit without the host, and by corners' tables after it their delays
  bare : Circuit → List Tech → Told
  -- by a netlist and a delay table a circuit and its delays
  timed : Circuit → Tech → Told
  -- by a placement after them a problem
  placed : Problem → Told
  -- by one more file a report, a topology or moves of it
  reported : Problem → Report → Told
  joined : Problem → Topology → Told
  moving : Problem → List Move → Told

-- the circuit that is told, with the host where the first table gives it a place
abbrev pub TellsCircuit : Told → Circuit → Type 0
TellsCircuit nothing circuit = ⊥
TellsCircuit (bare only []) circuit = circuit ≡ only
TellsCircuit (bare only (tech ∷ techs)) circuit = IsHostedBy tech only circuit
TellsCircuit (timed told tech) circuit = circuit ≡ told
TellsCircuit (placed problem) circuit = circuit ≡ problem.circuit
TellsCircuit (reported problem report) circuit = circuit ≡ problem.circuit
TellsCircuit (joined problem topology) circuit = circuit ≡ problem.circuit
TellsCircuit (moving problem moves) circuit = circuit ≡ problem.circuit

-- its delays by one table; without a table they are the built-in ones
abbrev pub TellsTech : Told → Tech → Type 0
TellsTech nothing tech = ⊥
TellsTech (bare only techs) tech = IsPlainTable tech
TellsTech (timed circuit told) tech = tech ≡ told
TellsTech (placed problem) tech = tech ≡ problem.tech
TellsTech (reported problem report) tech = tech ≡ problem.tech
TellsTech (joined problem topology) tech = tech ≡ problem.tech
TellsTech (moving problem moves) tech = tech ≡ problem.tech

-- this holds of the circuit and the delays that are told
pub record IsTimedSo (told : Told) (Holds : Circuit → Tech → Type 0) : Type 0 where
  pub circuit : Circuit
  pub tech : Tech
  pub tells : TellsCircuit told circuit
  pub delays : TellsTech told tech
  pub holds : Holds circuit tech
