-- The host of a circuit: one more signal and register after the others.
use Rattle.std.specs.Prelude.{◌≡◌, ◌++◌, ◌∷◌, [], IsFalse, length}
use Rattle.cts_model.specs.Types.{Circuit}
use Rattle.cts_model.specs.netlist.Circuits.{has_host, host_signal}

-- no signal of the circuit is the host
abbrev pub HasNoHost : Circuit → Type 0
HasNoHost circuit = IsFalse (has_host circuit.signals)

-- the circuit has the host besides, and all else as it was
pub record IsWithHost (circuit hosted : Circuit) : Type 0 where
  pub signals : hosted.signals ≡ circuit.signals ++ host_signal circuit.outputs ∷ []
  pub registers : hosted.registers ≡ circuit.registers ++ length circuit.signals ∷ []
  pub outputs : hosted.outputs ≡ circuit.outputs
