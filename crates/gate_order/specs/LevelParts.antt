-- What a circuit's levels are to the calls that take them.
use Rattle.std.specs.Prelude.{ℕ, List}
use Rattle.cts_model.specs.declared.circuit.Circuit.{Circuit}
use Rattle.gate_order.specs.Orders.{IsTopologicalOrder}

-- the gates of this circuit, each after those that it reads
abbrev pub IsLevelsOf : Circuit → List ℕ → Type 0
IsLevelsOf circuit gates = IsTopologicalOrder circuit.signals gates
