-- The names of a circuit's registers.
use Rattle.std.specs.Prelude.{ℕ, List, length, map}
use Rattle.std.specs.List.{range_with_len}
use Rattle.cts_model.specs.declared.circuit.Circuit.{Circuit}
use Rattle.cts_model.specs.Vocabulary.{register_name}

-- in order; no two are alike
abbrev pub register_names : Circuit → List (List ℕ)
register_names circuit = map (register_name circuit) (range_with_len 0 (length circuit.registers))
