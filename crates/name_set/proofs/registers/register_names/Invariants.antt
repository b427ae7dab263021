use Rattle.std.proofs.Common.{◌≡◌, map}
use Rattle.std.specs.List.{range_with_len}
use Rattle.cts_model.specs.Vocabulary.{register_name}
use Rattle.name_set.proofs.registers.register_names.Given as goal

abbrev pub invariant-loop-register : goal.invariant-loop-register
invariant-loop-register l =
    l.names ≡ map (register_name l.circuit) (range_with_len 0 l.register)
