use Rattle.place_reader.proofs.Vocabulary.{◌≤◌, length, take, register_nodes, AreSameNames}
use Rattle.place_reader.proofs.wanted.wanted_nodes.Given as goal

abbrev pub invariant-loop-register : goal.invariant-loop-register
invariant-loop-register l = AreSameNames l.names (take l.register (register_nodes l.circuit l.host))
    × (length l.names ≤ l.register)
