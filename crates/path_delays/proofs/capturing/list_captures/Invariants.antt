-- The captures of the registers passed so far.
use Rattle.path_delays.proofs.Vocabulary.{◌≡◌, take}
use Rattle.path_delays.specs.Capturings.{ListsCaptures, registers_of}
use Rattle.path_delays.proofs.capturing.list_captures.Given as goal

abbrev pub invariant-loop-register : goal.invariant-loop-register
invariant-loop-register l = record {
  registers : registers_of l.captures.list.items ≡ take l.register-index l.registers;
  each : ListsCaptures l.circuit l.walk l.captures;
}
