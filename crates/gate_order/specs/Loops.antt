-- Why the gates of a circuit have no order.
use Rattle.std.specs.Prelude.{List}
use Rattle.cts_model.specs.declared.signal.Signal.{Signal}
use Rattle.cts_model.specs.Vocabulary.{IsNamedLoop}
use Rattle.gate_order.specs.declared.fault.LevelFault.{LevelFault}
use Rattle.gate_order.specs.declared.fault.LevelFault.TheVariants.{Loop, NoMemory}

-- the ring is one of these signals; memory may run out at any circuit
abbrev pub ShowsLoop : List Signal → LevelFault → Type 0
ShowsLoop signals (Loop gates) = IsNamedLoop signals gates
ShowsLoop signals NoMemory = Unit {0}
