use Rattle.cts_model.proofs.Vocabulary.{◌≡◌, take, sinks_of}
use Rattle.cts_model.proofs.grid.Grid.sinks.Given as goal

abbrev pub invariant-loop-register : goal.invariant-loop-register
invariant-loop-register l =
    l.sinks ≡ sinks_of l.self.period l.self.tech.now (take l.register l.places)
    (take l.register l.arrivals)
