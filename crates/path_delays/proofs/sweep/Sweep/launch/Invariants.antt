-- The signals passed so far start too.
use Rattle.path_delays.proofs.Vocabulary.{take, AreSwept, BegunTo, NoneHanded}
use Rattle.path_delays.proofs.sweep.Sweep.launch.Given as goal

abbrev pub invariant-loop-signal : goal.invariant-loop-signal
invariant-loop-signal l = AreSwept l.self.circuit.now l.self.tech.now l.self.schedule.now 0
    (BegunTo l.self.circuit.now l.self.tech.now l.self.schedule.now l.from
    (take l.signal-index l.signal-items)) NoneHanded l.windows.items
