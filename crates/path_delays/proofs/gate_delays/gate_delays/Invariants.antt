-- The delays of the signals passed so far.
use Rattle.path_delays.proofs.Vocabulary.{◌≡◌, map, take, gate_sums}
use Rattle.path_delays.proofs.gate_delays.gate_delays.Given as goal

abbrev pub invariant-loop-signal : goal.invariant-loop-signal
invariant-loop-signal l =
    l.delays.items ≡ map (gate_sums l.tech) (take l.signal-index l.signal-items)
