-- The pairs of the signals passed so far.
use Rattle.std.proofs.Common.{◌≡◌, ◌++◌, map, take}
use Rattle.path_delays.proofs.captures.push_captured.Given as goal

abbrev pub invariant-loop-signal : goal.invariant-loop-signal
invariant-loop-signal l = l.pairs.items
    ≡ l.initial.pairs.items ++ map (λ signal. (signal, l.register)) (take l.signal-index l.captured)
