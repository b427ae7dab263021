-- The pairs of the inputs passed so far.
use Rattle.std.proofs.Common.{◌≡◌, ◌++◌, map, take}
use Rattle.path_delays.proofs.network.Network.push_inputs.Given as goal

abbrev pub invariant-loop-input : goal.invariant-loop-input
invariant-loop-input l = l.pairs.items
    ≡ l.initial.pairs.items ++ map (λ input. (input, l.number)) (take l.input-index l.input-items)
