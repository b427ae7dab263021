-- The delays of the pairs passed so far.
use Rattle.path_delays.proofs.Vocabulary.{◌++◌, ℕ, List, take, AreDelaysBetween}
use Rattle.path_delays.proofs.path_search.Paths.push_delays.Given as goal

abbrev pub invariant-loop-lane : goal.invariant-loop-lane
invariant-loop-lane l = (passed : List (ℕ × ℕ))
    → AreDelaysBetween l.self-inside.circuit.now l.self-inside.tech.now passed
    l.initial.delays.items → AreDelaysBetween l.self-inside.circuit.now l.self-inside.tech.now
    (passed ++ take l.lane l.pairs.items.now) l.delays.items
