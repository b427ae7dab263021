-- The pairs of the registers passed so far are listed.
use Rattle.path_delays.proofs.Vocabulary.{ListsPairsBefore}
use Rattle.path_delays.proofs.path_search.Paths.push_block.Given as goal

abbrev pub invariant-loop-from : goal.invariant-loop-from
invariant-loop-from l = ListsPairsBefore l.self-inside.circuit.now l.self-inside.tech.now l.from 0
    l.pairs.list.items
