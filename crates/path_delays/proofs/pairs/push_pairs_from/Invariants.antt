-- The pairs before the next register are listed.
use Rattle.path_delays.proofs.Vocabulary.{ℕ, Tech, HasReach, ListsPairsBefore}
use Rattle.path_delays.specs.Capturings.{registers_of}
use Rattle.path_delays.proofs.PendingPairs.{ArePassed}
use Rattle.path_delays.proofs.pairs.push_pairs_from.Given as goal

abbrev pub invariant-loop-capture : goal.invariant-loop-capture
invariant-loop-capture l = (next : ℕ)
    × ArePassed (registers_of l.captures.list.items) l.capture-index next
    × ((tech : Tech) → HasReach l.circuit tech l.from l.lane.number l.walk
    → ListsPairsBefore l.circuit tech l.from 0 l.initial.pairs.list.items
    → ListsPairsBefore l.circuit tech l.from next l.pairs.list.items)
