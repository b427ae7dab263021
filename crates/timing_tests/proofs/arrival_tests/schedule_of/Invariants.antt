-- The arrivals passed so far, each below 10^19 in size.
use Rattle.timing_tests.proofs.Vocabulary.{◌≡◌, ◌^◌, length, IsBelow}
use Rattle.std.specs.Prelude.{All}
use Rattle.timing_tests.proofs.arrival_tests.schedule_of.Given as goal

abbrev pub invariant-loop-arrival : goal.invariant-loop-arrival
invariant-loop-arrival g l = All (IsBelow (10 ^ 19)) l.at.items
    × (length l.at.items ≡ l.arrival-index)
