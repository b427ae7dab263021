-- The first registers of the pairs passed so far stand in their lanes, and nothing that the second
-- ones capture has a higher rank.
use Rattle.path_delays.proofs.Vocabulary.{◌≡◌, ◌<◌, ℕ, length, get_or, AreCapturedUpTo}
use Rattle.path_delays.proofs.walk.Walk.walk_between.Given as goal

abbrev pub invariant-loop-lane : goal.invariant-loop-lane
invariant-loop-lane l = record {
  lanes : length l.registers ≡ 16;
  each : (lane : ℕ) → lane < l.lane
      → get_or l.registers lane 0 ≡ (get_or l.pairs.items.now lane (0, 0)).0;
  captured : (lane : ℕ) → lane < l.lane
      → AreCapturedUpTo l.circuit l.self.network (get_or l.pairs.items.now lane (0, 0)).1 l.top;
}
