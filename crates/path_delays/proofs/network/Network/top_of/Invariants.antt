-- None of the signals passed so far has a higher rank.
use Rattle.path_delays.proofs.Vocabulary.{◌<◌, ◌≤◌, ℕ, get_or, rank_at}
use Rattle.path_delays.proofs.network.Network.top_of.Given as goal

abbrev pub invariant-loop-signal : goal.invariant-loop-signal
invariant-loop-signal l = record {
  rank : l.rank ≤ l.top;
  each : (place : ℕ) → place < l.signal-index → rank_at l.self (get_or l.signals place 0) ≤ l.top;
}
