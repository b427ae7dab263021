-- The places of the gates passed so far.
use Rattle.path_delays.proofs.Vocabulary.{◌≤◌, length}
use Rattle.path_delays.proofs.NetworkLemmas.{ArePlaces}
use Rattle.path_delays.proofs.network.Network.ranks.Given as goal

abbrev pub invariant-loop-place : goal.invariant-loop-place
invariant-loop-place l = record {
  places : ArePlaces (length l.circuit.signals) l.levels l.place l.ranks.items;
  few : length l.levels ≤ 65537;
}
